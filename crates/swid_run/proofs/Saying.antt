-- What words say: one command, with one value of its options.
use Rattle.std.proofs.Common.{◌≡◌, ◌<◌, ◌≤◌, ◌-◌, ◌∙◌, inl, inr, ℕ, List, [], ◌∷◌, Result, Ok, Err, Bor, drop, get_or, length, map, take, refl, sym, ap, ap₂, subst, take_all, arith}
use Rattle.std.specs.Prelude.{codes}
use Rattle.clap.specs.Words.{Text}
use Rattle.wire_base.specs.declared.values.memory.Memory.{Memory}
use Rattle.command_options.proofs.CollectTaken.{one_collect}
use Rattle.command_options.proofs.FollowTaken.{one_follow}
use Rattle.command_options.specs.Collect.{IsCollect}
use Rattle.command_options.specs.Follow.{IsFollow}
use Rattle.command_options.specs.declared.collect.CollectOptions.{CollectOptions}
use Rattle.command_options.specs.declared.follow.FollowOptions.{FollowOptions}
use Rattle.swid_cli.specs.Words.{IsCommandLine, IsTagVerify}
use Rattle.swid_run.specs.declared.order.Order.{Order}
use Rattle.swid_run.specs.declared.order.Order.TheVariants as order
use Rattle.swid_run.specs.declared.plans.Plan.{Plan}
use Rattle.swid_run.specs.declared.plans.Plan.TheVariants as plan
use Rattle.swid_run.specs.Words.{AreLent, IsLine, Lends, Orders, OrdersCollect, OrdersFollow, Plans, PlansOther, SaysCollect, SaysFollow, SaysNeither, Waits}

-- ---- the first word

abbrev pub first_word : List Text → Text
first_word [] = []
first_word (word ∷ words) = word

abbrev pub other_words : List Text → List Text
other_words [] = []
other_words (word ∷ words) = words

-- Words are their first word and the others, as they are borrowed.
pub split_words : (words : List (Bor Text)) (default : Bor Text) (word : Text) → 1 ≤ length words → (get_or words 0 default).now ≡ word
    → map (λ (w : Bor Text). w.now) words ≡ word ∷ map (λ (w : Bor Text). w.now) (take (length words - 1) (drop 1 words))
split_words [] default word some is = absurd (omega (arith, some))
split_words (first ∷ words) default word some is =
    ap₂ (λ (w : Text) (ws : List Text). w ∷ ws) is
    (ap (λ (ws : List (Bor Text)). map (λ (w : Bor Text). w.now) ws) (sym (take_all (length (first ∷ words) - 1) words (omega arith))))

-- The words of the commands differ, most of them in their first octets.
abbrev first_octet : Text → ℕ
first_octet [] = 0
first_octet (octet ∷ octets) = octet

collect_not_follow : codes "collect" ≡ codes "follow" → ⊥
collect_not_follow e = let octets : 99 ≡ 102 = ap first_octet e in absurd (omega (arith, octets))

pub not_both : (words rest also : List Text) → words ≡ codes "collect" ∷ rest → words ≡ codes "follow" ∷ also → ⊥
not_both words rest also one other = collect_not_follow (ap first_word (sym one ∙ other))

-- It is that of neither.
abbrev IsOther : Text → Type 0
IsOther word = (word ≡ codes "collect" → ⊥) × (word ≡ codes "follow" → ⊥)

waits_not : (word : Text) (rest words : List Text) → IsOther word → words ≡ word ∷ rest → Waits words → ⊥
waits_not word rest words other is waits = elim waits.1 [
  | inl collect ↦ other.0 (ap first_word (sym is ∙ collect))
  | inr follow ↦ other.1 (ap first_word (sym is ∙ follow))
]

-- So is a word whose first octet is above those of both.
is_above : (word : Text) → 102 < first_octet word → IsOther word
is_above word above = (
  λ e. let octets : first_octet word ≡ 99 = ap first_octet e in absurd (omega (arith, octets, above)),
  λ e. let octets : first_octet word ≡ 102 = ap first_octet e in absurd (omega (arith, octets, above)),
)

mirror_other : IsOther (codes "mirror")
mirror_other = let above : 102 < 109 = omega arith in is_above (codes "mirror") above

tag_other : IsOther (codes "tag")
tag_other = let above : 102 < 116 = omega arith in is_above (codes "tag") above

links_other : IsOther (codes "links")
links_other = let above : 102 < 108 = omega arith in is_above (codes "links") above

replay_other : IsOther (codes "replay")
replay_other = let above : 102 < 114 = omega arith in is_above (codes "replay") above

make_other : IsOther (codes "make")
make_other = let above : 102 < 109 = omega arith in is_above (codes "make") above

-- A command line of the others waits for nobody.
pub plain_waits_not : (words : List Text) → IsCommandLine words → Waits words → ⊥
plain_waits_not words line waits = elim line [
  | inl ids ↦ waits_not (codes "mirror") _ words mirror_other ids waits
  | inr rest ↦ elim rest [
    | inl full ↦ waits_not (codes "mirror") _ words mirror_other full waits
    | inr rest ↦ elim rest [
      | inl tag ↦ waits_not (codes "tag") _ words tag_other tag waits
      | inr rest ↦ elim rest [
        | inl verify ↦ waits_not (codes "tag") _ words tag_other verify waits
        | inr rest ↦ elim rest [
          | inl links ↦ waits_not (codes "links") _ words links_other links waits
          | inr rest ↦ elim rest [
            | inl replay ↦ waits_not (codes "replay") _ words replay_other replay waits
            | inr make ↦ waits_not (codes "make") _ words make_other make.1.2 waits
          ]
        ]
      ]
    ]
  ]
]

pub verify_is_line : (words : List Text) → IsTagVerify words → IsCommandLine words
verify_is_line words verify = inr (inr (inr (inl verify)))

-- ---- options

pub collect_waits : (words : List Text) (options : CollectOptions) → SaysCollect words options → Waits words
collect_waits words options said = (said.0, inl said.1)

pub follow_waits : (words : List Text) (options : FollowOptions) → SaysFollow words options → Waits words
follow_waits words options said = (said.0, inr said.1)

pub collect_or_follow : (words : List Text) (one : CollectOptions) (other : FollowOptions) → SaysCollect words one → SaysFollow words other → ⊥
collect_or_follow words one other said so = not_both words said.0 so.0 said.1 so.1

-- Words after the same word are the same.
collect_rest : (words rest also : List Text) (first : Text) → words ≡ first ∷ rest → words ≡ first ∷ also → rest ≡ also
collect_rest words rest also first one other = ap other_words (sym one ∙ other)

pub one_says_collect : (words : List Text) (one other : CollectOptions) → SaysCollect words one → SaysCollect words other → one ≡ other
one_says_collect words one other said so =
    one_collect said.0 one other said.2 (subst (λ (rest : List Text). IsCollect rest other) (collect_rest words so.0 said.0 (codes "collect") so.1 said.1) so.2)

pub one_says_follow : (words : List Text) (one other : FollowOptions) → SaysFollow words one → SaysFollow words other → one ≡ other
one_says_follow words one other said so =
    one_follow said.0 one other said.2 (subst (λ (rest : List Text). IsFollow rest other) (collect_rest words so.0 said.0 (codes "follow") so.1 said.1) so.2)

-- ---- which command

pub orders_collect : (words rest : List Text) (result : Result Order Memory) → words ≡ codes "collect" ∷ rest → OrdersCollect rest result → Orders words result
orders_collect words rest (Ok order.Other) is none = record {
  collect = λ options said. none options (subst (λ (r : List Text). IsCollect r options) (collect_rest words said.0 rest (codes "collect") said.1 is) said.2);
  follow = λ options said. not_both words rest said.0 is said.1;
}
orders_collect words rest (Ok (order.Collect options)) is so = ((rest, is, so.0), so.1)
orders_collect words rest (Ok (order.Follow options)) is so = absurd so
orders_collect words rest (Err memory) is so = (rest, inl is)

pub orders_follow : (words rest : List Text) (result : Result Order Memory) → words ≡ codes "follow" ∷ rest → OrdersFollow rest result → Orders words result
orders_follow words rest (Ok order.Other) is none = record {
  collect = λ options said. not_both words said.0 rest said.1 is;
  follow = λ options said. none options (subst (λ (r : List Text). IsFollow r options) (collect_rest words said.0 rest (codes "follow") said.1 is) said.2);
}
orders_follow words rest (Ok (order.Collect options)) is so = absurd so
orders_follow words rest (Ok (order.Follow options)) is so = ((rest, is, so.0), so.1)
orders_follow words rest (Err memory) is so = (rest, inr is)

-- Words that do not wait say neither.
pub neither_waits : (words : List Text) → (Waits words → ⊥) → SaysNeither words
neither_waits words not = record {
  collect = λ options said. not (collect_waits words options said);
  follow = λ options said. not (follow_waits words options said);
}

-- Words that say neither are a command line only if they are one of the others.
pub neither_line : (words : List Text) → SaysNeither words → IsLine words → IsCommandLine words
neither_line words neither line = elim line [
  | inl plain ↦ plain
  | inr both ↦ elim both [
    | inl collect ↦ absurd (neither.collect collect.0 collect.1)
    | inr follow ↦ absurd (neither.follow follow.0 follow.1)
  ]
]

-- ---- what is to be made

pub other_plans : (words : List Text) (made : Plan) → SaysNeither words → PlansOther words made → Plans words made
other_plans words plan.Plain neither so = so
other_plans words plan.Usage neither so = λ line. so (neither_line words neither line)
other_plans words (plan.Collect listen workers names) neither so = absurd so
other_plans words (plan.Follow addresses) neither so = absurd so
other_plans words plan.Memory neither so = absurd so

nothing_lent : (words : List Text) → SaysNeither words → AreLent words 0 0
nothing_lent words neither = record {
  collect = λ options said. absurd (neither.collect options said);
  follow = λ options said. absurd (neither.follow options said);
  other = λ _. (refl, refl);
}

pub other_lends : (words : List Text) (made : Plan) → SaysNeither words → PlansOther words made → Lends words made
other_lends words plan.Plain neither so = nothing_lent words neither
other_lends words plan.Usage neither so = nothing_lent words neither
other_lends words (plan.Collect listen workers names) neither so = absurd so
other_lends words (plan.Follow addresses) neither so = absurd so
other_lends words plan.Memory neither so = absurd so

pub collect_lends : (words : List Text) (options : CollectOptions) → SaysCollect words options → AreLent words options.workers (length options.names)
collect_lends words options said = record {
  collect = λ other so. (ap (λ (o : CollectOptions). o.workers) (one_says_collect words options other said so), ap (λ (o : CollectOptions). length o.names) (one_says_collect words options other said so));
  follow = λ other so. absurd (collect_or_follow words options other said so);
  other = λ neither. absurd (neither.collect options said);
}

pub follow_lends : (words : List Text) (options : FollowOptions) → SaysFollow words options → AreLent words (length options.addresses) 0
follow_lends words options said = record {
  collect = λ other so. absurd (collect_or_follow words other options so said);
  follow = λ other so. (ap (λ (o : FollowOptions). length o.addresses) (one_says_follow words options other said so), refl);
  other = λ neither. absurd (neither.follow options said);
}
