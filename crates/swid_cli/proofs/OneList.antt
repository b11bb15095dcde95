-- Octets are one list of tags, so `links` prints one text of them.
use Rattle.std.proofs.Common.{◌≡◌, ◌≢◌, ℕ, zero, suc, ◌+◌, ◌<◌, ◌≤◌, inl, inr, Bool, List, [], ◌∷◌, ◌++◌, length, take, drop, Option, Some, None, refl, sym, ap, subst, ◌∙◌, arith, length-append}
use Rattle.std.proofs.lemmas.Bool.{cases_lt}
use Rattle.std.proofs.lemmas.List.{take-append-drop}
use Rattle.std.specs.Prelude.{◌&&◌, if◌then◌else◌, nat_lt}
use Rattle.wire_base.specs.Layout.{AreOctets}
use Rattle.wire_base.proofs.Spelled.{AreOctets-rest, AreOctets-take}
use Rattle.cbor_det.specs.Faults.{Begins}
use Rattle.cbor_det.specs.Laws.{SomeOutcome}
use Rattle.cbor_det.specs.Term.{Term}
use Rattle.cbor_det.proofs.Outcome.{Same, item_runs}
use Rattle.cbor_det.proofs.Outcomes.{some_outcome}
use Rattle.cbor_det.specs.Machine.{State, due, whole}
use Rattle.cbor_det.specs.Faults.{top}
use Rattle.coswid_res.specs.declared.fault.FormFault.{FormFault}
use Rattle.coswid_tag.specs.declared.tag.Tag.{Tag}
use Rattle.coswid_codec.specs.Answers.{limits, BeginsTag}
use Rattle.coswid_codec.specs.TagFault.{tag_fault}
use Rattle.coswid_codec.proofs.Outcomes.{begins_one_tag, fault_same, form_same, item_not_refused, tag_not_faulty}
use Rattle.coswid_codec.proofs.Whole.{no_fault_or_no_tag}
use Rattle.command_text.specs.declared.answer.Answer.{Answer}
use Rattle.command_text.specs.declared.ending.Ending.{Ending}
use Rattle.swid_cli.specs.declared.links.tag_list.Behind.{Behind}
use Rattle.swid_cli.specs.declared.links.tag_list.Behind.TheVariants as behind
use Rattle.swid_cli.specs.declared.links.tag_list.TagList.{TagList}
use Rattle.command_text.specs.Answer.{limit_answer, refusal_answer}
use Rattle.swid_cli.specs.Links.{LIST_OCTETS, answer_behind, at_tag, is_cut, list_answer}
use Rattle.swid_cli.specs.LinksLaws.{OneLinksText, SomeLinksText}
use Rattle.swid_cli.specs.TagList.{BeginsTags, IsTagList, LIST_TAGS, StandsBehind, no_tags, one_more}
use Rattle.swid_cli.specs.Tagging.{form_line}
use Rattle.command_text.specs.Text.{fault_line}

-- ---- two lists of tags that one input begins with

-- No item begins where nothing is.
nothing_begins : (t : Term) (n : ℕ) → Begins limits [] t n → ⊥
nothing_begins t n begins = never t (drop n []) (item_runs limits [] t n begins)
  where
    never : (t : Term) (rest : List ℕ) → Same (due top, []) (whole t, rest) → ⊥
    never t rest e = let same : due top ≡ whole t = ap (λ (p : State × List ℕ). p.0) e in absurd cc

count_of : (gs : List Tag) (g : Tag) → length (gs ++ g ∷ []) ≡ length gs + 1
count_of gs g = length-append gs (g ∷ [])

-- What is left after as many tags is the same.
rest_same : (octets : List ℕ) (gs hs : List Tag) (r s : List ℕ) → BeginsTags octets gs r → BeginsTags octets hs s → length gs ≡ length hs → r ≡ s
rest_same octets gs hs r s no_tags no_tags same = refl
rest_same octets gs hs r s no_tags (one_more is o h m b y) same = absurd (omega (arith, same, count_of is h))
rest_same octets gs hs r s (one_more fs o g n a x) no_tags same = absurd (omega (arith, same, count_of fs g))
rest_same octets gs hs r s (one_more fs o g n a x) (one_more is q h m b y) same =
    let fewer : o ≡ q = rest_same octets fs is o q a b (omega (arith, same, count_of fs g, count_of is h)) in
    let also : BeginsTag o h m = subst (λ (p : List ℕ). BeginsTag p h m) (sym fewer) y in
    ap (λ (k : ℕ). drop k o) (begins_one_tag o g h n m x also).1 ∙ ap (λ (p : List ℕ). drop m p) fewer

-- So are as many tags.
tags_same : (octets : List ℕ) (gs hs : List Tag) (r s : List ℕ) → BeginsTags octets gs r → BeginsTags octets hs s → length gs ≡ length hs → gs ≡ hs
tags_same octets gs hs r s no_tags no_tags same = refl
tags_same octets gs hs r s no_tags (one_more is o h m b y) same = absurd (omega (arith, same, count_of is h))
tags_same octets gs hs r s (one_more fs o g n a x) no_tags same = absurd (omega (arith, same, count_of fs g))
tags_same octets gs hs r s (one_more fs o g n a x) (one_more is q h m b y) same =
    let count : length fs ≡ length is = omega (arith, same, count_of fs g, count_of is h) in
    let fewer : o ≡ q = rest_same octets fs is o q a b count in
    let also : BeginsTag o h m = subst (λ (p : List ℕ). BeginsTag p h m) (sym fewer) y in
    ap (λ (ks : List Tag). ks ++ g ∷ []) (tags_same octets fs is o q a b count) ∙ ap (λ (k : Tag). is ++ k ∷ []) (begins_one_tag o g h n m x also).0

-- Of more tags each begins where those before it end.
record NextTag (octets : List ℕ) (count : ℕ) : Type 0 where
  before : List Tag
  rest : List ℕ
  next : Tag
  len : ℕ
  begins : BeginsTags octets before rest
  counted : length before ≡ count
  tag : BeginsTag rest next len

next_tag : (octets : List ℕ) (hs : List Tag) (s : List ℕ) (count : ℕ) → BeginsTags octets hs s → count < length hs → NextTag octets count
next_tag octets hs s count no_tags less = absurd (omega (arith, less))
next_tag octets hs s count (one_more is o h m b y) less = elim (cases_lt count (length is)) [
  | inl fewer ↦ next_tag octets is o count b fewer
  | inr all ↦ record { before = is; rest = o; next = h; len = m; begins = b; counted = omega (arith, all, less, count_of is h); tag = y }
]

-- No other tag is read from what stands after.
no_other : (count : ℕ) (rest : List ℕ) (b : Behind) (g : Tag) (len : ℕ) → StandsBehind count rest b → count < LIST_TAGS → BeginsTag rest g len → ⊥
no_other count rest behind.Nothing g len is less tag = nothing_begins tag.item len (subst (λ (o : List ℕ). Begins limits o tag.item len) is.1 tag.begins)
no_other count rest behind.More g len is less tag = omega (arith, less, is.0)
no_other count rest (behind.NoItem fault) g len is less tag = item_not_refused rest fault tag.item len is.2 tag.begins
no_other count rest (behind.NoTag fault) g len is less tag = tag_not_faulty rest fault g len is.1 tag

at_most : (count : ℕ) (rest : List ℕ) (b : Behind) → StandsBehind count rest b → count ≤ LIST_TAGS
at_most count rest behind.Nothing is = is.0
at_most count rest behind.More is = omega (arith, is.0)
at_most count rest (behind.NoItem fault) is = omega (arith, is.0)
at_most count rest (behind.NoTag fault) is = omega (arith, is.0)

-- So no list has more tags than another.
not_fewer : (octets : List ℕ) (gs hs : List Tag) (r s : List ℕ) (x y : Behind) → BeginsTags octets gs r → StandsBehind (length gs) r x → BeginsTags octets hs s → StandsBehind (length hs) s y → length gs < length hs → ⊥
not_fewer octets gs hs r s x y a first b second less =
    let found = next_tag octets hs s (length gs) b less in
    let same : found.rest ≡ r = rest_same octets found.before gs found.rest r found.begins a found.counted in
    no_other (length gs) r x found.next found.len first (omega (arith, less, at_most (length hs) s y second)) (subst (λ (o : List ℕ). BeginsTag o found.next found.len) same found.tag)

count_same : (octets : List ℕ) (gs hs : List Tag) (r s : List ℕ) (x y : Behind) → BeginsTags octets gs r → StandsBehind (length gs) r x → BeginsTags octets hs s → StandsBehind (length hs) s y → length gs ≡ length hs
count_same octets gs hs r s x y a first b second = elim (cases_lt (length gs) (length hs)) [
  | inl less ↦ absurd (not_fewer octets gs hs r s x y a first b second less)
  | inr most ↦ elim (cases_lt (length hs) (length gs)) [
    | inl less ↦ absurd (not_fewer octets hs gs s r y x b second a first less)
    | inr least ↦ omega (arith, most, least)
  ]
]

-- ---- what is printed of them

abbrev fault_answer : ℕ → Bool → ℕ → ℕ → Answer
fault_answer count goes_on kind at =
    if goes_on && is_cut (record { kind = kind; at = at }) then limit_answer LIST_OCTETS else refusal_answer (at_tag (count + 1) (fault_line kind at))

answers_same : (gs : List Tag) (goes_on : Bool) (rest : List ℕ) (x y : Behind) → StandsBehind (length gs) rest x → StandsBehind (length gs) rest y → answer_behind gs goes_on x ≡ answer_behind gs goes_on y
answers_same gs goes_on rest behind.Nothing behind.Nothing a b = refl
answers_same gs goes_on rest behind.Nothing behind.More a b = absurd (b.1 a.1)
answers_same gs goes_on rest behind.Nothing (behind.NoItem e) a b = absurd (b.1 a.1)
answers_same gs goes_on rest behind.Nothing (behind.NoTag e) a b = absurd (nothing_begins b.1.item b.1.len (subst (λ (o : List ℕ). Begins limits o b.1.item b.1.len) a.1 b.1.begins))
answers_same gs goes_on rest behind.More behind.Nothing a b = absurd (a.1 b.1)
answers_same gs goes_on rest behind.More behind.More a b = refl
answers_same gs goes_on rest behind.More (behind.NoItem e) a b = absurd (omega (arith, a.0, b.0))
answers_same gs goes_on rest behind.More (behind.NoTag e) a b = absurd (omega (arith, a.0, b.0))
answers_same gs goes_on rest (behind.NoItem f) behind.Nothing a b = absurd (a.1 b.1)
answers_same gs goes_on rest (behind.NoItem f) behind.More a b = absurd (omega (arith, a.0, b.0))
answers_same gs goes_on rest (behind.NoItem f) (behind.NoItem e) a b =
    let same = fault_same rest f e a.2 b.2 in
    ap (λ (k : ℕ). fault_answer (length gs) goes_on k f.at) same.0 ∙ ap (λ (n : ℕ). fault_answer (length gs) goes_on e.kind n) same.1
answers_same gs goes_on rest (behind.NoItem f) (behind.NoTag e) a b = absurd (item_not_refused rest f b.1.item b.1.len a.2 b.1.begins)
answers_same gs goes_on rest (behind.NoTag f) behind.Nothing a b = absurd (nothing_begins a.1.item a.1.len (subst (λ (o : List ℕ). Begins limits o a.1.item a.1.len) b.1 a.1.begins))
answers_same gs goes_on rest (behind.NoTag f) behind.More a b = absurd (omega (arith, a.0, b.0))
answers_same gs goes_on rest (behind.NoTag f) (behind.NoItem e) a b = absurd (item_not_refused rest e a.1.item a.1.len b.2 a.1.begins)
answers_same gs goes_on rest (behind.NoTag f) (behind.NoTag e) a b = ap (λ (d : FormFault). refusal_answer (at_tag (length gs + 1) (form_line d))) (form_same rest f e a.1 b.1)

lists_same : (octets : List ℕ) (l k : TagList) (goes_on : Bool) → IsTagList octets l → IsTagList octets k → list_answer l goes_on ≡ list_answer k goes_on
lists_same octets l k goes_on a b =
    let count = count_same octets l.tags k.tags a.0 b.0 l.behind k.behind a.1 a.2 b.1 b.2 in
    let rest : b.0 ≡ a.0 = rest_same octets k.tags l.tags b.0 a.0 b.1 a.1 (sym count) in
    let tags : l.tags ≡ k.tags = tags_same octets l.tags k.tags a.0 b.0 a.1 b.1 count in
    let other : StandsBehind (length l.tags) a.0 k.behind = subst (λ (n : ℕ). StandsBehind n a.0 k.behind) (sym count) (subst (λ (o : List ℕ). StandsBehind (length k.tags) o k.behind) rest b.2) in
    answers_same l.tags goes_on a.0 l.behind k.behind a.2 other ∙ ap (λ (gs : List Tag). answer_behind gs goes_on k.behind) tags

abbrev answer_of : List ℕ → Ending → Answer
answer_of text how = record { text = text; ending = how }

pub one_links_text : OneLinksText
one_links_text octets text other how also a b =
    let same : answer_of text how ≡ answer_of other also =
    sym a.answer ∙ lists_same (take LIST_OCTETS octets) a.list b.list (nat_lt LIST_OCTETS (length octets)) a.read b.read ∙ b.answer in (
      ap (λ (x : Answer). x.text) same,
      ap (λ (x : Answer). x.ending) same,
    )

-- ---- some list

abbrev SomeList : List ℕ → Type 0
SomeList octets = (list : TagList) × IsTagList octets list

abbrev Goes : List ℕ → ℕ → Type 0
Goes octets more = (gs : List Tag) (rest : List ℕ) → BeginsTags octets gs rest → length gs + more ≡ LIST_TAGS → AreOctets rest → SomeList octets

behind_drop : (n : ℕ) (rest : List ℕ) → AreOctets rest → AreOctets (drop n rest)
behind_drop n rest are = AreOctets-rest rest (take n rest) (drop n rest) (sym (take-append-drop n rest)) are

list_of : (octets : List ℕ) (gs : List Tag) (rest : List ℕ) (b : Behind) → BeginsTags octets gs rest → StandsBehind (length gs) rest b → SomeList octets
list_of octets gs rest b begins stands = (record { tags = gs; behind = b }, (rest, begins, stands))

by_fault : (octets : List ℕ) (more : ℕ) (gs : List Tag) (x : ℕ) (xs : List ℕ) (t : Term) (n : ℕ) (found : Option FormFault) → Goes octets more → BeginsTags octets gs (x ∷ xs) → length gs + suc more ≡ LIST_TAGS → AreOctets (x ∷ xs)
    → Begins limits (x ∷ xs) t n → tag_fault t ≡ found → SomeList octets
by_fault octets more gs x xs t n None goes begins count are item is =
    let made = (no_fault_or_no_tag t).0 is in
    goes (gs ++ made.0 ∷ []) (drop n (x ∷ xs)) (one_more gs (x ∷ xs) made.0 n begins (record { item = t; begins = item; form = made.1 })) (omega (arith, count, count_of gs made.0)) (behind_drop n (x ∷ xs) are)
by_fault octets more gs x xs t n (Some f) goes begins count are item is =
    list_of octets gs (x ∷ xs) (behind.NoTag f) begins (omega (arith, count), record { item = t; len = n; begins = item; fault = is })

filled : (x : ℕ) (xs : List ℕ) → (x ∷ xs) ≢ []
filled x xs = λ e. absurd cc

by_outcome : (octets : List ℕ) (more : ℕ) (gs : List Tag) (x : ℕ) (xs : List ℕ) → Goes octets more → BeginsTags octets gs (x ∷ xs) → length gs + suc more ≡ LIST_TAGS → AreOctets (x ∷ xs) → SomeOutcome limits (x ∷ xs) → SomeList octets
by_outcome octets more gs x xs goes begins count are (inl a) = by_fault octets more gs x xs a.0 a.1 (tag_fault a.0) goes begins count are a.2 refl
by_outcome octets more gs x xs goes begins count are (inr (inl a)) =
    list_of octets gs (x ∷ xs) (behind.NoItem (record { kind = a.0; at = a.1 })) begins (omega (arith, count), filled x xs, inl a.2)
by_outcome octets more gs x xs goes begins count are (inr (inr a)) =
    list_of octets gs (x ∷ xs) (behind.NoItem (record { kind = 1; at = length (x ∷ xs) })) begins (omega (arith, count), filled x xs, inr (refl, refl, a))

goes_on : (octets : List ℕ) (more : ℕ) → Goes octets more
goes_on octets more gs [] begins count are = list_of octets gs [] behind.Nothing begins (omega (arith, count), refl)
goes_on octets zero gs (x ∷ xs) begins count are = list_of octets gs (x ∷ xs) behind.More begins (omega (arith, count), filled x xs)
goes_on octets (suc more) gs (x ∷ xs) begins count are = by_outcome octets more gs x xs (goes_on octets more) begins count are (some_outcome limits (x ∷ xs) are)

pub some_links_text : SomeLinksText
some_links_text octets are =
    let held = take LIST_OCTETS octets in
    let found = goes_on held LIST_TAGS [] held no_tags refl (AreOctets-take LIST_OCTETS octets are) in
    let answer = list_answer found.0 (nat_lt LIST_OCTETS (length octets)) in
    (answer.text, answer.ending, record { list = found.0; read = found.1; answer = refl })
