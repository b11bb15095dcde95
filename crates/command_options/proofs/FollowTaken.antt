-- What the words give that `clap` takes for `follow`.
use Rattle.std.proofs.Common.{◌≡◌, ◌≤◌, ◌∙◌, ℕ, Bool, List, Some, true, false, refl, sym, ap, subst, length, codes, is_some, arith}
use Rattle.std.specs.Prelude.{slice_index, unwrap_or}
use Rattle.swima_model.specs.declared.report.Kind.{Kind}
use Rattle.swima_model.specs.declared.report.Kind.TheVariants.{Ids, Full}
use Rattle.clap.specs.Faults.{entered_fault, is_simple_and_free}
use Rattle.clap.specs.Simple.{built, entered, names_of, new_rule}
use Rattle.clap.specs.Walk.{Row, Rule, Text, arg_by_id, nothing_held, walk}
use Rattle.clap.specs.Words.{first_of, matches_of}
use Rattle.command_options.specs.Arguments.{MOST_NUMBER}
use Rattle.command_options.specs.Follow.{FollowThere, FollowWithin, IsFollow, OneFollow, TakenIsFollow, follow_app, kind_word, yes_word}
use Rattle.command_options.specs.Given.{Takes, number, texts_of}
use Rattle.command_options.specs.declared.follow.FollowOptions.{FollowOptions}
use Rattle.command_options.proofs.CollectTaken.{same, text_is_there}
use Rattle.command_options.proofs.RowsFit.{Each, IsFine}
use Rattle.command_options.proofs.TakenRows.{TakenRows, taken_rows}
use Rattle.command_options.proofs.Values.{HasNumber, default_text, number_is, number_there, number_within, words_there, words_within}

pub is_plain : is_simple_and_free follow_app ≡ true
is_plain = refl

abbrev rules : List Rule
rules = (built follow_app).top.rules

fine : Each (IsFine rules) rules
fine = (
  record { action = refl; missing = refl; takes = refl; known = refl; defaults = refl },
  (
    record { action = refl; missing = refl; takes = refl; known = refl; defaults = refl },
    (
      record { action = refl; missing = refl; takes = refl; known = refl; defaults = refl },
      (
        record { action = refl; missing = refl; takes = refl; known = refl; defaults = refl },
        (
          record { action = refl; missing = refl; takes = refl; known = refl; defaults = tt },
          tt,
        ),
      ),
    ),
  ),
)

taken : (words : List Text) → Takes follow_app words → TakenRows rules (matches_of follow_app words)
taken words takes =
    let stop = (walk rules (names_of (built follow_app)) nothing_held words).stopped in
    taken_rows (built follow_app).top (names_of (built follow_app)) words (is_some (entered (built follow_app) stop)) (entered_fault (built follow_app) stop) refl refl fine takes

-- What each argument has.
pub record FollowFound (rows : List Row) : Type 0 where
  pub kind : Text
  pub kind_is : first_of (codes "kind") rows ≡ Some kind
  pub subscribe : Text
  pub subscribe_is : first_of (codes "subscribe") rows ≡ Some subscribe
  pub rounds : HasNumber (codes "rounds") rows MOST_NUMBER
  pub sessions : HasNumber (codes "sessions") rows MOST_NUMBER
  pub some : 1 ≤ length (texts_of (codes "addresses") rows)
  pub most : length (texts_of (codes "addresses") rows) ≤ 64

abbrev rule_at : Text → Rule
rule_at id = unwrap_or (arg_by_id rules id) (new_rule id)

follow_found : (rows : List Row) → TakenRows rules rows → FollowFound rows
follow_found rows t =
    let kind = default_text rules rows t (codes "kind") (rule_at (codes "kind")) refl (omega arith) (t.defaults.0 tt) in
    let subscribe = default_text rules rows t (codes "subscribe") (rule_at (codes "subscribe")) refl (omega arith) (t.defaults.1.0 tt) in
    let rounds = default_text rules rows t (codes "rounds") (rule_at (codes "rounds")) refl (omega arith) (t.defaults.1.1.0 tt) in
    let sessions = default_text rules rows t (codes "sessions") (rule_at (codes "sessions")) refl (omega arith) (t.defaults.1.1.1.0 tt) in
    record {
      kind = kind.text;
      kind_is = kind.first;
      subscribe = subscribe.text;
      subscribe_is = subscribe.first;
      rounds = number_there (codes "rounds") (rule_at (codes "rounds")) rows MOST_NUMBER refl (omega arith) rounds;
      sessions = number_there (codes "sessions") (rule_at (codes "sessions")) rows MOST_NUMBER refl (omega arith) sessions;
      some = words_there rules (codes "addresses") (rule_at (codes "addresses")) rows t refl (t.given.1.1.1.1.0 refl);
      most = words_within rules (codes "addresses") (rule_at (codes "addresses")) rows t.fits refl;
    }

pub all_found : (words : List Text) → Takes follow_app words → FollowFound (matches_of follow_app words)
all_found words takes = follow_found (matches_of follow_app words) (taken words takes)

pub follow_there : (words : List Text) → Takes follow_app words → FollowThere (matches_of follow_app words)
follow_there words takes =
    let f = all_found words takes in
    record {
      kind = text_is_there _ _ f.kind_is;
      subscribe = text_is_there _ _ f.subscribe_is;
      rounds = f.rounds.here;
      sessions = f.sessions.here;
    }

pub follow_says : TakenIsFollow
follow_says words kind subscribe takes kind_is subscribe_is =
    let f = all_found words takes in (
      record {
        kind = kind;
        subscribe = subscribe;
        rounds = number f.rounds.here.text;
        sessions = number f.sessions.here.text;
        addresses = texts_of (codes "addresses") (matches_of follow_app words);
      },
      (
        takes,
        record {
          kind = kind_is;
          subscribe = subscribe_is;
          rounds = number_is (codes "rounds") _ f.rounds.here;
          sessions = number_is (codes "sessions") _ f.sessions.here;
          addresses = refl;
        },
      ),
    )

pub follow_within : (words : List Text) (options : FollowOptions) → IsFollow words options → FollowWithin options
follow_within words options is =
    let f = all_found words is.0 in
    let rows = matches_of follow_app words in
    record {
      rounds = (number_within (codes "rounds") rows MOST_NUMBER options.rounds f.rounds is.1.rounds).0;
      sessions = (number_within (codes "sessions") rows MOST_NUMBER options.sessions f.sessions is.1.sessions).0;
      some = subst (λ (xs : List Text). 1 ≤ length xs) is.1.addresses f.some;
      most = subst (λ (xs : List Text). length xs ≤ 64) is.1.addresses f.most;
    }

differ : (one other : Text) → one ≡ other → slice_index one 0 ≡ slice_index other 0
differ one other e = ap (λ (xs : Text). slice_index xs 0) e

pub one_kind : (one other : Kind) → kind_word one ≡ kind_word other → one ≡ other
one_kind Ids Ids e = refl
one_kind Full Full e = refl
one_kind Ids Full e = let bad : ◌≡◌ {A = ℕ} 105 102 = differ (codes "ids") (codes "full") e in absurd (omega arith)
one_kind Full Ids e = let bad : ◌≡◌ {A = ℕ} 102 105 = differ (codes "full") (codes "ids") e in absurd (omega arith)

pub one_answer : (one other : Bool) → yes_word one ≡ yes_word other → one ≡ other
one_answer true true e = refl
one_answer false false e = refl
one_answer true false e = let bad : ◌≡◌ {A = ℕ} 121 110 = differ (codes "yes") (codes "no") e in absurd (omega arith)
one_answer false true e = let bad : ◌≡◌ {A = ℕ} 110 121 = differ (codes "no") (codes "yes") e in absurd (omega arith)

pub one_follow : OneFollow
one_follow words one other is so = λ i. record {
  kind = one_kind one.kind other.kind (same _ _ (sym is.1.kind ∙ so.1.kind)) i;
  subscribe = one_answer one.subscribe other.subscribe (same _ _ (sym is.1.subscribe ∙ so.1.subscribe)) i;
  rounds = same one.rounds other.rounds (sym is.1.rounds ∙ so.1.rounds) i;
  sessions = same one.sessions other.sessions (sym is.1.sessions ∙ so.1.sessions) i;
  addresses = (sym is.1.addresses ∙ so.1.addresses) i;
}
