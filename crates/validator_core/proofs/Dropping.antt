-- What is live where the records that are gone are dropped after what is said of others is put.
use Rattle.std.proofs.Common.{◌≡◌, ℕ, suc, ◌≤◌, eqb, cond, not, Bool, true, false, List, [], ◌∷◌, Option, Some, None, length, refl, sym, ap, ◌∙◌, subst, arith, eqb-true}
use Rattle.std.specs.Prelude.{◌↔◌, IsTrue, is_some}
use Rattle.std.specs.List.{list_any}
use Rattle.std.specs.List.Sorted.{IsStrictlyIncreasing}
use Rattle.std.specs.BTreeMap.{is_at}
use Rattle.std.specs.BTreeSet.{BTreeSet, contains}
use Rattle.std.specs.Option.{option_or}
use Rattle.std.specs.Ordering.{nat_cmp}
use Rattle.std.proofs.lemmas.Bool.{true≢false}
use Rattle.swima_model.specs.contracts.event.Action.{the_type}
use Rattle.swima_model.specs.declared.event.Action.{Action}
use Rattle.swima_model.specs.declared.event.Action.TheVariants.{Creation, Deletion, Alteration}
use Rattle.swima_model.specs.declared.event.Event.{Event}
use Rattle.swima_model.specs.declared.record.Record.{Record}
use Rattle.swima_model.specs.InOrder.{ids}
use Rattle.swima_model.specs.Live.{by_mention, is_deletion, is_mentioned, last_mention, later_or, live, record_of}
use Rattle.swima_model.proofs.Living.{live_of, live_rises, mentioned_some, only_live}
use Rattle.swima_model.proofs.Places.{Climbs, climbed, climbs}
use Rattle.swima_model.proofs.Rises.{AllFrom}
use Rattle.validator_core.specs.Gone.{is_gone, kept}
use Rattle.validator_core.specs.Merged.{merged}
use Rattle.validator_core.proofs.Merging.{merged_of, merged_rises}
use denote.Enum.Bare.{sameb}

-- ---- which records are gone

-- None where no identifier is.
empty_step : (id : ℕ) (keys : List ℕ) → keys ≡ [] → list_any (is_at (nat_cmp id)) keys ≡ false
empty_step id [] none = refl
empty_step id (k ∷ keys) none = absurd cc

pub empty_keys : (is : Bool) (keys : List ℕ) → (IsTrue is ↔ (length keys ≡ 0)) → is ≡ true → keys ≡ []
empty_keys is [] both e = refl
empty_keys is (k ∷ keys) both e = absurd (omega (arith, both.0 e))

pub none_in : (gone : BTreeSet ℕ) (id : ℕ) → gone.keys ≡ [] → contains nat_cmp gone id ≡ false
none_in gone id none = empty_step id gone.keys none

-- An event before others changes nothing where its record is mentioned by these.
again_step : (here : Bool) (event : Event) (m : Option Event) → (here ≡ true → is_some m ≡ true) → later_or m (cond here (Some event) None) ≡ m
again_step here event (Some later) said = refl
again_step true event None said = absurd (true≢false (sym (said refl)))
again_step false event None said = refl

pub mentioned_again : (id : ℕ) (event : Event) (later : List Event) → is_mentioned event.subject.id later ≡ true → last_mention id (event ∷ later) ≡ last_mention id later
mentioned_again id event later is =
    again_step (eqb event.subject.id id) event (last_mention id later)
    (λ here. sym (mentioned_some id later) ∙ ap (λ (n : ℕ). is_mentioned n later) (sym (eqb-true event.subject.id id here)) ∙ is)

-- Otherwise it says whether its record is gone.
first_step : (here deletes : Bool) (event : Event) (m : Option Event) → is_deletion event.action ≡ deletes → (here ≡ true → is_some m ≡ false)
    → is_gone (later_or m (cond here (Some event) None)) ≡ cond here deletes (is_gone m)
first_step true deletes event None is new = is
first_step true deletes event (Some later) is new = absurd (true≢false (new refl))
first_step false deletes event None is new = refl
first_step false deletes event (Some later) is new = refl

pub mentioned_first : (id : ℕ) (event : Event) (later : List Event) (deletes : Bool) → is_deletion event.action ≡ deletes → is_mentioned event.subject.id later ≡ false
    → is_gone (last_mention id (event ∷ later)) ≡ cond (eqb event.subject.id id) deletes (is_gone (last_mention id later))
mentioned_first id event later deletes is new =
    first_step (eqb event.subject.id id) deletes event (last_mention id later) is
    (λ here. sym (mentioned_some id later) ∙ ap (λ (n : ℕ). is_mentioned n later) (sym (eqb-true event.subject.id id here)) ∙ new)

not_yet_step : (here : Bool) (m : Option Event) → (here ≡ true → is_some m ≡ false) → is_gone m ≡ cond here false (is_gone m)
not_yet_step true None new = refl
not_yet_step true (Some later) new = absurd (true≢false (new refl))
not_yet_step false m new = refl

pub not_gone_yet : (id n : ℕ) (later : List Event) → is_mentioned n later ≡ false → is_gone (last_mention id later) ≡ cond (eqb n id) false (is_gone (last_mention id later))
not_gone_yet id n later new =
    not_yet_step (eqb n id) (last_mention id later) (λ here. sym (mentioned_some id later) ∙ ap (λ (k : ℕ). is_mentioned k later) (sym (eqb-true n id here)) ∙ new)

-- Whether an event deletes.
pub deletes : (action : Action) (is : Bool) → is ≡ sameb the_type action Deletion → is_deletion action ≡ is
deletes Creation is e = sym e
deletes Deletion is e = sym e
deletes Alteration is e = sym e

-- ---- the records that are kept

-- All where none is gone.
keep_step : (b : Bool) (r : Record) (rs kept : List Record) → b ≡ false → kept ≡ rs → cond (not b) (r ∷ kept) kept ≡ r ∷ rs
keep_step true r rs kept off same = absurd (true≢false off)
keep_step false r rs kept off same = ap (λ (l : List Record). r ∷ l) same

pub none_gone : (gone : ℕ → Bool) (rs : List Record) → ((id : ℕ) → gone id ≡ false) → kept gone rs ≡ rs
none_gone gone [] none = refl
none_gone gone (r ∷ rs) none = keep_step (gone r.id) r rs (kept gone rs) (none r.id) (none_gone gone rs none)

-- Their identifiers rise.
from_step : (n : ℕ) (off : Bool) (r : Record) (rs : List Record) → n ≤ r.id → AllFrom n (ids rs) → AllFrom n (ids (cond (not off) (r ∷ rs) rs))
from_step n true r rs le up = up
from_step n false r rs le up = (le, up)

kept_from : (n : ℕ) (gone : ℕ → Bool) (rs : List Record) → AllFrom n (ids rs) → AllFrom n (ids (kept gone rs))
kept_from n gone [] up = tt
kept_from n gone (r ∷ rs) up = from_step n (gone r.id) r (kept gone rs) up.0 (kept_from n gone rs up.1)

climbs_step : (off : Bool) (r : Record) (rs : List Record) → AllFrom (suc r.id) (ids rs) → Climbs (ids rs) → Climbs (ids (cond (not off) (r ∷ rs) rs))
climbs_step true r rs from up = up
climbs_step false r rs from up = (from, up)

kept_climbs : (gone : ℕ → Bool) (rs : List Record) → Climbs (ids rs) → Climbs (ids (kept gone rs))
kept_climbs gone [] up = tt
kept_climbs gone (r ∷ rs) up = climbs_step (gone r.id) r (kept gone rs) (kept_from (suc r.id) gone rs up.0) (kept_climbs gone rs up.1)

-- The record of an identifier among them.
of_cond : (id : ℕ) (keep : Bool) (xs ys : List Record) → record_of id (cond keep xs ys) ≡ cond keep (record_of id xs) (record_of id ys)
of_cond id true xs ys = refl
of_cond id false xs ys = refl

kept_step : (off here is : Bool) (r : Record) (rest all : Option Record) → (here ≡ true → off ≡ is) → rest ≡ cond is None all
    → cond (not off) (cond here (Some r) rest) rest ≡ cond is None (cond here (Some r) all)
kept_step true true true r rest all same h = h
kept_step true true false r rest all same h = absurd (true≢false (same refl))
kept_step false true true r rest all same h = absurd (true≢false (sym (same refl)))
kept_step false true false r rest all same h = refl
kept_step true false is r rest all same h = h
kept_step false false is r rest all same h = h

same_either : (b : Bool) (o : Option Record) → o ≡ cond b o o
same_either true o = refl
same_either false o = refl

kept_of : (id : ℕ) (gone : ℕ → Bool) (rs : List Record) → record_of id (kept gone rs) ≡ cond (gone id) None (record_of id rs)
kept_of id gone [] = same_either (gone id) None
kept_of id gone (r ∷ rs) =
    of_cond id (not (gone r.id)) (r ∷ kept gone rs) (kept gone rs)
    ∙ kept_step (gone r.id) (eqb r.id id) (gone id) r (record_of id (kept gone rs)) (record_of id rs) (λ here. ap gone (eqb-true r.id id here)) (kept_of id gone rs)

-- ---- what is live

said_step : (off deletes : Bool) (r : Record) (b : Option Record) → deletes ≡ off → cond off None (option_or (cond deletes None (Some r)) b) ≡ cond deletes None (Some r)
said_step true true r b is = refl
said_step true false r b is = absurd (true≢false (sym is))
said_step false true r b is = absurd (true≢false is)
said_step false false r b is = refl

each_step : (m : Option Event) (b : Option Record) (off : Bool) → is_gone m ≡ off → cond off None (option_or (by_mention None m) b) ≡ by_mention b m
each_step None b true is = absurd (true≢false (sym is))
each_step None b false is = refl
each_step (Some event) b off is = said_step off (is_deletion event.action) event.subject b is

pub nothing_rises : IsStrictlyIncreasing []
nothing_rises = λ k lt. absurd (omega (arith, lt))

-- What events say of the records that they mention rises.
pub said_rises : (events : List Event) (given : List Record) → given ≡ live [] events → IsStrictlyIncreasing (ids given)
said_rises events given is = subst (λ (rs : List Record). IsStrictlyIncreasing (ids rs)) (sym is) (live_rises [] events nothing_rises)

-- What they say with the records before them, except those that are gone, is what is live.
module _ (base given : List Record) (events : List Event) (gone : ℕ → Bool) (rising : IsStrictlyIncreasing (ids base)) (is : given ≡ live [] events)
    (are : (id : ℕ) → gone id ≡ is_gone (last_mention id events)) where
  up : IsStrictlyIncreasing (ids given)
  up = said_rises events given is

  pub kept_live : kept gone (merged base given) ≡ live base events
  kept_live =
      let all : List Record = merged base given in
      sym (only_live base events (kept gone all) rising (record {
        rising = climbed (ids (kept gone all)) (kept_climbs gone all (climbs (ids all) (merged_rises base given rising up)));
        each = λ q.
            kept_of q gone all
            ∙ ap (cond (gone q) None) (merged_of base given rising up q ∙ ap (λ (o : Option Record). option_or o (record_of q base)) (ap (record_of q) is ∙ live_of q [] events))
            ∙ each_step (last_mention q events) (record_of q base) (gone q) (sym (are q));
      }))
