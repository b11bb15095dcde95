-- What is live, as reports of a kind carry it.
use Rattle.std.proofs.Common.{◌≡◌, ℕ, suc, ◌≤◌, eqb, cond, ltb, Bool, true, false, List, [], ◌∷◌, length, Option, Some, None, refl, sym, ap, ◌∙◌, subst, arith, ltb-false}
use Rattle.std.specs.Prelude.{option_map}
use Rattle.std.specs.List.Sorted.{IsStrictlyIncreasing}
use Rattle.std.proofs.lemmas.Bool.{le-ltb, or_parts}
use Rattle.std.proofs.lemmas.List.Sums.{sum_by-cons}
use Rattle.swima_model.specs.declared.event.Event.{Event}
use Rattle.swima_model.specs.declared.record.Record.{Record}
use Rattle.swima_model.specs.declared.report.Kind.{Kind}
use Rattle.swima_model.specs.declared.report.Kind.TheVariants.{Ids, Full}
use Rattle.swima_model.specs.InOrder.{ids}
use Rattle.swima_model.specs.Kinds.{body_of_kind, record_of_kind, records_of_kind, events_of_kind}
use Rattle.swima_model.specs.Live.{is_deletion, live, record_of, later_or, last_mention, by_mention}
use Rattle.swima_model.specs.Size.{content_octets, records_octets, is_large, are_large}
use Rattle.swima_model.proofs.Living.{live_of, live_rises, only_live}

-- An event as reports of a kind carry it.
abbrev pub event_of_kind : Kind → Event → Event
event_of_kind kind e = record e { subject = record_of_kind kind e.subject }

-- Identifiers stay.
pub ids_of_kind : (kind : Kind) (rs : List Record) → ids (records_of_kind kind rs) ≡ ids rs
ids_of_kind kind [] = refl
ids_of_kind kind (r ∷ rs) = ap (λ (ns : List ℕ). r.id ∷ ns) (ids_of_kind kind rs)

pub length_of_kind : (kind : Kind) (rs : List Record) → length (records_of_kind kind rs) ≡ length rs
length_of_kind kind [] = refl
length_of_kind kind (r ∷ rs) = ap suc (length_of_kind kind rs)

-- The record of an identifier, and its last mention, are of the kind.
map_cond : {A B : Type 0} (f : A → B) (here : Bool) (x : A) (found : Option A) (other : Option B) → other ≡ option_map f found → cond here (Some (f x)) other ≡ option_map f (cond here (Some x) found)
map_cond f true x found other e = refl
map_cond f false x found other e = e

pub record_of_map : (kind : Kind) (id : ℕ) (rs : List Record) → record_of id (records_of_kind kind rs) ≡ option_map (record_of_kind kind) (record_of id rs)
record_of_map kind id [] = refl
record_of_map kind id (r ∷ rs) = map_cond (record_of_kind kind) (eqb r.id id) r (record_of id rs) (record_of id (records_of_kind kind rs)) (record_of_map kind id rs)

later_map : (kind : Kind) (last first : Option Event) → later_or (option_map (event_of_kind kind) last) (option_map (event_of_kind kind) first) ≡ option_map (event_of_kind kind) (later_or last first)
later_map kind (Some e) first = refl
later_map kind None first = refl

pub last_mention_map : (kind : Kind) (id : ℕ) (events : List Event) → last_mention id (events_of_kind kind events) ≡ option_map (event_of_kind kind) (last_mention id events)
last_mention_map kind id [] = refl
last_mention_map kind id (e ∷ later) =
    ap (λ (m : Option Event). later_or m (cond (eqb e.subject.id id) (Some (event_of_kind kind e)) None)) (last_mention_map kind id later)
    ∙ ap (later_or (option_map (event_of_kind kind) (last_mention id later))) (map_cond (event_of_kind kind) (eqb e.subject.id id) e None None refl)
    ∙ later_map kind (last_mention id later) (cond (eqb e.subject.id id) (Some e) None)

map_gone : (kind : Kind) (gone : Bool) (r : Record) → cond gone None (Some (record_of_kind kind r)) ≡ option_map (record_of_kind kind) (cond gone None (Some r))
map_gone kind true r = refl
map_gone kind false r = refl

mention_map : (kind : Kind) (b : Option Record) (last : Option Event)
    → by_mention (option_map (record_of_kind kind) b) (option_map (event_of_kind kind) last) ≡ option_map (record_of_kind kind) (by_mention b last)
mention_map kind b None = refl
mention_map kind b (Some e) = map_gone kind (is_deletion e.action) e.subject

-- What is live of the kind is what is live, of the kind.
pub live_of_kind : (kind : Kind) (base : List Record) (events : List Event) → IsStrictlyIncreasing (ids base) → live (records_of_kind kind base) (events_of_kind kind events) ≡ records_of_kind kind (live base events)
live_of_kind kind base events up =
    only_live (records_of_kind kind base) (events_of_kind kind events) (records_of_kind kind (live base events)) (subst IsStrictlyIncreasing (sym (ids_of_kind kind base)) up) (record {
      rising = subst IsStrictlyIncreasing (sym (ids_of_kind kind (live base events))) (live_rises base events up);
      each = λ id.
          record_of_map kind id (live base events)
          ∙ ap (option_map (record_of_kind kind)) (live_of id base events)
          ∙ sym (mention_map kind (record_of id base) (last_mention id events))
          ∙ ap (λ (b : Option Record). by_mention b (option_map (event_of_kind kind) (last_mention id events))) (sym (record_of_map kind id base))
          ∙ ap (by_mention (record_of id (records_of_kind kind base))) (sym (last_mention_map kind id events));
    })

-- Records of a kind are not larger.
body_octets : (kind : Kind) (body : List ℕ) → length (body_of_kind kind body) ≤ length body
body_octets Ids body = omega arith
body_octets Full body = omega arith

content_of_kind_octets : (kind : Kind) (r : Record) → content_octets (record_of_kind kind r).content ≤ content_octets r.content
content_of_kind_octets kind r = omega (arith, body_octets kind r.content.body)

pub records_of_kind_octets : (kind : Kind) (rs : List Record) → records_octets (records_of_kind kind rs) ≤ records_octets rs
records_of_kind_octets kind [] = omega arith
records_of_kind_octets kind (r ∷ rs) =
    omega (arith, sum_by-cons (λ (x : Record). content_octets x.content) r rs, sum_by-cons (λ (x : Record). content_octets x.content) (record_of_kind kind r) (records_of_kind kind rs), content_of_kind_octets kind r, records_of_kind_octets kind rs)

smaller_fits : (count octets less : ℕ) → less ≤ octets → is_large count octets ≡ false → is_large count less ≡ false
smaller_fits count octets less le fits =
    let parts = or_parts (ltb 65536 count) (ltb 268435456 octets) fits in
    let small : ltb 268435456 less ≡ false = le-ltb 268435456 less (omega (arith, le, ltb-false 268435456 octets parts.1)) in
    rw (parts.0, small) refl

pub fits_of_kind : (kind : Kind) (rs : List Record) → are_large rs ≡ false → are_large (records_of_kind kind rs) ≡ false
fits_of_kind kind rs fits =
    ap (λ (k : ℕ). is_large k (records_octets (records_of_kind kind rs))) (length_of_kind kind rs)
    ∙ smaller_fits (length rs) (records_octets rs) (records_octets (records_of_kind kind rs)) (records_of_kind_octets kind rs) fits
