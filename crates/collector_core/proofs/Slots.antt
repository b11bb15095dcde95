-- The record of an identifier at its place: what a change of it gives.
use Rattle.std.proofs.Common.{◌≡◌, ℕ, suc, ◌+◌, ◌<◌, eqb, true, Option, Some, None, List, [], ◌∷◌, ◌++◌, length, get_or, take, refl, sym, ap, ◌∙◌, subst, append_assoc, arith}
use Rattle.std.specs.Prelude.{is_some, option_to_list}
use Rattle.std.specs.Map.{lookup, set_value}
use Rattle.std.specs.Option.{unwrap_or}
use Rattle.std.proofs.lemmas.List.{length-append, take_more}
use Rattle.std.proofs.lemmas.List.Elements.{filter-append}
use Rattle.swima_model.specs.declared.record.Content.{Content}
use Rattle.swima_model.specs.declared.record.Record.{Record}
use Rattle.swima_model.specs.Live.{record_of}
use Rattle.collector_core.specs.Answering.{is_wanted, wanted_records}
use Rattle.collector_core.specs.Places.{AreFewEmpty, ArePlaces, Place, Puts, Takes, held_at, present, standing}
use Rattle.collector_core.proofs.Placed.{changed_places, exchanges, put, stands_at, taken}

one_there : (o : Option (Option Record)) (old : Record) → unwrap_or o None ≡ Some old → o ≡ Some (Some old)
one_there None old is = absurd cc
one_there (Some held) old is = ap Some is

module _ (next empty id : ℕ) (ps : List Place) (old : Record) (is : ArePlaces next empty ps) (stood : held_at id ps ≡ Some old) where
  there : lookup (eqb id) ps ≡ Some (Some old)
  there = one_there (lookup (eqb id) ps) old stood

  -- Another content there.
  put_places : (content : Content) → ArePlaces next empty (set_value (eqb id) ps (Some (record { id = id; content = content })))
  put_places content =
      let at = exchanges id ps (Some old) (Some (record { id = id; content = content })) there in
      subst (ArePlaces next empty) (sym at.3)
      (changed_places at.0 (id, Some old) at.1 (Some (record { id = id; content = content })) next empty empty (subst (ArePlaces next empty) at.2 is) refl refl)

  puts : (content : Content) → Puts id content (standing ps) (standing (set_value (eqb id) ps (Some (record { id = id; content = content }))))
  puts content =
      let held = Some (record { id = id; content = content }) in
      let at = exchanges id ps (Some old) held there in
      let own = (subst (ArePlaces next empty) at.2 is).own in
      subst (λ (l : List Place). Puts id content (standing l) (standing (set_value (eqb id) ps held))) (sym at.2)
      (subst (λ (l : List Place). Puts id content (standing (at.0 ++ (id, Some old) ∷ at.1)) (standing l)) (sym at.3)
      (put at.0 (id, Some old) at.1 held id content old refl own refl refl))

  -- Nothing there.
  taken_places : ArePlaces next (empty + 1) (set_value (eqb id) ps None)
  taken_places =
      let at = exchanges id ps (Some old) None there in
      subst (ArePlaces next (empty + 1)) (sym at.3)
      (changed_places at.0 (id, Some old) at.1 None next empty (empty + 1) (subst (ArePlaces next empty) at.2 is) tt (omega arith))

  takes : Takes id (standing ps) (Some old) (standing (set_value (eqb id) ps None))
  takes =
      let at = exchanges id ps (Some old) None there in
      let own = (subst (ArePlaces next empty) at.2 is).own in
      subst (λ (l : List Place). Takes id (standing l) (Some old) (standing (set_value (eqb id) ps None))) (sym at.2)
      (subst (λ (l : List Place). Takes id (standing (at.0 ++ (id, Some old) ∷ at.1)) (Some old) (standing l)) (sym at.3)
      (taken at.0 (id, Some old) at.1 None id refl own refl))

  pub take_at : (now : List Place) → now ≡ set_value (eqb id) ps None → ArePlaces next (empty + 1) now × Takes id (standing ps) (Some old) (standing now)
  take_at now exchanged =
      subst (λ (l : List Place). ArePlaces next (empty + 1) l × Takes id (standing ps) (Some old) (standing l)) (sym exchanged) (taken_places, takes)

pub put_at : (next empty id : ℕ) (ps now : List Place) (content : Content) → ArePlaces next empty ps → is_some (record_of id (standing ps)) ≡ true
    → now ≡ set_value (eqb id) ps (Some (record { id = id; content = content })) → ArePlaces next empty now × Puts id content (standing ps) (standing now)
put_at next empty id ps now content is some exchanged = by_held (record_of id (standing ps)) refl some
  where
    by_held : (o : Option Record) → record_of id (standing ps) ≡ o → is_some o ≡ true → ArePlaces next empty now × Puts id content (standing ps) (standing now)
    by_held None stood some = absurd cc
    by_held (Some old) stood some =
        let there : held_at id ps ≡ Some old = sym (stands_at next empty ps is id) ∙ stood in
        subst (λ (l : List Place). ArePlaces next empty l × Puts id content (standing ps) (standing l)) (sym exchanged)
        (put_places next empty id ps old is there content, puts next empty id ps old is there content)

-- As many places are there after another content, where as many are empty.
pub put_few : (next empty id : ℕ) (content : Content) (ps now : List Place) → ArePlaces next empty ps → ArePlaces next empty now → Puts id content (standing ps) (standing now)
    → AreFewEmpty empty ps → AreFewEmpty empty now
put_few next empty id content ps now is will puts few =
    let before : length (standing ps) ≡ length puts.0 + suc (length puts.2) = ap length puts.3 ∙ length-append puts.0 (puts.1 ∷ puts.2) in
    let after : length (standing now) ≡ length puts.0 + suc (length puts.2) = ap length puts.5 ∙ length-append puts.0 (record { id = puts.1.id; content = content } ∷ puts.2) in
    omega (arith, is.counted, will.counted, before, after, few)

-- ---- the records that are asked for

alone : (o : Option Record) → option_to_list o ++ [] ≡ option_to_list o
alone None = refl
alone (Some r) = refl

present_append : (xs ys : List (Option Record)) → present (xs ++ ys) ≡ present xs ++ present ys
present_append [] ys = refl
present_append (held ∷ xs) ys =
    ap (λ (l : List Record). option_to_list held ++ l) (present_append xs ys) ∙ sym (append_assoc (option_to_list held) (present xs) (present ys))

present_more : (hs : List (Option Record)) (k : ℕ) (item : Option Record) → k < length hs → item ≡ get_or hs k item → present (take (k + 1) hs) ≡ present (take k hs) ++ option_to_list item
present_more hs k item lt is =
    ap present (take_more hs k item lt)
    ∙ present_append (take k hs) (get_or hs k item ∷ [])
    ∙ ap (λ (l : List Record). present (take k hs) ++ l) (alone (get_or hs k item) ∙ ap option_to_list (sym is))

pub wanted_more : (targets : List (List ℕ)) (hs : List (Option Record)) (k : ℕ) (item : Option Record) (so_far : List Record) → k < length hs → item ≡ get_or hs k item
    → so_far ≡ wanted_records targets (present (take k hs)) → so_far ++ wanted_records targets (option_to_list item) ≡ wanted_records targets (present (take (k + 1) hs))
wanted_more targets hs k item so_far lt is before =
    ap (λ (l : List Record). l ++ wanted_records targets (option_to_list item)) before
    ∙ sym (filter-append (λ (r : Record). is_wanted targets r.content.ident) (present (take k hs)) (option_to_list item))
    ∙ ap (wanted_records targets) (sym (present_more hs k item lt is))
