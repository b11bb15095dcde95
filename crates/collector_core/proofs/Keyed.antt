-- The keys of records: those of an index after a change of a record.
use Rattle.std.proofs.Common.{◌≡◌, ℕ, suc, ◌+◌, ◌*◌, ◌^◌, ◌<◌, ◌≤◌, ◌||◌, ◌&&◌, not, eqb, cond, Bool, true, false, Option, Some, None, List, [], ◌∷◌, ◌++◌, refl, sym, ap, ◌∙◌, subst, arith, eq-eqb, eqb-true, ne_eqb}
use Rattle.std.specs.Prelude.{option_to_list}
use Rattle.std.specs.BTreeMap.{is_at}
use Rattle.std.specs.BTreeSet.{BTreeSet}
use Rattle.std.specs.List.{list_any}
use Rattle.std.specs.Map.{keys_of}
use Rattle.std.specs.Option.{option_or}
use Rattle.std.specs.Ordering.{nat_cmp}
use Rattle.std.proofs.lemmas.Bool.{false≢true, cond-true}
use Rattle.std.proofs.lemmas.List.{map-append}
use Rattle.swima_model.specs.declared.record.Content.{Content}
use Rattle.swima_model.specs.declared.record.Record.{Record}
use Rattle.swima_model.specs.InOrder.{ids}
use Rattle.swima_model.specs.Live.{record_of}
use Rattle.swima_model.proofs.Rises.{AllFrom}
use Rattle.swima_model.proofs.Places.{Climbs, climbs, climbs_left, climbs_right, from_both, from_left, from_right, none_above, none_before, record_append}
use Rattle.collector_core.specs.Index.{DropsKey, ExchangesKey, IsIndex, PutsKey, digest, has_key, key_of}
use Rattle.collector_core.specs.Places.{AreOwn, ArePlaces, IsOwn, Place, Puts, Takes, standing}
use Rattle.collector_core.proofs.Placed.{above}

-- ---- either of some tests

or_turned : (a b c : Bool) → (a || (b || c)) ≡ (b || (a || c))
or_turned true true c = refl
or_turned true false c = refl
or_turned false true c = refl
or_turned false false c = refl

or_true : (b : Bool) → (b || true) ≡ true
or_true true = refl
or_true false = refl

without : (here others : Bool) → (here ≡ true → others ≡ false) → (not here && (here || others)) ≡ others
without true others none = sym (none refl)
without false others none = refl

no_more : (rs : List Record) → rs ++ [] ≡ rs
no_more [] = refl
no_more (r ∷ rs) = ap (λ (l : List Record). r ∷ l) (no_more rs)

seam : (test : Record → Bool) (before : List Record) (held : Record) (after : List Record) → list_any test (before ++ held ∷ after) ≡ (test held || list_any test (before ++ after))
seam test [] held after = refl
seam test (r ∷ before) held after =
    ap (λ (b : Bool). test r || b) (seam test before held after) ∙ or_turned (test r) (test held) (list_any test (before ++ after))

-- ---- identifiers below a number

abbrev pub Under : ℕ → List Record → Type 0
Under n [] = Unit {0}
Under n (r ∷ rs) = (r.id < n) × Under n rs

under_without : (n : ℕ) (before : List Record) (held : Record) (after : List Record) → Under n (before ++ held ∷ after) → Under n (before ++ after)
under_without n [] held after h = h.1
under_without n (r ∷ before) held after h = (h.0, under_without n before held after h.1)

under_at : (n : ℕ) (before : List Record) (held : Record) (after : List Record) → Under n (before ++ held ∷ after) → held.id < n
under_at n [] held after h = h.0
under_at n (r ∷ before) held after h = under_at n before held after h.1

pub under_next : (n next : ℕ) (rs : List Record) → Climbs (ids rs ++ next ∷ []) → next ≤ n → Under n rs
under_next n next [] h le = tt
under_next n next (r ∷ rs) h le =
    let over : suc r.id ≤ next = (from_right (suc r.id) (ids rs) (next ∷ []) h.0).0 in
    (omega (arith, over, le), under_next n next rs h.1 le)

-- ---- the record of an identifier, and its key

none_step : (here : Bool) (r : Record) (found : Option Record) → cond here (Some r) found ≡ None → (here ≡ false) × (found ≡ None)
none_step true r found none = absurd cc
none_step false r found none = (refl, none)

pub none_key : (sum id : ℕ) (rs : List Record) → record_of id rs ≡ None → Under (2 ^ 32) rs → id < 2 ^ 32 → list_any (has_key (sum * 2 ^ 32 + id)) rs ≡ false
none_key sum id [] none under lt = refl
none_key sum id (r ∷ rs) none under lt =
    let step = none_step (eqb r.id id) r (record_of id rs) none in
    let other : r.id ≡ id → ⊥ = λ same. false≢true (sym step.0 ∙ eq-eqb r.id id same) in
    let apart : eqb (key_of r.content.ident r.id) (sum * 2 ^ 32 + id) ≡ false =
    ne_eqb (key_of r.content.ident r.id) (sum * 2 ^ 32 + id) (λ same. other (omega (arith, same, under.0, lt))) in
    ap (λ (b : Bool). b || list_any (has_key (sum * 2 ^ 32 + id)) rs) apart ∙ none_key sum id rs step.1 under.1 lt

some_same : (a b : Record) → Some a ≡ Some b → a ≡ b
some_same a b e = cc

there_step : (here : Bool) (r held : Record) (found : Option Record) (more : Bool) (key : ℕ) → cond here (Some r) found ≡ Some held → (here ≡ true → has_key key r ≡ true) → (found ≡ Some held → more ≡ true)
    → (has_key key r || more) ≡ true
there_step true r held found more key is own others = ap (λ (b : Bool). b || more) (own refl)
there_step false r held found more key is own others = ap (λ (b : Bool). has_key key r || b) (others is) ∙ or_true (has_key key r)

same_here : (here : Bool) (r held : Record) (found : Option Record) → cond here (Some r) found ≡ Some held → here ≡ true → r ≡ held
same_here true r held found is is_it = some_same r held is
same_here false r held found is is_it = absurd (false≢true is_it)

pub has_there : (id : ℕ) (held : Record) (rs : List Record) → record_of id rs ≡ Some held → list_any (has_key (key_of held.content.ident id)) rs ≡ true
has_there id held [] is = absurd cc
has_there id held (r ∷ rs) is =
    there_step (eqb r.id id) r held (record_of id rs) (list_any (has_key (key_of held.content.ident id)) rs) (key_of held.content.ident id) is
    (λ here.
    eq-eqb (key_of r.content.ident r.id) (key_of held.content.ident id)
    (ap (λ (x : Record). key_of x.content.ident r.id) (same_here (eqb r.id id) r held (record_of id rs) is here) ∙ ap (λ (n : ℕ). key_of held.content.ident n) (eqb-true r.id id here)))
    (has_there id held rs)

none_other : (before : List Record) (held : Record) (after : List Record) → Climbs (ids (before ++ held ∷ after)) → record_of held.id (before ++ after) ≡ None
none_other before held after up =
    let here : Climbs (ids before ++ held.id ∷ ids after) = subst Climbs (map-append (λ (r : Record). r.id) before (held ∷ after)) up in
    record_append held.id before after
    ∙ ap (λ (o : Option Record). option_or o (record_of held.id after)) (none_before held.id before (ids after) here)
    ∙ none_above held.id (suc held.id) after (omega arith) (climbs_right (ids before) (held.id ∷ ids after) here).0

found_here : (before : List Record) (held : Record) (after : List Record) → Climbs (ids (before ++ held ∷ after)) → record_of held.id (before ++ held ∷ after) ≡ Some held
found_here before held after up =
    let here : Climbs (ids before ++ held.id ∷ ids after) = subst Climbs (map-append (λ (r : Record). r.id) before (held ∷ after)) up in
    record_append held.id before (held ∷ after)
    ∙ ap (λ (o : Option Record). option_or o (record_of held.id (held ∷ after))) (none_before held.id before (ids after) here)
    ∙ cond-true (eqb held.id held.id) (Some held) (record_of held.id after) (eq-eqb held.id held.id refl)

-- ---- an index after a change

module _ (before : List Record) (held : Record) (after : List Record) (up : Climbs (ids (before ++ held ∷ after))) (under : Under (2 ^ 32) (before ++ held ∷ after)) where
  no_such : (sum : ℕ) → list_any (has_key (sum * 2 ^ 32 + held.id)) (before ++ after) ≡ false
  no_such sum = none_key sum held.id (before ++ after) (none_other before held after up) (under_without (2 ^ 32) before held after under) (under_at (2 ^ 32) before held after under)

  left : (other : ℕ) → (not (eqb (key_of held.content.ident held.id) other) && list_any (has_key other) (before ++ held ∷ after)) ≡ list_any (has_key other) (before ++ after)
  left other =
      ap (λ (b : Bool). not (eqb (key_of held.content.ident held.id) other) && b) (seam (has_key other) before held after)
      ∙ without (eqb (key_of held.content.ident held.id) other) (list_any (has_key other) (before ++ after))
      (λ here.
      subst (λ (key : ℕ). list_any (has_key key) (before ++ after) ≡ false) (eqb-true (key_of held.content.ident held.id) other here) (no_such (digest held.content.ident)))

  pub index_less : (index new : BTreeSet ℕ) → IsIndex index (before ++ held ∷ after) → DropsKey (key_of held.content.ident held.id) index new → IsIndex new (before ++ after)
  index_less index new is drops other =
      drops other ∙ ap (λ (b : Bool). not (eqb (key_of held.content.ident held.id) other) && b) (is other) ∙ left other

  pub index_renamed : (content : Content) (index new : BTreeSet ℕ) → IsIndex index (before ++ held ∷ after)
      → ExchangesKey (key_of held.content.ident held.id) (key_of content.ident held.id) index new → IsIndex new (before ++ record { id = held.id; content = content } ∷ after)
  index_renamed content index new is exchanges other =
      exchanges other
      ∙ ap (λ (b : Bool). eqb (key_of content.ident held.id) other || (not (eqb (key_of held.content.ident held.id) other) && b)) (is other)
      ∙ ap (λ (b : Bool). eqb (key_of content.ident held.id) other || b) (left other)
      ∙ sym (seam (has_key other) before (record { id = held.id; content = content }) after)

pub index_same : (rs : List Record) (index new : BTreeSet ℕ) → new.keys ≡ index.keys → IsIndex index rs → IsIndex new rs
index_same rs index new same is key = ap (λ (keys : List ℕ). list_any (is_at (nat_cmp key)) keys) same ∙ is key

pub index_more : (rs : List Record) (id : ℕ) (content : Content) (index new : BTreeSet ℕ) → IsIndex index rs → PutsKey (key_of content.ident id) index new
    → IsIndex new (rs ++ record { id = id; content = content } ∷ [])
index_more rs id content index new is puts other =
    puts other
    ∙ ap (λ (b : Bool). eqb (key_of content.ident id) other || b) (is other)
    ∙ ap (λ (l : List Record). eqb (key_of content.ident id) other || list_any (has_key other) l) (sym (no_more rs))
    ∙ sym (seam (has_key other) rs (record { id = id; content = content }) [])

-- ---- records at their places

over : (n next : ℕ) (ps : List Place) → AllFrom n (keys_of ps ++ next ∷ []) → AreOwn ps → AllFrom n (ids (standing ps) ++ next ∷ [])
over n next ps h own = from_both n (ids (standing ps)) (next ∷ []) (above n ps (from_left n (keys_of ps) (next ∷ []) h) own) (from_right n (keys_of ps) (next ∷ []) h)

climbs_step : (id next : ℕ) (held : Option Record) (rest : List Record) → IsOwn id held → AllFrom (suc id) (ids rest ++ next ∷ []) → Climbs (ids rest ++ next ∷ [])
    → Climbs (ids (option_to_list held ++ rest) ++ next ∷ [])
climbs_step id next None rest own over h = h
climbs_step id next (Some r) rest own over h = (subst (λ (n : ℕ). AllFrom (suc n) (ids rest ++ next ∷ [])) (sym own) over, h)

standing_climbs : (next : ℕ) (ps : List Place) → Climbs (keys_of ps ++ next ∷ []) → AreOwn ps → Climbs (ids (standing ps) ++ next ∷ [])
standing_climbs next [] h own = h
standing_climbs next (p ∷ ps) h own =
    climbs_step p.0 next p.1 (standing ps) own.0 (over (suc p.0) next ps h.0 own.1) (standing_climbs next ps h.1 own.1)

module _ (next empty : ℕ) (ps : List Place) (is : ArePlaces next empty ps) where
  pub all_climb : Climbs (ids (standing ps) ++ next ∷ [])
  all_climb = standing_climbs next ps (climbs (keys_of ps ++ next ∷ []) is.rising) is.own

  module _ (small : next < 2 ^ 32) (index new : BTreeSet ℕ) (indexed : IsIndex index (standing ps)) (id : ℕ) (now : List Record) where
    up : Climbs (ids (standing ps))
    up = climbs_left (ids (standing ps)) (next ∷ []) all_climb

    under : Under (2 ^ 32) (standing ps)
    under = under_next (2 ^ 32) next (standing ps) all_climb (omega (arith, small))

    pub take_index : (taken : Record) → Takes id (standing ps) (Some taken) now → DropsKey (key_of taken.content.ident id) index new → IsIndex new now
    take_index taken takes drops =
        subst (IsIndex new) (sym takes.4)
        (index_less takes.0 taken takes.1 (subst (λ (l : List Record). Climbs (ids l)) takes.2 up) (subst (Under (2 ^ 32)) takes.2 under) index new (subst (IsIndex index) takes.2 indexed)
        (subst (λ (n : ℕ). DropsKey (key_of taken.content.ident n) index new) (sym takes.3) drops))

    pub put_index : (content : Content) (got : Record) → record_of id (standing ps) ≡ Some got → Puts id content (standing ps) now
        → ExchangesKey (key_of got.content.ident id) (key_of content.ident id) index new → IsIndex new now
    put_index content got found puts exchanges =
        subst (IsIndex new) (sym puts.5)
        (index_renamed puts.0 puts.1 puts.2 here (subst (Under (2 ^ 32)) puts.3 under) content index new (subst (IsIndex index) puts.3 indexed)
        (subst (λ (n : ℕ). ExchangesKey (key_of puts.1.content.ident n) (key_of content.ident n) index new) (sym puts.4)
        (subst (λ (r : Record). ExchangesKey (key_of r.content.ident id) (key_of content.ident id) index new) (some_same got puts.1 same) exchanges)))
      where
        here : Climbs (ids (puts.0 ++ puts.1 ∷ puts.2))
        here = subst (λ (l : List Record). Climbs (ids l)) puts.3 up

        same : Some got ≡ Some puts.1
        same =
            sym found ∙ ap (record_of id) puts.3 ∙ ap (λ (n : ℕ). record_of n (puts.0 ++ puts.1 ∷ puts.2)) (sym puts.4)
            ∙ found_here puts.0 puts.1 puts.2 here
