-- What the code begins and ends at an initial byte, as the machine does.
use Rattle.std.proofs.Common.{◌≡◌, ℕ, ◌+◌, ◌-◌, zero, suc, ◌<◌, ◌≤◌, List, [], ◌∷◌, ◌++◌, length, refl, sym, ap, ◌∙◌, arith, subst, Bool, true, false, Option, Some, None}
use Rattle.std.specs.Prelude.{slice_get}
use Rattle.std.proofs.Math.Nat.{pow-suc}
use Rattle.std.proofs.Common.{◌*◌, ◌^◌}
use Rattle.std.proofs.lemmas.List.{nil_from_length}
use Rattle.std.proofs.lemmas.Bool.{cond-true, cond-false, lt-ltb, le-ltb}
use Rattle.cbor_det.specs.declared.string_kind.StringKind.{StringKind}
use Rattle.cbor_det.specs.declared.limits.Limits.{Limits}
use Rattle.cbor_det.specs.declared.initial.Major.{Major}
use Rattle.cbor_det.specs.declared.initial.Beginning.{Beginning}
use Rattle.cbor_det.specs.declared.initial.Beginning.TheVariants as beginning
use Rattle.cbor_det.specs.declared.initial.Initial.{Initial}
use Rattle.cbor_det.specs.declared.initial.Initial.TheVariants as initial
use Rattle.cbor_det.specs.declared.frame.Frame.{Frame}
use Rattle.cbor_det.specs.declared.frame.Frame.TheVariants as frame
use Rattle.cbor_det.specs.declared.frame.StepOutcome.{StepOutcome}
use Rattle.cbor_det.specs.declared.frame.StepOutcome.TheVariants as step_outcome
use Rattle.cbor_det.specs.Term.{Term, Pairs}
use Rattle.cbor_det.specs.Held.{members_view, due_key}
use Rattle.cbor_det.specs.Initial.{initial_of}
use Rattle.cbor_det.specs.Faults.{Place, top, at_chunk, at_element, at_key, at_value, at_content, height}
use Rattle.cbor_det.specs.Machine.{State, faulty, begun, item_begun, opened, broken, string_head}
use Rattle.cbor_det.specs.Standing.{inside, map_place, within, place}
use Rattle.cbor_det.specs.Frames.{chunk_kind, low_kind, end_state, state_of, ArgumentFits, BeginFits, InitialFits}
use Rattle.cbor_det.proofs.Told.{IsLong, Tells, tells}
use Rattle.cbor_det.proofs.Strings.{pushed_place, no_chunk}

long_fits : (m : Major) (left b : ℕ) → IsLong m left b → (1 ≤ left) × (left ≤ 8)
long_fits m left b is = (omega (arith, is), omega (arith, is))

fits_of : (b : ℕ) (x : Initial) → Tells b x → InitialFits x
fits_of b initial.Break t = tt
fits_of b initial.Float t = tt
fits_of b initial.Simple t = tt
fits_of b initial.Malformed t = tt
fits_of b (initial.Item (beginning.Argued m n)) t = tt
fits_of b (initial.Item (beginning.Argument m left)) t = long_fits m left b t
fits_of b (initial.Item (beginning.Chunks k)) t = tt
fits_of b (initial.Item beginning.Elements) t = tt
fits_of b (initial.Item beginning.Members) t = tt
fits_of b (initial.Item (beginning.Bool v)) t = tt

pub initial_fits : (b : ℕ) → InitialFits (initial_of b)
initial_fits b = fits_of b (initial_of b) (tells b (initial_of b) refl)

some_is : (f g : Frame) → Some g ≡ Some f → g ≡ f
some_is f g e = cc

none_some : (f : Frame) → None ≡ Some f → ⊥
none_some f e = cc

-- the last of some frames
last_at : (f : Frame) (fs : List Frame) (n : ℕ) → length fs ≡ n + 1 → slice_get fs n ≡ Some f → (gs : List Frame) × (fs ≡ gs ++ f ∷ [])
last_at f [] n len e = absurd (omega arith)
last_at f (g ∷ fs) zero len e = ([], ap (λ (xs : List Frame). g ∷ xs) (nil_from_length fs (omega arith)) ∙ ap (λ (x : Frame). x ∷ []) (some_is f g e))
last_at f (g ∷ fs) (suc n) len e = let w = last_at f fs n (omega arith) e in (g ∷ w.0, ap (λ (xs : List Frame). g ∷ xs) w.1)

last_split : (f : Frame) (fs : List Frame) → slice_get fs (length fs - 1) ≡ Some f → (gs : List Frame) × (fs ≡ gs ++ f ∷ [])
last_split f [] e = absurd (none_some f e)
last_split f (g ∷ fs) e = last_at f (g ∷ fs) (length (g ∷ fs) - 1) (omega arith) e

pub last_due : (fs : List Frame) (f : Frame) (k : Option StringKind) → slice_get fs (length fs - 1) ≡ Some f → ((p : Place) → k ≡ chunk_kind (inside p f)) → k ≡ chunk_kind (place fs)
last_due fs f k e is =
    let w = last_split f fs e in
    is (place w.0) ∙ ap (λ (p : Place). chunk_kind p) (sym (pushed_place w.0 fs f w.1))

-- how many frames are open

map_height : (a : ℕ) (all : Option ℕ) (ps : Pairs) (k : Option Term) (p : Place) → height (map_place a all ps k p) ≡ height p + 1
map_height a all ps None p = refl
map_height a all ps (Some k) p = refl

height_within : (p : Place) (fs : List Frame) → height (within p fs) ≡ height p + length fs
height_within p [] = omega arith
height_within p (frame.Chunks a k j ∷ fs) = let e = height_within (inside p (frame.Chunks a k j)) fs in omega (arith, e)
height_within p (frame.Elements a all items ∷ fs) = let e = height_within (inside p (frame.Elements a all items)) fs in omega (arith, e)
height_within p (frame.Map a all members ∷ fs) =
    let e = height_within (inside p (frame.Map a all members)) fs in
    let h = map_height a all (members_view members) (due_key members) p in
    omega (arith, e, h)
height_within p (frame.Content a n ∷ fs) = let e = height_within (inside p (frame.Content a n)) fs in omega (arith, e)

pub height_place : (fs : List Frame) → height (place fs) ≡ length fs
height_place fs = let e = height_within top fs in omega (arith, e)

-- low octets

module _ (limits : Limits) (i : ℕ) where
  pub float_low : (p : Place) → faulty (low_kind p 3) i ≡ begun limits i p initial.Float
  unfolding begun
  float_low (at_chunk a k s p) = refl
  float_low top = refl
  float_low (at_element a all ts p) = refl
  float_low (at_key a all ps p) = refl
  float_low (at_value a all ps k p) = refl
  float_low (at_content a n p) = refl

  pub simple_low : (p : Place) → faulty (low_kind p 4) i ≡ begun limits i p initial.Simple
  unfolding begun
  simple_low (at_chunk a k s p) = refl
  simple_low top = refl
  simple_low (at_element a all ts p) = refl
  simple_low (at_key a all ps p) = refl
  simple_low (at_value a all ps k p) = refl
  simple_low (at_content a n p) = refl

  pub malformed_low : (p : Place) → faulty (low_kind p 2) i ≡ begun limits i p initial.Malformed
  unfolding begun
  malformed_low (at_chunk a k s p) = refl
  malformed_low top = refl
  malformed_low (at_element a all ts p) = refl
  malformed_low (at_key a all ps p) = refl
  malformed_low (at_value a all ps k p) = refl
  malformed_low (at_content a n p) = refl

  pub break_is : (p : Place) → end_state i p ≡ begun limits i p initial.Break
  unfolding begun
  break_is (at_chunk a k s p) = refl
  break_is top = refl
  break_is (at_element a all ts p) = refl
  break_is (at_key a all ps p) = refl
  break_is (at_value a all ps k p) = refl
  break_is (at_content a n p) = refl

  same_kind_is : (k kind : StringKind) → Some kind ≡ Some k → kind ≡ k
  same_kind_is k kind e = cc

  -- where a chunk is due
  pub chunk_opens : (p : Place) (kind : StringKind) (b : Beginning) (σ : State) (r : Bool) → Some kind ≡ chunk_kind p → r ≡ string_head kind (initial.Item b) → r ≡ true
      → σ ≡ opened limits i p b → σ ≡ begun limits i p (initial.Item b)
  unfolding begun
  chunk_opens (at_chunk a k s p) kind b σ r some is so opens =
      opens ∙ sym (cond-true _ _ _ (ap (λ (x : StringKind). string_head x (initial.Item b)) (sym (same_kind_is k kind some)) ∙ sym is ∙ so))
  chunk_opens top kind b σ r some is so opens = absurd (no_chunk kind some)
  chunk_opens (at_element a all ts p) kind b σ r some is so opens = absurd (no_chunk kind some)
  chunk_opens (at_key a all ps p) kind b σ r some is so opens = absurd (no_chunk kind some)
  chunk_opens (at_value a all ps t p) kind b σ r some is so opens = absurd (no_chunk kind some)
  chunk_opens (at_content a n p) kind b σ r some is so opens = absurd (no_chunk kind some)

  pub chunk_stops : (p : Place) (kind : StringKind) (b : Beginning) (r : Bool) → Some kind ≡ chunk_kind p → r ≡ string_head kind (initial.Item b) → r ≡ false
      → faulty 2 i ≡ begun limits i p (initial.Item b)
  unfolding begun
  chunk_stops (at_chunk a k s p) kind b r some is lie =
      sym (cond-false _ _ _ (ap (λ (x : StringKind). string_head x (initial.Item b)) (sym (same_kind_is k kind some)) ∙ sym is ∙ lie))
  chunk_stops top kind b r some is lie = absurd (no_chunk kind some)
  chunk_stops (at_element a all ts p) kind b r some is lie = absurd (no_chunk kind some)
  chunk_stops (at_key a all ps p) kind b r some is lie = absurd (no_chunk kind some)
  chunk_stops (at_value a all ps t p) kind b r some is lie = absurd (no_chunk kind some)
  chunk_stops (at_content a n p) kind b r some is lie = absurd (no_chunk kind some)

  -- where an item is
  item_is : (p : Place) (b : Beginning) → None ≡ chunk_kind p → begun limits i p (initial.Item b) ≡ item_begun limits i p (initial.Item b)
  unfolding begun
  item_is (at_chunk a k s p) b none = absurd (no_chunk k (sym none))
  item_is top b none = refl
  item_is (at_element a all ts p) b none = refl
  item_is (at_key a all ps p) b none = refl
  item_is (at_value a all ps t p) b none = refl
  item_is (at_content a n p) b none = refl

  pub item_opens : (fs : List Frame) (b : Beginning) (σ : State) → None ≡ chunk_kind (place fs) → length fs < limits.depth → σ ≡ opened limits i (place fs) b
      → σ ≡ begun limits i (place fs) (initial.Item b)
  item_opens fs b σ none room opens =
      let h = height_place fs in
      opens ∙ sym (cond-false _ _ _ (le-ltb limits.depth (height (place fs) + 1) (omega (arith, h)))) ∙ sym (item_is (place fs) b none)

  pub item_deep : (fs : List Frame) (b : Beginning) → None ≡ chunk_kind (place fs) → limits.depth ≤ length fs → faulty 6 i ≡ begun limits i (place fs) (initial.Item b)
  item_deep fs b none deep =
      let h = height_place fs in
      sym (cond-true _ _ _ (lt-ltb limits.depth (height (place fs) + 1) (omega (arith, h)))) ∙ sym (item_is (place fs) b none)

-- breaks

pub top_ends : (i : ℕ) (fs : List Frame) → fs ≡ [] → faulty 2 i ≡ end_state i (place fs)
unfolding broken
top_ends i fs is = ap (λ (gs : List Frame). end_state i (place gs)) (sym is)

pub frame_ends : (i : ℕ) (fs gs : List Frame) (f : Frame) (σ : State) → fs ≡ gs ++ f ∷ [] → σ ≡ end_state i (inside (place gs) f) → σ ≡ end_state i (place fs)
frame_ends i fs gs f σ is ends = ends ∙ ap (λ (p : Place). end_state i p) (sym (pushed_place gs fs f is))

-- constructs that open

some_power : (k : ℕ) → 0 < 256 ^ k
some_power zero = omega arith
some_power (suc k) = let p : 256 ^ suc k ≡ 256 ^ k * 256 = pow-suc 256 k in let i = some_power k in omega (arith, p, i)

pub head_fits : (x : Beginning) (m : Major) (left : ℕ) → x ≡ beginning.Argument m left → BeginFits x → ArgumentFits left 0
head_fits x m left is fits =
    let P : Beginning → Type 0 = λ y. BeginFits y in
    let f = subst P is fits in
    record { some = f.0; most = f.1; fits = some_power (8 - left) }

-- low octets, as the code refuses them

pub float_begun : (limits : Limits) (i : ℕ) (fs gs : List Frame) (r : StepOutcome) (x : Initial) → gs ≡ fs → r ≡ step_outcome.Fault (record { kind = low_kind (place gs) 3; at = i }) → x ≡ initial.Float
    → state_of (place fs) r ≡ begun limits i (place fs) x
float_begun limits i fs gs r x same is which =
    ap (λ (s : StepOutcome). state_of (place fs) s) is ∙ ap (λ (hs : List Frame). faulty (low_kind (place hs) 3) i) same ∙ float_low limits i (place fs)
    ∙ ap (λ (y : Initial). begun limits i (place fs) y) (sym which)

pub simple_begun : (limits : Limits) (i : ℕ) (fs gs : List Frame) (r : StepOutcome) (x : Initial) → gs ≡ fs → r ≡ step_outcome.Fault (record { kind = low_kind (place gs) 4; at = i }) → x ≡ initial.Simple
    → state_of (place fs) r ≡ begun limits i (place fs) x
simple_begun limits i fs gs r x same is which =
    ap (λ (s : StepOutcome). state_of (place fs) s) is ∙ ap (λ (hs : List Frame). faulty (low_kind (place hs) 4) i) same ∙ simple_low limits i (place fs)
    ∙ ap (λ (y : Initial). begun limits i (place fs) y) (sym which)

pub malformed_begun : (limits : Limits) (i : ℕ) (fs gs : List Frame) (r : StepOutcome) (x : Initial) → gs ≡ fs → r ≡ step_outcome.Fault (record { kind = low_kind (place gs) 2; at = i }) → x ≡ initial.Malformed
    → state_of (place fs) r ≡ begun limits i (place fs) x
malformed_begun limits i fs gs r x same is which =
    ap (λ (s : StepOutcome). state_of (place fs) s) is ∙ ap (λ (hs : List Frame). faulty (low_kind (place hs) 2) i) same ∙ malformed_low limits i (place fs)
    ∙ ap (λ (y : Initial). begun limits i (place fs) y) (sym which)

pub fits_at : (b : ℕ) (x : Initial) → x ≡ initial_of b → InitialFits x
fits_at b x is = let P : Initial → Type 0 = λ y. InitialFits y in subst P (sym is) (initial_fits b)
