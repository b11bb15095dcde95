-- What came of a piece, from the run of the machine over it.
use Rattle.std.proofs.Common.{◌≡◌, ℕ, zero, suc, ◌+◌, ◌-◌, ◌<◌, ◌≤◌, List, [], ◌∷◌, ◌++◌, length, take, drop, refl, sym, ap, ◌∙◌, arith, subst, false, append_assoc, length-append, length-take, length-drop, inl, inr}
use Rattle.std.proofs.lemmas.List.{append-nil, take-append-drop, take_all}
use Rattle.std.proofs.lemmas.Bool.{cond-true, cond-false, cases_Bool}
use Rattle.wire_base.specs.Layout.{AreOctets}
use Rattle.wire_base.proofs.Spelled.{AreOctets-take}
use Rattle.cbor_det.specs.declared.limits.Limits.{Limits}
use Rattle.cbor_det.specs.declared.frame.Frame.{Frame}
use Rattle.cbor_det.specs.declared.frame.Phase.{Phase}
use Rattle.cbor_det.specs.declared.frame.Phase.TheVariants as phase
use Rattle.cbor_det.specs.Term.{Term}
use Rattle.cbor_det.specs.Faults.{Place, top, Begins, IsFault, IsCut, start}
use Rattle.cbor_det.specs.Machine.{State, due, whole, faulty, step, run, is_over}
use Rattle.cbor_det.specs.Standing.{place, IsAt, Stands}
use Rattle.cbor_det.specs.Frames.{phase_state}
use Rattle.cbor_det.proofs.Standing.{stands_run, at_of}
use Rattle.cbor_det.proofs.Sound.{Holds}
use Rattle.cbor_det.proofs.Steps.{Ran, run_holds}
use Rattle.cbor_det.proofs.Outcome.{Same, whole_begins, faulty_is, limit_is, cut_is}

over_rest : (limits : Limits) (b : ℕ) (o : List ℕ) (σ τ : State) → Same (σ, b ∷ o) (τ, []) → ⊥
over_rest limits b o σ τ e = let f : b ∷ o ≡ [] = ap (λ (p : State × List ℕ). p.1) e in cc

-- a run goes on after octets that it took all
run_append : (limits : Limits) (o x : List ℕ) (i : ℕ) (σ τ : State) → Same (run limits i σ o) (τ, []) → run limits i σ (o ++ x) ≡ run limits (i + length o) τ x
run_append limits [] x i σ τ e =
    let f : σ ≡ τ = ap (λ (p : State × List ℕ). p.0) e in
    let g : i ≡ i + 0 = omega arith in
    ap (λ (s : State). run limits i s x) f ∙ ap (λ (k : ℕ). run limits k τ x) g
run_append limits (b ∷ o) x i σ τ e =
    elim (cases_Bool (is_over σ)) [
      | inl over ↦ absurd (over_rest limits b o σ τ (sym (cond-true _ _ _ over) ∙ e))
      | inr going ↦
          let g : i + 1 + length o ≡ i + suc (length o) = omega arith in
          cond-false _ _ _ going ∙ run_append limits o x (i + 1) (step limits i σ b) τ (sym (cond-false _ _ _ going) ∙ e) ∙ ap (λ (k : ℕ). run limits k τ x) g
    ]

pub phase_goes : (p : Place) (f : Phase) → is_over (phase_state p f) ≡ false
phase_goes p phase.Due = refl
phase_goes p (phase.Head head) = refl
phase_goes p (phase.String string) = refl

not_full : (a b n : ℕ) → a ≡ b → b ≤ n → (a ≡ n → ⊥) → b < n
not_full a b n e le ne = omega (arith, ne)

are_append : (xs ys : List ℕ) → AreOctets xs → AreOctets ys → AreOctets (xs ++ ys)
are_append [] ys are more i = more i
are_append (x ∷ xs) ys are more zero = are 0
are_append (x ∷ xs) ys are more (suc i) = are_append xs ys (λ j. are (suc j)) more i

module _ (limits : Limits) (fs : List Frame) (f : Phase) (taken : ℕ) (before piece : List ℕ) (stands : Stands limits fs f taken before) (octets : AreOctets piece) where
  abbrev front : List ℕ
  front = take (limits.octets - taken) piece

  abbrev behind : List ℕ
  behind = drop (limits.octets - taken) piece

  abbrev looked : List ℕ
  looked = before ++ front

  looked_short : length looked ≤ limits.octets
  looked_short = let l = length-append before front in let m = length-take (limits.octets - taken) piece in let s = stands.short in let t = stands.taken_is in omega (arith, l, m, s, t)

  joined : looked ++ behind ≡ before ++ piece
  joined = append_assoc before front behind ∙ ap (λ (x : List ℕ). before ++ x) (take-append-drop (limits.octets - taken) piece)

  looked_octets : AreOctets looked
  looked_octets = are_append before front stands.are (AreOctets-take (limits.octets - taken) piece octets)

  runs_on : (τ : State) (rest : List ℕ) → run limits taken (phase_state (place fs) f) front ≡ (τ, rest) → run limits 0 (due top) looked ≡ (τ, rest)
  runs_on τ rest e =
      run_append limits before front 0 (due top) (phase_state (place fs) f) (stands_run limits fs f taken before stands)
      ∙ (let g : 0 + length before ≡ taken = (let t = stands.taken_is in omega (arith, t)) in ap (λ (k : ℕ). run limits k (phase_state (place fs) f) front) g)
      ∙ e

  used_is : (used : ℕ) → used ≤ length front → length looked - length (drop used front) ≡ length before + used
  used_is used within = let l = length-drop used front in let m = length-append before front in omega (arith, l, m)

  pub came_done : (t : Term) (used : ℕ) → 0 < used → used ≤ length front → run limits taken (phase_state (place fs) f) front ≡ (whole t, drop used front)
      → Begins limits (before ++ piece) t (length before + used) × (0 < used) × (used ≤ length piece)
  came_done t used some within e =
      let P : List ℕ → Type 0 = λ x. Begins limits x t (length looked - length (drop used front)) in
      let Q : ℕ → Type 0 = λ n. Begins limits (before ++ piece) t n in
      let m = length-take (limits.octets - taken) piece in
      (subst Q (used_is used within) (subst P joined (whole_begins limits looked behind (drop used front) t looked_octets looked_short (runs_on (whole t) (drop used front) e))), some, omega (arith, m))

  pub came_fault : (k a : ℕ) (rest : List ℕ) → run limits taken (phase_state (place fs) f) front ≡ (faulty k a, rest) → IsFault limits (before ++ piece) k a
  came_fault k a rest e =
      let P : List ℕ → Type 0 = λ x. IsFault limits x k a in
      subst P joined (faulty_is limits looked behind rest k a looked_octets looked_short (runs_on (faulty k a) rest e))

  all_read : (σ : State) (rest : List ℕ) → is_over σ ≡ false → run limits taken (phase_state (place fs) f) front ≡ (σ, rest) → run limits 0 (due top) looked ≡ (σ, [])
  all_read σ rest going e =
      let P : State × List ℕ → Type 0 = λ x. Ran limits [] looked x in
      let w : Ran limits [] looked (σ, rest) = subst P (runs_on σ rest e) (run_holds limits looked (due top) [] 0 refl looked_octets start) in
      let Q : List ℕ → Type 0 = λ x. Same (run limits 0 (due top) looked) (σ, x) in
      subst Q (w.all going) (runs_on σ rest e)

  reader_at : (fs2 : List Frame) (g : Phase) (rest : List ℕ) → run limits taken (phase_state (place fs) f) front ≡ (phase_state (place fs2) g, rest) → IsAt limits (place fs2) g looked
  reader_at fs2 g rest e =
      let P : State × List ℕ → Type 0 = λ x. Ran limits [] looked x in
      let w : Ran limits [] looked (phase_state (place fs2) g, rest) = subst P (runs_on (phase_state (place fs2) g) rest e) (run_holds limits looked (due top) [] 0 refl looked_octets start) in
      let none : rest ≡ [] = w.all (phase_goes (place fs2) g) in
      let whole : w.front ≡ looked = sym (w.parts ∙ ap (λ (x : List ℕ). w.front ++ x) none ∙ append-nil w.front) in
      let Q : List ℕ → Type 0 = λ x. Holds limits x (phase_state (place fs2) g) in
      at_of limits (place fs2) g looked (subst Q whole w.holds)

  pub came_limit : (fs2 : List Frame) (g : Phase) (rest : List ℕ) → run limits taken (phase_state (place fs) f) front ≡ (phase_state (place fs2) g, rest) → taken + length front ≡ limits.octets
      → IsFault limits (before ++ piece) 9 limits.octets
  came_limit fs2 g rest e full =
      let P : List ℕ → Type 0 = λ x. IsFault limits x 9 limits.octets in
      let l = length-append before front in
      let t = stands.taken_is in
      let going = phase_goes (place fs2) g in
      subst P joined (limit_is limits looked behind (phase_state (place fs2) g) going (omega (arith, l, t)) (all_read (phase_state (place fs2) g) rest going e))

  pub came_more : (fs2 : List Frame) (g : Phase) (rest : List ℕ) → run limits taken (phase_state (place fs) f) front ≡ (phase_state (place fs2) g, rest) → (taken + length front ≡ limits.octets → ⊥)
      → Stands limits fs2 g (taken + length front) (before ++ piece) × IsCut limits (before ++ piece)
  came_more fs2 g rest e short =
      let m = length-take (limits.octets - taken) piece in
      let l = length-append before front in
      let s = stands.short in
      let t = stands.taken_is in
      let less : length looked < limits.octets = not_full (taken + length front) (length looked) limits.octets (omega (arith, l, t)) looked_short short in
      let same : front ≡ piece = take_all (limits.octets - taken) piece (omega (arith, m, l, t, less)) in
      let whole : looked ≡ before ++ piece = ap (λ (x : List ℕ). before ++ x) same in
      let going = phase_goes (place fs2) g in
      let ran = all_read (phase_state (place fs2) g) rest going e in
      let P : List ℕ → Type 0 = λ x. IsCut limits x in
      let Q : List ℕ → Type 0 = λ x. Stands limits fs2 g (taken + length front) x in (
        subst Q whole (record { are = looked_octets; short = looked_short; taken_is = omega (arith, l, t); reads = reader_at fs2 g rest e }),
        subst P whole (cut_is limits looked (phase_state (place fs2) g) going less ran),
      )

-- The same of the prefix as the code takes it.
module _ (limits : Limits) (fs : List Frame) (f : Phase) (taken : ℕ) (piece x : List ℕ) (octets : AreOctets piece) (is : x ≡ take (limits.octets - taken) piece)
    (before : List ℕ) (stands : Stands limits fs f taken before) where
  pub done_at : (t : Term) (used : ℕ) → 0 < used → used ≤ length x → run limits taken (phase_state (place fs) f) x ≡ (whole t, drop used x)
      → Begins limits (before ++ piece) t (length before + used) × (0 < used) × (used ≤ length piece)
  done_at t used some within e =
      let P : List ℕ → Type 0 = λ y. used ≤ length y in
      let Q : List ℕ → Type 0 = λ y. Same (run limits taken (phase_state (place fs) f) y) (whole t, drop used y) in
      came_done limits fs f taken before piece stands octets t used some (subst P is within) (subst Q is e)

  pub fault_at : (k a : ℕ) (rest : List ℕ) → run limits taken (phase_state (place fs) f) x ≡ (faulty k a, rest) → IsFault limits (before ++ piece) k a
  fault_at k a rest e =
      let Q : List ℕ → Type 0 = λ y. Same (run limits taken (phase_state (place fs) f) y) (faulty k a, rest) in
      came_fault limits fs f taken before piece stands octets k a rest (subst Q is e)

  pub limit_at : (fs2 : List Frame) (g : Phase) (rest : List ℕ) (n : ℕ) → n ≡ length x → run limits taken (phase_state (place fs) f) x ≡ (phase_state (place fs2) g, rest) → taken + n ≡ limits.octets
      → IsFault limits (before ++ piece) 9 limits.octets
  limit_at fs2 g rest n len e full =
      let Q : List ℕ → Type 0 = λ y. Same (run limits taken (phase_state (place fs) f) y) (phase_state (place fs2) g, rest) in
      came_limit limits fs f taken before piece stands octets fs2 g rest (subst Q is e) (ap (λ (y : List ℕ). taken + length y) (sym is) ∙ ap (λ (k : ℕ). taken + k) (sym len) ∙ full)

  pub more_at : (fs2 : List Frame) (g : Phase) (rest : List ℕ) (n : ℕ) → n ≡ length x → run limits taken (phase_state (place fs) f) x ≡ (phase_state (place fs2) g, rest) → (taken + n ≡ limits.octets → ⊥)
      → Stands limits fs2 g (taken + n) (before ++ piece) × IsCut limits (before ++ piece)
  more_at fs2 g rest n len e short =
      let Q : List ℕ → Type 0 = λ y. Same (run limits taken (phase_state (place fs) f) y) (phase_state (place fs2) g, rest) in
      let same : n ≡ length (take (limits.octets - taken) piece) = len ∙ ap length is in
      let R : ℕ → Type 0 = λ k. Stands limits fs2 g (taken + k) (before ++ piece) × IsCut limits (before ++ piece) in
      subst R (sym same) (came_more limits fs f taken before piece stands octets fs2 g rest (subst Q is e) (λ full. short (ap (λ (k : ℕ). taken + k) same ∙ full)))
