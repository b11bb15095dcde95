-- What a whole reader answers, from the run of the machine over the octets up to the limit.
use Rattle.std.proofs.Common.{◌≡◌, ℕ, ◌-◌, ◌≤◌, List, [], ◌++◌, length, take, drop, refl, sym, ap, ◌∙◌, arith, subst, false, length-take, length-drop, inl, inr, Result, Ok, Err}
use Rattle.std.specs.Prelude.{IfOk, IfErr, nat_lt, if◌then◌else◌}
use Rattle.std.proofs.lemmas.List.{take-append-drop, take_all}
use Rattle.std.proofs.lemmas.Bool.{cond_both, ltb-true, ltb-false}
use Rattle.wire_base.specs.Layout.{AreOctets}
use Rattle.wire_base.proofs.Spelled.{AreOctets-take}
use Rattle.cbor_det.specs.declared.fault.CborFault.{CborFault}
use Rattle.cbor_det.specs.declared.fault.CborRefused.{CborRefused}
use Rattle.cbor_det.specs.declared.fault.CborRefused.TheVariants as refused
use Rattle.cbor_det.specs.declared.item.Item.{Item}
use Rattle.cbor_det.specs.declared.limits.Limits.{Limits}
use Rattle.cbor_det.specs.Term.{Term}
use Rattle.cbor_det.specs.View.{view}
use Rattle.cbor_det.specs.Faults.{top, Begins, IsFault, IsCut, start}
use Rattle.cbor_det.specs.Machine.{State, due, whole, faulty, run, is_over}
use Rattle.cbor_det.specs.declared.frame.Frame.{Frame}
use Rattle.cbor_det.specs.Standing.{place}
use Rattle.cbor_det.specs.Answers.{IsRefusal, GivesItem, GivesFault}
use Rattle.cbor_det.proofs.Steps.{Ran, run_holds}
use Rattle.cbor_det.proofs.Outcome.{Same, item_unique, item_no_fault, fault_unique, whole_begins, faulty_is, limit_is, cut_is}

module _ (limits : Limits) (input : List ℕ) where
  abbrev front : List ℕ
  front = take limits.octets input

  front_short : length front ≤ limits.octets
  front_short = let l = length-take limits.octets input in omega (arith, l)

  whole_input : front ++ drop limits.octets input ≡ input
  whole_input = take-append-drop limits.octets input

  -- all octets were read, or the machine stopped
  nothing_left : (σ : State) (rest : List ℕ) → AreOctets input → run limits 0 (due top) front ≡ (σ, rest) → is_over σ ≡ false → rest ≡ []
  nothing_left σ rest are e going =
      let P : State × List ℕ → Type 0 = λ x. Ran limits [] front x in
      let w : Ran limits [] front (σ, rest) = subst P e (run_holds limits front (due top) [] 0 refl (AreOctets-take limits.octets input are) start) in
      w.all going

  used_is : (used : ℕ) → used ≤ length front → length front - length (drop used front) ≡ used
  used_is used within = let l = length-drop used front in omega (arith, l)

  pub read_whole : (t : Term) (rest : List ℕ) → AreOctets input → run limits 0 (due top) front ≡ (whole t, rest) → Begins limits input t (length front - length rest)
  read_whole t rest are e =
      let P : List ℕ → Type 0 = λ x. Begins limits x t (length front - length rest) in
      subst P whole_input (whole_begins limits front (drop limits.octets input) rest t (AreOctets-take limits.octets input are) front_short e)

  pub read_found : (t : Term) (used : ℕ) → AreOctets input → used ≤ length front → run limits 0 (due top) front ≡ (whole t, drop used front) → Begins limits input t used
  read_found t used are within e =
      let Q : ℕ → Type 0 = λ n. Begins limits input t n in
      subst Q (used_is used within) (read_whole t (drop used front) are e)

  pub read_fault : (k a : ℕ) (rest : List ℕ) → AreOctets input → run limits 0 (due top) front ≡ (faulty k a, rest) → IsFault limits input k a
  read_fault k a rest are e =
      let P : List ℕ → Type 0 = λ x. IsFault limits x k a in
      subst P whole_input (faulty_is limits front (drop limits.octets input) rest k a (AreOctets-take limits.octets input are) front_short e)

  emptied : (σ : State) (rest : List ℕ) → run limits 0 (due top) front ≡ (σ, rest) → rest ≡ [] → run limits 0 (due top) front ≡ (σ, [])
  emptied σ rest e none = let P : List ℕ → Type 0 = λ x. Same (run limits 0 (due top) front) (σ, x) in subst P none e

  pub read_open : (σ : State) (rest : List ℕ) (f : CborFault) → AreOctets input → is_over σ ≡ false → run limits 0 (due top) front ≡ (σ, rest)
      → f ≡ (if nat_lt (length input) limits.octets then record { kind = 1; at = length input } else record { kind = 9; at = limits.octets }) → IsRefusal limits input (refused.Fault f)
  read_open σ rest f are going e is =
      let none = nothing_left σ rest are e going in
      let P : CborFault → Type 0 = λ g. IsRefusal limits input (refused.Fault g) in
      let l = length-take limits.octets input in
      subst P (sym is) (cond_both (nat_lt (length input) limits.octets) _ _ P
      (λ lt.
      let short = ltb-true (length input) limits.octets lt in
      let same : front ≡ input = take_all limits.octets input (omega arith) in
      let Q : List ℕ → Type 0 = λ x. IsCut limits x in
      inr (refl, refl, subst Q same (cut_is limits front σ going (omega (arith, l)) (emptied σ rest e none))))
      (λ ge.
      let long = ltb-false (length input) limits.octets ge in
      let Q : List ℕ → Type 0 = λ x. IsFault limits x 9 limits.octets in
      inl (subst Q whole_input (limit_is limits front (drop limits.octets input) σ going (omega (arith, l)) (emptied σ rest e none)))))

-- The run of the code, which begins with no frame.
pub started : (limits : Limits) (fs : List Frame) (x front : List ℕ) (end : State × List ℕ) → fs ≡ [] → x ≡ front → run limits 0 (due (place fs)) x ≡ end → run limits 0 (due top) front ≡ end
started limits fs x front end none is e =
    ap (λ (gs : List Frame). run limits 0 (due (place gs)) front) (sym none) ∙ ap (λ (y : List ℕ). run limits 0 (due (place fs)) y) (sym is) ∙ e

module _ (limits : Limits) (input : List ℕ) (fs : List Frame) (x : List ℕ) (are : AreOctets input) (none : fs ≡ []) (is : x ≡ take limits.octets input) where
  pub found_at : (t : Term) (used : ℕ) → used ≤ length x → run limits 0 (due (place fs)) x ≡ (whole t, drop used x) → Begins limits input t used
  found_at t used within e =
      let P : List ℕ → Type 0 = λ y. used ≤ length y in
      let Q : List ℕ → Type 0 = λ y. Same (run limits 0 (due top) (take limits.octets input)) (whole t, drop used y) in
      read_found limits input t used are (subst P is within) (subst Q is (started limits fs x (take limits.octets input) (whole t, drop used x) none is e))

  pub fault_at : (k a : ℕ) (rest : List ℕ) → run limits 0 (due (place fs)) x ≡ (faulty k a, rest) → IsFault limits input k a
  fault_at k a rest e = read_fault limits input k a rest are (started limits fs x (take limits.octets input) (faulty k a, rest) none is e)

  pub open_at : (σ : State) (rest : List ℕ) (f : CborFault) → is_over σ ≡ false → run limits 0 (due (place fs)) x ≡ (σ, rest)
      → f ≡ (if nat_lt (length input) limits.octets then record { kind = 1; at = length input } else record { kind = 9; at = limits.octets }) → IsRefusal limits input (refused.Fault f)
  open_at σ rest f going e which = read_open limits input σ rest f are going (started limits fs x (take limits.octets input) (σ, rest) none is e) which

-- An answer that says so says it exactly.
module _ (limits : Limits) (input : List ℕ) where
  pub gives_item : (r : Result (Item × ℕ) CborRefused) → IfOk r (λ read. Begins limits input (view read.0) read.1) → IfErr r (IsRefusal limits input)
      → (t : Term) (n : ℕ) → Begins limits input t n → GivesItem t n r
  gives_item (Ok read) found refusal t n begins = item_unique limits input (view read.0) t read.1 n found begins
  gives_item (Err refused.Memory) found refusal t n begins = tt
  gives_item (Err (refused.Fault f)) found (inl fault) t n begins = item_no_fault limits input t n f.kind f.at begins fault
  gives_item (Err (refused.Fault f)) found (inr cut) t n begins = cut.2.no_item t n begins

  pub gives_fault : (r : Result (Item × ℕ) CborRefused) → IfOk r (λ read. Begins limits input (view read.0) read.1) → IfErr r (IsRefusal limits input)
      → (k a : ℕ) → IsFault limits input k a → GivesFault k a r
  gives_fault (Ok read) found refusal k a fault = item_no_fault limits input (view read.0) read.1 k a found fault
  gives_fault (Err refused.Memory) found refusal k a fault = tt
  gives_fault (Err (refused.Fault f)) found (inl other) k a fault = fault_unique limits input f.kind f.at k a other fault
  gives_fault (Err (refused.Fault f)) found (inr cut) k a fault = absurd (cut.2.no_fault k a fault)

  pub gives_cut : (r : Result (Item × ℕ) CborRefused) → IfOk r (λ read. Begins limits input (view read.0) read.1) → IfErr r (IsRefusal limits input)
      → IsCut limits input → GivesFault 1 (length input) r
  gives_cut (Ok read) found refusal cut = cut.no_item (view read.0) read.1 found
  gives_cut (Err refused.Memory) found refusal cut = tt
  gives_cut (Err (refused.Fault f)) found (inl other) cut = absurd (cut.no_fault f.kind f.at other)
  gives_cut (Err (refused.Fault f)) found (inr is) cut = (is.0, is.1)
