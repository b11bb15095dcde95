-- What a run of the machine says of its octets: an item, a fault, or neither.
use Rattle.std.proofs.Common.{◌≡◌, ℕ, ◌+◌, ◌-◌, ◌<◌, ◌≤◌, ◌⊎◌, List, [], ◌∷◌, ◌++◌, length, take, drop, refl, sym, ap, ◌∙◌, arith, subst, true, false, append_assoc, length-append, length-take, length-drop, inl, inr}
use Rattle.std.proofs.lemmas.List.{append-nil, take_at, take-append-drop, take-take, take-append-le}
use Rattle.std.proofs.lemmas.Bool.{both_ways, cases_lt}
use Rattle.wire_base.specs.Layout.{AreOctets}
use Rattle.cbor_det.specs.declared.limits.Limits.{Limits}
use Rattle.cbor_det.specs.Term.{Term}
use Rattle.cbor_det.specs.Spelling.{Spelling}
use Rattle.cbor_det.specs.Faults.{top, start, Shows, malformed, float, simple, range, too_deep, not_utf8, doubled, long_string, past_limit, Begins, HasNoItem, IsFault, IsCut}
use Rattle.cbor_det.specs.Machine.{State, due, whole, faulty, item_ended, run, is_over}
use Rattle.cbor_det.proofs.Completes.{reads}
use Rattle.cbor_det.proofs.Shown.{shows_runs, ended}
use Rattle.cbor_det.proofs.Steps.{Ran, run_holds}

abbrev pub Same : State × List ℕ → State × List ℕ → Type 0
Same e f = e ≡ f

pub same_whole : (t u : Term) (x y : List ℕ) → Same (whole t, x) (whole u, y) → (t ≡ u) × (x ≡ y)
same_whole t u x y e = (let f : whole t ≡ whole u = ap (λ (p : State × List ℕ). p.0) e in cc, ap (λ (p : State × List ℕ). p.1) e)

same_fault : (k a j c : ℕ) (x y : List ℕ) → Same (faulty k a, x) (faulty j c, y) → (k ≡ j) × (a ≡ c) × (x ≡ y)
same_fault k a j c x y e = let f : faulty k a ≡ faulty j c = ap (λ (p : State × List ℕ). p.0) e in (cc, cc, ap (λ (p : State × List ℕ). p.1) e)

no_whole_fault : (t : Term) (k a : ℕ) (x y : List ℕ) → Same (whole t, x) (faulty k a, y) → ⊥
no_whole_fault t k a x y e = let f : whole t ≡ faulty k a = ap (λ (p : State × List ℕ). p.0) e in cc

over_of : (σ τ : State) (x y : List ℕ) → Same (σ, x) (τ, y) → is_over σ ≡ false → is_over τ ≡ false
over_of σ τ x y e going = ap (λ (p : State × List ℕ). is_over p.0) (sym e) ∙ going

lower_of : (k a j c m : ℕ) → j ≡ k → c ≡ a → j ≤ m → (k < m) ⊎ ((k ≡ m) × (a ≤ c))
lower_of k a j c m e f le = elim (cases_lt k m) [ inl lt ↦ inl lt | inr ge ↦ inr (omega arith, omega arith) ]

highest : (k a j c n : ℕ) → (k ≤ 9) × (a ≤ n) → j ≡ 9 → c ≡ n → (k < j) ⊎ ((k ≡ j) × (a ≤ c))
highest k a j c n small e f = elim (cases_lt k j) [ inl lt ↦ inl lt | inr ge ↦ inr (omega arith, omega arith) ]

module _ (limits : Limits) where
  -- kinds and places of faults
  pub shows_small : (o : List ℕ) (k a : ℕ) → Shows limits o k a → (k ≤ 9) × (a ≤ length o)
  shows_small o k a (malformed p u b upto is) = (omega arith, omega (arith, length-append u (b ∷ [])))
  shows_small o k a (float p u b upto is) = (omega arith, omega (arith, length-append u (b ∷ [])))
  shows_small o k a (simple p u b upto is) = (omega arith, omega (arith, length-append u (b ∷ [])))
  shows_small o k a (range p u n h m upto ready small is big) = (omega arith, omega (arith, length-append u h))
  shows_small o k a (too_deep p u b upto is) = (omega arith, omega (arith, length-append u (b ∷ [])))
  shows_small o k a (not_utf8 p u h s upto ready is not) = (omega arith, omega (arith, length-append u (h ++ s)))
  shows_small o k a (doubled p map_at all ps u s key upto ready spelled held) = (omega arith, omega (arith, length-append u s))
  shows_small o k a (long_string p u h kind n upto ready is long) = (omega arith, omega (arith, length-append u h))
  shows_small o k a (past_limit u is none) = (omega arith, omega arith)

  -- The machine gives the item that an input begins with.
  pub item_runs : (input : List ℕ) (t : Term) (n : ℕ) → Begins limits input t n → run limits 0 (due top) input ≡ (whole t, drop n input)
  unfolding item_ended
  item_runs input t n begins =
      let len : length (take n input) ≡ n = (let l = length-take n input in let w = begins.within in omega (arith, l, w)) in
      ap (λ (x : List ℕ). run limits 0 (due top) x) (sym (take-append-drop n input))
      ∙ reads limits t (take n input) begins.spelled top 0 (drop n input) ((λ e. e), (let d = begins.shallow in omega (arith, d))) (let s = begins.short in omega (arith, s, len))
      ∙ ended limits (0 + length (take n input)) t (drop n input)

  -- An input begins with one item at most.
  pub item_unique : (input : List ℕ) (t u : Term) (n m : ℕ) → Begins limits input t n → Begins limits input u m → (t ≡ u) × (n ≡ m)
  item_unique input t u n m x y =
      let e = same_whole t u (drop n input) (drop m input) (sym (item_runs input t n x) ∙ item_runs input u m y) in
      let l1 = length-drop n input in
      let l2 = length-drop m input in
      let l3 = ap length e.1 in
      let w1 = x.within in
      let w2 = y.within in
      (e.0, omega (arith, l1, l2, l3, w1, w2))

  -- What shows stops the machine, or it is the limit.
  stopped : (input : List ℕ) (n k a : ℕ) → n ≤ length input → n ≤ limits.octets → Shows limits (take n input) k a
      → ((j : ℕ) × (j ≤ k) × (run limits 0 (due top) input ≡ (faulty j a, drop n input))) ⊎ ((k ≡ 9) × (a ≡ n) × (n ≡ limits.octets) × HasNoItem limits (take n input))
  stopped input n k a within short shows =
      let len : length (take n input) ≡ n = (let l = length-take n input in omega (arith, l)) in
      elim (shows_runs limits (take n input) k a shows (omega (arith, len)) (drop n input)) [
        | inl s ↦ inl (s.lower, s.below, ap (λ (x : List ℕ). run limits 0 (due top) x) (sym (take-append-drop n input)) ∙ s.runs)
        | inr r ↦ inr (r.0, r.1 ∙ len, sym len ∙ r.2, r.3)
      ]

  shorter : (input : List ℕ) (t : Term) (n m : ℕ) → n ≤ m → Begins limits input t n → Begins limits (take m input) t n
  shorter input t n m le begins =
      let P : List ℕ → Type 0 = λ x. Spelling t x in
      record {
        within = (let l = length-take m input in let w = begins.within in omega (arith, l, w));
        short = begins.short;
        spelled = subst P (sym (take-take n m input le)) begins.spelled;
        shallow = begins.shallow;
      }

  -- No input has both an item and a fault.
  pub item_no_fault : (input : List ℕ) (t : Term) (n k a : ℕ) → Begins limits input t n → IsFault limits input k a → ⊥
  item_no_fault input t n k a begins fault =
      elim (stopped input fault.after k a fault.within fault.short fault.shows) [
        | inl s ↦ no_whole_fault t s.0 a (drop n input) (drop fault.after input) (sym (item_runs input t n begins) ∙ s.2)
        | inr r ↦ r.3 t n (shorter input t n fault.after (let s = begins.short in let e = r.2 in omega (arith, s, e)) begins)
      ]

  first_at : (input : List ℕ) (k a j c : ℕ) (x : IsFault limits input k a) (y : IsFault limits input j c) → x.after < y.after → ⊥
  first_at input k a j c x y lt = y.fewest x.after k a lt x.shows

  same_least : (k a j c : ℕ) → (k < j) ⊎ ((k ≡ j) × (a ≤ c)) → (j < k) ⊎ ((j ≡ k) × (c ≤ a)) → (k ≡ j) × (a ≡ c)
  same_least k a j c (inl x) (inl y) = absurd (omega arith)
  same_least k a j c (inl x) (inr y) = absurd (omega arith)
  same_least k a j c (inr x) (inl y) = absurd (omega arith)
  same_least k a j c (inr x) (inr y) = (x.0, omega arith)

  -- An input has one fault at most.
  pub fault_unique : (input : List ℕ) (k a j c : ℕ) → IsFault limits input k a → IsFault limits input j c → (k ≡ j) × (a ≡ c)
  fault_unique input k a j c x y =
      elim (cases_lt x.after y.after) [
        | inl lt ↦ absurd (first_at input k a j c x y lt)
        | inr ge ↦ elim (cases_lt y.after x.after) [
          | inl lt ↦ absurd (first_at input j c k a y x lt)
          | inr le ↦
              let same : x.after ≡ y.after = omega arith in
              let P : ℕ → Type 0 = λ n. Shows limits (take n input) j c in
              let R : ℕ → Type 0 = λ n. Shows limits (take n input) k a in
              same_least k a j c (x.lowest j c (subst P (sym same) y.shows)) (y.lowest k a (subst R same x.shows))
        ]
      ]

  -- What a run says. `bs` are the octets that were looked at, up to the limit, and `tail` those
  -- after them.

  spelled_front : (bs tail front rest : List ℕ) → bs ≡ front ++ rest → take (length bs - length rest) (bs ++ tail) ≡ front
  spelled_front bs tail front rest parts =
      let l : length bs ≡ length front + length rest = ap length parts ∙ length-append front rest in
      ap (λ (x : List ℕ). take (length bs - length rest) (x ++ tail)) parts
      ∙ ap (λ (x : List ℕ). take (length bs - length rest) x) (append_assoc front rest tail)
      ∙ take_at front (rest ++ tail) (length bs - length rest) (omega (arith, l))

  ran_from : (bs : List ℕ) (σ : State) (rest : List ℕ) → AreOctets bs → run limits 0 (due top) bs ≡ (σ, rest) → Ran limits [] bs (σ, rest)
  ran_from bs σ rest are e = let P : State × List ℕ → Type 0 = λ x. Ran limits [] bs x in subst P e (run_holds limits bs (due top) [] 0 refl are start)

  pub whole_begins : (bs tail rest : List ℕ) (t : Term) → AreOctets bs → length bs ≤ limits.octets → run limits 0 (due top) bs ≡ (whole t, rest)
      → Begins limits (bs ++ tail) t (length bs - length rest)
  whole_begins bs tail rest t are short e =
      let w = ran_from bs (whole t) rest are e in
      let P : List ℕ → Type 0 = λ x. Spelling t x in
      record {
        within = (let l = length-append bs tail in omega (arith, l));
        short = omega arith;
        spelled = subst P (sym (spelled_front bs tail w.front rest w.parts)) w.holds.0;
        shallow = w.holds.1;
      }

  -- nothing shows before the machine stops
  early : (bs tail rest : List ℕ) (k a n j c : ℕ) → length bs ≤ limits.octets → length rest ≤ length bs → run limits 0 (due top) bs ≡ (faulty k a, rest) → n < length bs - length rest
      → Shows limits (take n (bs ++ tail)) j c → ⊥
  early bs tail rest k a n j c short less e lt shows =
      let P : List ℕ → Type 0 = λ x. Shows limits x j c in
      elim (stopped bs n j c (omega arith) (omega arith) (subst P (take-append-le n bs tail (omega arith)) shows)) [
        | inl s ↦ let f = same_fault s.0 c k a (drop n bs) rest (sym s.2 ∙ e) in let l = length-drop n bs in let m = ap length f.2 in omega (arith, l, m)
        | inr r ↦ let f = r.2 in omega (arith, f)
      ]

  lowest_of : (bs rest front : List ℕ) (k a j c : ℕ) → length bs ≤ limits.octets → bs ≡ front ++ rest → run limits 0 (due top) bs ≡ (faulty k a, rest)
      → Shows limits front k a → Shows limits front j c → (k < j) ⊎ ((k ≡ j) × (a ≤ c))
  lowest_of bs rest front k a j c short parts e here shows =
      let l : length bs ≡ length front + length rest = ap length parts ∙ length-append front rest in
      elim (shows_runs limits front j c shows (omega (arith, l)) rest) [
        | inl s ↦ let f = same_fault s.lower c k a rest rest (sym s.runs ∙ ap (λ (x : List ℕ). run limits 0 (due top) x) (sym parts) ∙ e) in
            lower_of k a s.lower c j f.0 f.1 s.below
        | inr r ↦ let small = shows_small front k a here in highest k a j c (length front) small r.0 r.1
      ]

  pub faulty_is : (bs tail rest : List ℕ) (k a : ℕ) → AreOctets bs → length bs ≤ limits.octets → run limits 0 (due top) bs ≡ (faulty k a, rest) → IsFault limits (bs ++ tail) k a
  faulty_is bs tail rest k a are short e =
      let w = ran_from bs (faulty k a) rest are e in
      let l : length bs ≡ length w.front + length rest = ap length w.parts ∙ length-append w.front rest in
      let P : List ℕ → Type 0 = λ x. Shows limits x k a in
      let front = spelled_front bs tail w.front rest w.parts in
      record {
        after = length bs - length rest;
        within = (let m = length-append bs tail in omega (arith, m));
        short = omega arith;
        shows = subst P (sym front) w.holds;
        fewest = λ n j c lt shows. early bs tail rest k a n j c short (omega (arith, l)) e lt shows;
        lowest = λ j c shows. lowest_of bs rest w.front k a j c short w.parts e w.holds (let Q : List ℕ → Type 0 = λ x. Shows limits x j c in subst Q front shows);
      }

  -- an input of which that many octets were looked at, and neither an item nor a fault was found
  pub open_no_item : (bs : List ℕ) (σ : State) → is_over σ ≡ false → run limits 0 (due top) bs ≡ (σ, []) → HasNoItem limits bs
  open_no_item bs σ going e t n begins = both_ways true (over_of σ (whole t) [] (drop n bs) (sym e ∙ item_runs bs t n begins) going) refl

  open_early : (bs tail : List ℕ) (σ : State) (n j c : ℕ) → is_over σ ≡ false → length bs ≡ limits.octets → run limits 0 (due top) bs ≡ (σ, []) → n < limits.octets
      → Shows limits (take n (bs ++ tail)) j c → ⊥
  open_early bs tail σ n j c going len e lt shows =
      let P : List ℕ → Type 0 = λ x. Shows limits x j c in
      elim (stopped bs n j c (omega arith) (omega arith) (subst P (take-append-le n bs tail (omega arith)) shows)) [
        | inl s ↦ both_ways true (over_of σ (faulty s.0 c) [] (drop n bs) (sym e ∙ s.2) going) refl
        | inr r ↦ let f = r.2 in omega (arith, f)
      ]

  open_lowest : (bs : List ℕ) (σ : State) (j c : ℕ) → is_over σ ≡ false → length bs ≡ limits.octets → run limits 0 (due top) bs ≡ (σ, [])
      → Shows limits bs j c → (9 < j) ⊎ ((9 ≡ j) × (limits.octets ≤ c))
  open_lowest bs σ j c going len e shows =
      elim (shows_runs limits bs j c shows (omega arith) []) [
        | inl s ↦ absurd (both_ways true (over_of σ (faulty s.lower c) [] [] (sym e ∙ ap (λ (x : List ℕ). run limits 0 (due top) x) (sym (append-nil bs)) ∙ s.runs) going) refl)
        | inr r ↦ inr (sym r.0, (let f = r.1 in omega (arith, f)))
      ]

  pub limit_is : (bs tail : List ℕ) (σ : State) → is_over σ ≡ false → length bs ≡ limits.octets → run limits 0 (due top) bs ≡ (σ, []) → IsFault limits (bs ++ tail) 9 limits.octets
  limit_is bs tail σ going len e =
      let at : take limits.octets (bs ++ tail) ≡ bs = take_at bs tail limits.octets len in
      let P : List ℕ → Type 0 = λ x. Shows limits x 9 limits.octets in
      let R : ℕ → Type 0 = λ a. Shows limits bs 9 a in
      record {
        after = limits.octets;
        within = (let m = length-append bs tail in omega (arith, m));
        short = omega arith;
        shows = subst P (sym at) (subst R len (past_limit bs len (open_no_item bs σ going e)));
        fewest = λ n j c lt shows. open_early bs tail σ n j c going len e lt shows;
        lowest = λ j c shows. open_lowest bs σ j c going len e (let Q : List ℕ → Type 0 = λ x. Shows limits x j c in subst Q at shows);
      }

  pub cut_is : (bs : List ℕ) (σ : State) → is_over σ ≡ false → length bs < limits.octets → run limits 0 (due top) bs ≡ (σ, []) → IsCut limits bs
  cut_is bs σ going short e =
      record {
        no_item = open_no_item bs σ going e;
        no_fault = λ k a fault. elim (stopped bs fault.after k a fault.within fault.short fault.shows) [
          | inl s ↦ both_ways true (over_of σ (faulty s.0 a) [] (drop fault.after bs) (sym e ∙ s.2) going) refl
          | inr r ↦ let f = r.2 in let w = fault.within in omega (arith, f, w)
        ];
      }
