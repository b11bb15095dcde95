-- Values, and numbers that are equal exactly where the values are.
use Rattle.std.proofs.Common.{◌≡◌, ℕ, ◌+◌, ◌<◌, ◌≤◌, Bool, true, false, not, cond, ltb, eqb, true≢false, List, [], ◌∷◌, ◌++◌, map, length, get_or, position, Option, Some, None, unwrap_or, ⊎_elim, refl, sym, ap, ◌∙◌, subst, arith, lt-ltb, le-ltb, eq-eqb, ne_eqb}
use Rattle.std.specs.Cmp.{IsEquivalence}
use Rattle.std.specs.List.{position_or_len}
use Rattle.std.proofs.lemmas.Bool.{cases_lt, cases_Bool, cond-true, cond-false}
use Rattle.std.proofs.lemmas.List.{get_or-map, length-map, map-append, length_push}
use Rattle.std.proofs.lemmas.List.Folds.{position_or_len_push}
use Rattle.std.proofs.lemmas.List.Sums.{prefix_len-le-length, passes_at_first, fails_before_first}
use Rattle.coswid_links.specs.FirstEqual.{first_places, Tells}
use Rattle.coswid_links.specs.RivalChains.{AreBelow}

-- It is a place of the list, or the list's length.
pub place_within : {K : Type 0} (p : K → Bool) (xs : List K) → position_or_len p xs ≤ length xs
place_within p xs = prefix_len-le-length (λ x. not (p x)) xs

-- A value that passes stands at the first place that does, or after it.
pub place_upto : {K : Type 0} (p : K → Bool) (xs : List K) (i : ℕ) (d : K) → i < length xs → p (get_or xs i d) ≡ true → position_or_len p xs ≤ i
place_upto p xs i d lt passes =
    ⊎_elim (λ above. absurd (true≢false (sym passes ∙ fails_before_first p xs i d above))) (λ le. le) (cases_lt i (position_or_len p xs))

-- What follows a value that passes does not matter.
pub place_there : {K : Type 0} (p : K → Bool) (xs : List K) (y : K) (ys : List K) → p y ≡ true → position_or_len p (xs ++ y ∷ ys) ≡ position_or_len p xs
place_there p [] y ys e = ap (λ (b : Bool). cond (not b) (1 + position_or_len p ys) 0) e
place_there p (x ∷ xs) y ys e = ap (λ (n : ℕ). cond (not (p x)) (1 + n) 0) (place_there p xs y ys e)

-- Tests that answer alike find one place.
pub place_same : {K : Type 0} (p r : K → Bool) (xs : List K) → ((x : K) → p x ≡ r x) → position_or_len p xs ≡ position_or_len r xs
place_same p r [] h = refl
place_same p r (x ∷ xs) h =
    ap (λ (b : Bool). cond (not b) (1 + position_or_len p xs) 0) (h x) ∙ ap (λ (n : ℕ). cond (not (r x)) (1 + n) 0) (place_same p r xs h)

some_below : (n len : ℕ) → n < len → cond (ltb n len) (Some n) None ≡ Some n
some_below n len lt = cond-true (ltb n len) (Some n) None (lt-ltb n len lt)

none_past : (n len : ℕ) → len ≤ n → cond (ltb n len) (Some n) None ≡ None
none_past n len le = cond-false (ltb n len) (Some n) None (le-ltb n len le)

-- The place, by what a look-up gives.
pub place_or_len : {K : Type 0} (p : K → Bool) (xs : List K) (n len : ℕ) (found : Option ℕ) → found ≡ position p xs → n ≡ unwrap_or found len → len ≡ length xs → n ≡ position_or_len p xs
place_or_len p xs n len found is n_is len_is =
    n_is ∙ ap (λ (o : Option ℕ). unwrap_or o len) is ∙ ⊎_elim
    (λ lt. ap (λ (o : Option ℕ). unwrap_or o len) (some_below (position_or_len p xs) (length xs) lt))
    (λ le. ap (λ (o : Option ℕ). unwrap_or o len) (none_past (position_or_len p xs) (length xs) le) ∙ len_is
    ∙ (let same : length xs ≡ position_or_len p xs = omega (arith, place_within p xs) in same))
    (cases_lt (position_or_len p xs) (length xs))

-- A value after the others that does not pass is not found.
push_fails : {K : Type 0} (p : K → Bool) (xs : List K) (y : K) → p y ≡ false → position p (xs ++ y ∷ []) ≡ position p xs
push_fails p xs y e =
    let n = position_or_len p xs in
    let m = position_or_len p (xs ++ y ∷ []) in
    let pushed : m ≡ cond (eqb n (length xs)) (length xs + 1) n =
    position_or_len_push p xs y ∙ ap (λ (b : Bool). cond (eqb n (length xs)) (length xs + cond b 0 1) n) e in
    let len : length (xs ++ y ∷ []) ≡ length xs + 1 = length_push xs y in
    ⊎_elim
    (λ lt.
    let same : m ≡ n = pushed ∙ ap (λ (b : Bool). cond b (length xs + 1) n) (ne_eqb n (length xs) (λ q. omega arith)) in
    some_below m (length (xs ++ y ∷ [])) (omega arith) ∙ ap (λ (k : ℕ). Some k) same ∙ sym (some_below n (length xs) lt))
    (λ le.
    let end : n ≡ length xs = omega (arith, place_within p xs) in
    let past : m ≡ length xs + 1 = pushed ∙ ap (λ (b : Bool). cond b (length xs + 1) n) (eq-eqb n (length xs) end) in
    none_past m (length (xs ++ y ∷ [])) (omega arith) ∙ sym (none_past n (length xs) le))
    (cases_lt n (length xs))

module _ {K : Type 0} (eq : K → K → Bool) (laws : IsEquivalence eq) where
  -- The place of a value of the list is in the list.
  pub place_found : (vs : List K) (i : ℕ) (d : K) → i < length vs → position_or_len (eq (get_or vs i d)) vs < length vs
  place_found vs i d lt =
      let upto = place_upto (eq (get_or vs i d)) vs i d lt (laws.refl (get_or vs i d)) in
      omega arith

  -- What is known of places, with one value more.
  pub known_more : (vs : List K) (v : K) (first : ℕ) (old new : Option ℕ) (q : K) → old ≡ position (eq q) vs → first ≡ position_or_len (eq v) vs
      → new ≡ cond (eq v q) (Some first) old → new ≡ position (eq q) (vs ++ v ∷ [])
  known_more vs v first old new q old_is first_is step = ⊎_elim
      (λ same.
      let there = place_there (eq q) vs v [] (laws.symm q v ∙ same) in
      let alike = place_same (eq v) (eq q) vs (λ z. laws.congr v q z same) in
      let at : position_or_len (eq q) (vs ++ v ∷ []) ≡ first = there ∙ sym alike ∙ sym first_is in
      let len = length_push vs v in
      let within = place_within (eq v) vs in
      step ∙ cond-true (eq v q) (Some first) old same ∙ ap (λ (k : ℕ). Some k) (sym at)
      ∙ sym (some_below (position_or_len (eq q) (vs ++ v ∷ [])) (length (vs ++ v ∷ [])) (omega arith)))
      (λ apart.
      step ∙ cond-false (eq v q) (Some first) old apart ∙ old_is ∙ sym (push_fails (eq q) vs v (laws.symm q v ∙ apart)))
      (cases_Bool (eq v q))

  -- The places so far, with that of one value more.
  pub places_more : (vs before rest : List K) (v : K) (first : ℕ) (places : List ℕ) → before ++ v ∷ rest ≡ vs
      → places ≡ map (λ w. position_or_len (eq w) vs) before → first ≡ position_or_len (eq v) before
      → places ++ first ∷ [] ≡ map (λ w. position_or_len (eq w) vs) (before ++ v ∷ [])
  places_more vs before rest v first places all so_far first_is =
      let here : position_or_len (eq v) vs ≡ first =
      ap (λ (xs : List K). position_or_len (eq v) xs) (sym all) ∙ place_there (eq v) before v rest (laws.refl v) ∙ sym first_is in
      ap (λ (xs : List ℕ). xs ++ first ∷ []) so_far
      ∙ ap (λ (n : ℕ). map (λ w. position_or_len (eq w) vs) before ++ n ∷ []) (sym here)
      ∙ sym (map-append (λ w. position_or_len (eq w) vs) before (v ∷ []))

  place_at : (vs : List K) (i : ℕ) (d : K) → i < length vs → get_or (first_places eq vs) i 0 ≡ position_or_len (eq (get_or vs i d)) vs
  place_at vs i d lt = get_or-map (λ v. position_or_len (eq v) vs) vs i d 0 lt

  -- Each number is a place.
  pub below : (vs : List K) (k : ℕ) (d : K) → k < length vs → get_or (first_places eq vs) k 0 < length vs
  below vs k d lt = subst (λ (n : ℕ). n < length vs) (sym (place_at vs k d lt)) (place_found vs k d lt)

  same_if_one_place : (vs : List K) (a b d : K) → position_or_len (eq a) vs < length vs → position_or_len (eq a) vs ≡ position_or_len (eq b) vs → eq a b ≡ true
  same_if_one_place vs a b d lt one =
      let n = position_or_len (eq a) vs in
      let here : eq a (get_or vs n d) ≡ true = passes_at_first (eq a) vs d lt in
      let there : eq b (get_or vs n d) ≡ true =
      ap (λ (m : ℕ). eq b (get_or vs m d)) one ∙ passes_at_first (eq b) vs d (subst (λ (m : ℕ). m < length vs) one lt) in
      laws.symm a b ∙ laws.congr b (get_or vs n d) a there ∙ laws.symm (get_or vs n d) a ∙ here

  -- Two places are equal exactly where the values are.
  pub places_apart : (vs : List K) (i j : ℕ) (d : K) → i < length vs → j < length vs
      → eqb (get_or (first_places eq vs) i 0) (get_or (first_places eq vs) j 0) ≡ eq (get_or vs i d) (get_or vs j d)
  places_apart vs i j d lt lt' =
      let a = get_or vs i d in
      let b = get_or vs j d in
      ap (λ (n : ℕ). eqb n (get_or (first_places eq vs) j 0)) (place_at vs i d lt)
      ∙ ap (λ (n : ℕ). eqb (position_or_len (eq a) vs) n) (place_at vs j d lt')
      ∙ ⊎_elim
      (λ same. eq-eqb _ _ (place_same (eq a) (eq b) vs (λ z. laws.congr a b z same)) ∙ sym same)
      (λ apart. ne_eqb _ _ (λ one. true≢false (sym (same_if_one_place vs a b d (place_found vs i d lt) one) ∙ apart)) ∙ sym apart)
      (cases_Bool (eq a b))

-- a value of a list that is not empty
pub some_of : {K : Type 0} (vs : List K) → 0 < length vs → K
some_of [] h = absurd (omega arith)
some_of (v ∷ vs) h = v

-- Each number is a place.
pub all_below : {K : Type 0} (eq : K → K → Bool) → IsEquivalence eq → (vs : List K) (numbers : List ℕ) → numbers ≡ first_places eq vs → AreBelow numbers
all_below eq laws vs numbers is = λ k lt.
    let len : length numbers ≡ length vs = ap (λ (ns : List ℕ). length ns) is ∙ length-map vs (λ v. position_or_len (eq v) vs) in
    let here : get_or (first_places eq vs) k 0 < length vs = below eq laws vs k (some_of vs (omega arith)) (omega arith) in
    subst (λ (ns : List ℕ). get_or ns k 0 < length numbers) (sym is) (omega arith)

module _ {K V A : Type 0} (eq : K → K → Bool) (same : V → V → Bool) (of_key : K → V) (of : A → V) (laws : IsEquivalence same) (agree : (x y : K) → eq x y ≡ same (of_key x) (of_key y)) where
  -- Keys are equal by a law where what they stand for is.
  pub keys_equal : IsEquivalence eq
  keys_equal = record {
    refl = λ x. agree x x ∙ laws.refl (of_key x);
    symm = λ x y. agree x y ∙ laws.symm (of_key x) (of_key y) ∙ sym (agree y x);
    congr = λ x y z q. agree x z ∙ laws.congr (of_key x) (of_key y) (of_key z) (sym (agree x y) ∙ q) ∙ sym (agree y z);
  }

  -- Numbers that distinguish the keys distinguish what the keys are of.
  pub tells_through : (vs : List K) (xs : List A) (numbers : List ℕ) → map of_key vs ≡ map of xs → numbers ≡ first_places eq vs → Tells (λ x y. same (of x) (of y)) xs numbers
  tells_through vs xs numbers alike is =
      let lens : length vs ≡ length xs = sym (length-map vs of_key) ∙ ap (λ (us : List V). length us) alike ∙ length-map xs of in
      record {
        one_each = ap (λ (ns : List ℕ). length ns) is ∙ length-map vs (λ v. position_or_len (eq v) vs) ∙ lens;
        apart = λ i j d lt lt'.
            let e = some_of vs (omega arith) in
            let at : (k : ℕ) → k < length xs → of_key (get_or vs k e) ≡ of (get_or xs k d) =
            λ k here. sym (get_or-map of_key vs k e (of d) (omega arith)) ∙ ap (λ (us : List V). get_or us k (of d)) alike ∙ get_or-map of xs k d (of d) here in
            ap (λ (ns : List ℕ). eqb (get_or ns i 0) (get_or ns j 0)) is
            ∙ places_apart eq keys_equal vs i j e (omega arith) (omega arith)
            ∙ agree (get_or vs i e) (get_or vs j e)
            ∙ ap (λ (v : V). same v (of_key (get_or vs j e))) (at i lt)
            ∙ ap (λ (v : V). same (of (get_or xs i d)) v) (at j lt');
      }
