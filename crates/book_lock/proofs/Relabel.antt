-- The entries of a pass that another takes in become that one's.
use Rattle.std.proofs.Common.{◌≡◌, ◌≢◌, ◌⊎◌, ◌<◌, ◌+◌, ◌||◌, ◌&&◌, ℕ, Bool, true, false, cond, eqb, List, [], ◌∷◌, ◌++◌, length, map, drop, get_or, refl, sym, ap, ◌∙◌, subst, ⊎_elim, eq-eqb, ne_eqb}
use Rattle.std.proofs.lemmas.Bool.{cases_eq}
use Rattle.std.proofs.lemmas.List.{map-append, length-map}
use Rattle.collector_core.specs.declared.chronicle.Entry.{Entry}
use Rattle.collector_core.specs.declared.chronicle.Mark.{Mark}
use Rattle.book_lock.specs.Logs.{Known, Logged, NoneBy, Saw, entries_in, mark_by, marked}
use Rattle.book_lock.specs.Passes.{Agree, merged}
use Rattle.book_lock.proofs.Logs.{none_first, none_rest}

module _ (id other : ℕ) (apart : other ≢ id) where
  -- The pass that has the entries of this one afterwards.
  abbrev pub heir : ℕ → ℕ
  heir n = cond (eqb n other) id n

  abbrev pub relabel : Logged → Logged
  relabel e = (e.0, heir e.1)

  abbrev pub relabelled : List Logged → List Logged
  relabelled log = map relabel log

  pub heir_other : (n : ℕ) → n ≡ other → heir n ≡ id
  heir_other n same = ap (λ (b : Bool). cond b id n) (eq-eqb n other same)

  pub heir_same : (n : ℕ) → n ≢ other → heir n ≡ n
  heir_same n differs = ap (λ (b : Bool). cond b id n) (ne_eqb n other differs)

  -- Of one that is neither of the two, nothing changes.
  pub heir_else : (n j : ℕ) → j ≢ id → j ≢ other → eqb (heir n) j ≡ eqb n j
  heir_else n j not_id not_other = ⊎_elim
      (λ (same : n ≡ other). ap (λ (m : ℕ). eqb m j) (heir_other n same) ∙ ne_eqb id j (λ e. not_id (sym e)) ∙ sym (ne_eqb n j (λ e. not_other (sym e ∙ same))))
      (λ (differs : n ≢ other). ap (λ (m : ℕ). eqb m j) (heir_same n differs))
      (cases_eq n other)

  pub entries_relabelled : (log : List Logged) → entries_in (relabelled log) ≡ entries_in log
  entries_relabelled [] = refl
  entries_relabelled (e ∷ later) = ap (λ (xs : List Entry). e.0 ∷ xs) (entries_relabelled later)

  pub length_relabelled : (log : List Logged) → length (relabelled log) ≡ length log
  length_relabelled log = length-map log relabel

  pub relabelled_append : (xs ys : List Logged) → relabelled (xs ++ ys) ≡ relabelled xs ++ relabelled ys
  relabelled_append xs ys = map-append relabel xs ys

  pub marked_else : (j : ℕ) (log : List Logged) → j ≢ id → j ≢ other → marked j (relabelled log) ≡ marked j log
  marked_else j [] not_id not_other = refl
  marked_else j (e ∷ later) not_id not_other =
      ap (λ (b : Bool). let m : Mark = record { entry = e.0; own = b } in m ∷ marked j (relabelled later)) (heir_else e.1 j not_id not_other)
      ∙ ap (λ (ms : List Mark). mark_by j e ∷ ms) (marked_else j later not_id not_other)

  pub none_else : (j : ℕ) (log : List Logged) → j ≢ id → j ≢ other → NoneBy j log → NoneBy j (relabelled log)
  none_else j [] not_id not_other none = tt
  none_else j (e ∷ later) not_id not_other none = (by_author (cases_eq e.1 other), none_else j later not_id not_other none.1)
    where
      by_author : (e.1 ≡ other) ⊎ (e.1 ≢ other) → heir e.1 ≢ j
      by_author = ⊎_elim (λ (same : e.1 ≡ other). λ is. not_id (sym (sym (heir_other e.1 same) ∙ is)))
          (λ (differs : e.1 ≢ other). λ is. none.0 (sym (heir_same e.1 differs) ∙ is))

  -- The one that was taken in has none.
  pub none_other : (log : List Logged) → NoneBy other (relabelled log)
  none_other [] = tt
  none_other (e ∷ later) = (by_author (cases_eq e.1 other), none_other later)
    where
      by_author : (e.1 ≡ other) ⊎ (e.1 ≢ other) → heir e.1 ≢ other
      by_author = ⊎_elim (λ (same : e.1 ≡ other). λ is. apart (sym (sym (heir_other e.1 same) ∙ is)))
          (λ (differs : e.1 ≢ other). λ is. differs (sym (heir_same e.1 differs) ∙ is))

  -- The one that takes it in has none where neither had.
  pub none_both : (log : List Logged) → NoneBy id log → NoneBy other log → NoneBy id (relabelled log)
  none_both [] ours theirs = tt
  none_both (e ∷ later) ours theirs = ((λ is. ours.0 (sym (heir_same e.1 theirs.0) ∙ is)), none_both later ours.1 theirs.1)

  pub known_relabelled : (count : ℕ) (log : List Logged) → id < count → Known count log → Known count (relabelled log)
  known_relabelled count [] below known = tt
  known_relabelled count (e ∷ later) below known = (by_author (cases_eq e.1 other), known_relabelled count later below known.1)
    where
      by_author : (e.1 ≡ other) ⊎ (e.1 ≢ other) → heir e.1 < count
      by_author = ⊎_elim (λ (same : e.1 ≡ other). subst (λ (n : ℕ). n < count) (sym (heir_other e.1 same)) below)
          (λ (differs : e.1 ≢ other). subst (λ (n : ℕ). n < count) (sym (heir_same e.1 differs)) known.0)

  pub saw_else : (j : ℕ) (log : List Logged) (seen : List Mark) → j ≢ id → j ≢ other → Saw j log seen → Saw j (relabelled log) seen
  saw_else j log seen not_id not_other saw = record {
    first = relabelled saw.first;
    rest = relabelled saw.rest;
    whole = ap relabelled saw.whole ∙ relabelled_append saw.first saw.rest;
    is = saw.is ∙ sym (marked_else j saw.first not_id not_other);
    none = none_else j saw.rest not_id not_other saw.none;
  }

  -- ---- the two lists as one

  -- Where only the other's entries come, they become its own.
  marked_theirs : (log : List Logged) → NoneBy id log → marked other log ≡ marked id (relabelled log)
  marked_theirs [] none = refl
  marked_theirs (e ∷ later) none =
      ap (λ (b : Bool). let m : Mark = record { entry = e.0; own = b } in m ∷ marked other later) (by_author (cases_eq e.1 other))
      ∙ ap (λ (ms : List Mark). mark_by id (relabel e) ∷ ms) (marked_theirs later none.1)
    where
      by_author : (e.1 ≡ other) ⊎ (e.1 ≢ other) → eqb e.1 other ≡ eqb (heir e.1) id
      by_author = ⊎_elim
          (λ (same : e.1 ≡ other). eq-eqb e.1 other same ∙ sym (eq-eqb (heir e.1) id (heir_other e.1 same)))
          (λ (differs : e.1 ≢ other). ne_eqb e.1 other differs ∙ sym (ne_eqb (heir e.1) id (λ is. none.0 (sym (heir_same e.1 differs) ∙ is))))

  -- Where none of the other's come, its own stay so.
  marked_ours : (log : List Logged) → NoneBy other log → marked id log ≡ marked id (relabelled log)
  marked_ours [] none = refl
  marked_ours (e ∷ later) none =
      ap (λ (n : ℕ). let m : Mark = record { entry = e.0; own = eqb n id } in m ∷ marked id later) (sym (heir_same e.1 none.0))
      ∙ ap (λ (ms : List Mark). mark_by id (relabel e) ∷ ms) (marked_ours later none.1)

  saw_theirs : (b rest_b : List Logged) → NoneBy id (b ++ rest_b) → NoneBy other rest_b → Saw id (relabelled (b ++ rest_b)) (marked other b)
  saw_theirs b rest_b ours theirs = record {
    first = relabelled b;
    rest = relabelled rest_b;
    whole = relabelled_append b rest_b;
    is = marked_theirs b (none_first id b rest_b ours);
    none = none_both rest_b (none_rest id b rest_b ours) theirs;
  }

  saw_ours : (a rest_a : List Logged) → NoneBy id rest_a → NoneBy other (a ++ rest_a) → Saw id (relabelled (a ++ rest_a)) (marked id a)
  saw_ours a rest_a ours theirs = record {
    first = relabelled a;
    rest = relabelled rest_a;
    whole = relabelled_append a rest_a;
    is = marked_ours a (none_first other a rest_a theirs);
    none = none_both rest_a ours (none_rest other a rest_a theirs);
  }

  -- An entry that both have seen.
  both_own : (n : ℕ) → (eqb n id || eqb n other) ≡ eqb (heir n) id
  both_own n = ⊎_elim
      (λ (same : n ≡ other). ap (λ (b : Bool). eqb n id || b) (eq-eqb n other same) ∙ or_true (eqb n id) ∙ sym (eq-eqb (heir n) id (heir_other n same)))
      (λ (differs : n ≢ other). ap (λ (b : Bool). eqb n id || b) (ne_eqb n other differs) ∙ or_false (eqb n id) ∙ ap (λ (m : ℕ). eqb m id) (sym (heir_same n differs)))
      (cases_eq n other)
    where
      or_true : (b : Bool) → (b || true) ≡ true
      or_true true = refl
      or_true false = refl

      or_false : (b : Bool) → (b || false) ≡ b
      or_false true = refl
      or_false false = refl

  not_both : (n : ℕ) → (eqb n id && eqb n other) ≡ false
  not_both n = ⊎_elim
      (λ (same : n ≡ other). ap (λ (b : Bool). b && eqb n other) (ne_eqb n id (λ e. apart (sym same ∙ e))))
      (λ (differs : n ≢ other). ap (λ (b : Bool). eqb n id && b) (ne_eqb n other differs) ∙ and_false (eqb n id))
      (cases_eq n other)
    where
      and_false : (b : Bool) → (b && false) ≡ false
      and_false true = refl
      and_false false = refl

  saw_cons : (e : Logged) (log : List Logged) (m : Mark) (seen : List Mark) → m ≡ mark_by id (relabel e) → Saw id (relabelled log) seen → Saw id (relabelled (e ∷ log)) (m ∷ seen)
  saw_cons e log m seen is saw = record {
    first = relabel e ∷ saw.first;
    rest = saw.rest;
    whole = ap (λ (xs : List Logged). relabel e ∷ xs) saw.whole;
    is = ap (λ (x : Mark). x ∷ seen) is ∙ ap (λ (ms : List Mark). mark_by id (relabel e) ∷ ms) saw.is;
    none = saw.none;
  }

  -- What both have seen together.
  pub saw_both : (a rest_a b rest_b : List Logged) → b ++ rest_b ≡ a ++ rest_a → NoneBy id rest_a → NoneBy other rest_b
      → Saw id (relabelled (a ++ rest_a)) (merged (marked id a) (marked other b))
  saw_both [] rest_a b rest_b same ours theirs =
      subst (λ (log : List Logged). Saw id (relabelled log) (marked other b)) same (saw_theirs b rest_b (subst (NoneBy id) (sym same) ours) theirs)
  saw_both (x ∷ a) rest_a [] rest_b same ours theirs = saw_ours (x ∷ a) rest_a ours (subst (NoneBy other) same theirs)
  saw_both (x ∷ a) rest_a (y ∷ b) rest_b same ours theirs =
      let first : y ≡ x = ap (λ (log : List Logged). get_or log 0 x) same in
      saw_cons x (a ++ rest_a) (record { entry = x.0; own = eqb x.1 id || eqb y.1 other }) (merged (marked id a) (marked other b))
      (ap (λ (e : Logged). let m : Mark = record { entry = x.0; own = eqb x.1 id || eqb e.1 other } in m) first
      ∙ ap (λ (own : Bool). let m : Mark = record { entry = x.0; own = own } in m) (both_own x.1))
      (saw_both a rest_a b rest_b (ap (λ (log : List Logged). drop 1 log) same) ours theirs)

  pub agree_both : (a rest_a b rest_b : List Logged) → b ++ rest_b ≡ a ++ rest_a → Agree (marked id a) (marked other b)
  agree_both [] rest_a b rest_b same = tt
  agree_both (x ∷ a) rest_a [] rest_b same = tt
  agree_both (x ∷ a) rest_a (y ∷ b) rest_b same =
      let first : y ≡ x = ap (λ (log : List Logged). get_or log 0 x) same in (
        ap (λ (e : Logged). e.0) (sym first),
        ap (λ (e : Logged). eqb x.1 id && eqb e.1 other) first ∙ not_both x.1,
        agree_both a rest_a b rest_b (ap (λ (log : List Logged). drop 1 log) same),
      )
