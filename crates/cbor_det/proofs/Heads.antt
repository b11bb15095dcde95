-- The machine reads a head in any form that holds its argument.
use Rattle.std.proofs.Common.{◌≡◌, ℕ, zero, suc, ◌+◌, ◌*◌, ◌^◌, ◌<◌, List, [], ◌∷◌, ◌++◌, length, refl, sym, ap, ◌∙◌, arith, subst}
use Rattle.std.proofs.lemmas.List.{nil_from_length}
use Rattle.std.specs.Prelude.{fold}
use Rattle.wire_base.specs.Numbers.{octets_of}
use Rattle.wire_base.proofs.Spelled.{length-octets_of, number_of-octets_of}
use Rattle.cbor_det.specs.declared.limits.Limits.{Limits}
use Rattle.cbor_det.specs.declared.initial.Major.{Major}
use Rattle.cbor_det.specs.declared.initial.Beginning.TheVariants.{Argued, Argument}
use Rattle.cbor_det.specs.declared.initial.Initial.{Initial}
use Rattle.cbor_det.specs.declared.initial.Initial.TheVariants.{Item}
use Rattle.cbor_det.specs.Initial.{number_of_major, initial_of}
use Rattle.cbor_det.specs.Canonical.{Form, direct, one, two, four, eight, bound, head}
use Rattle.cbor_det.specs.Spelling.{IsHead}
use Rattle.cbor_det.specs.Faults.{Place}
use Rattle.cbor_det.specs.Machine.{State, due, argument, argued, opened, begun, step, run}
use Rattle.cbor_det.specs.Standing.{AdmitsHead, one_more, two_more, four_more, eight_more}
use Rattle.cbor_det.proofs.Initials.{head_opens, direct_initial, long_initial}

abbrev pub joined : ℕ → List ℕ → ℕ
joined acc bs = fold (λ number octet. 256 * number + octet) acc bs

module _ (limits : Limits) where
  -- the octets of an argument
  pub argument_reads : (p : Place) (at : ℕ) (m : Major) (left i acc : ℕ) (bs rest : List ℕ) → length bs ≡ suc left
      → run limits i (argument p at m (suc left) acc) (bs ++ rest) ≡ run limits (i + suc left) (argued limits (i + suc left) p at m (joined acc bs)) rest
  unfolding step
  argument_reads p at m left i acc [] rest len = absurd (omega arith)
  argument_reads p at m zero i acc (b ∷ bs) rest len = rw (nil_from_length bs (omega arith)) refl
  argument_reads p at m (suc left) i acc (b ∷ bs) rest len =
      argument_reads p at m left (i + 1) (256 * acc + b) bs rest (omega arith)
      ∙ (let e : i + 1 + suc left ≡ i + suc (suc left) = omega arith in ap (λ (k : ℕ). run limits k (argued limits k p at m (joined (256 * acc + b) bs)) rest) e)

  -- a head that begins with an octet like this one, and has that many more
  with_argument : (p : Place) (m : Major) (left n i b : ℕ) (rest : List ℕ) → AdmitsHead limits p m → initial_of b ≡ Item (Argument m (suc left)) → n < 256 ^ (suc left)
      → run limits i (due p) (b ∷ (octets_of (suc left) n ++ rest)) ≡ run limits (i + suc (suc left)) (argued limits (i + suc (suc left)) p i m n) rest
  unfolding step opened
  with_argument p m left n i b rest ready is fits =
      ap (λ (s : State). run limits (i + 1) s (octets_of (suc left) n ++ rest)) (ap (λ (x : Initial). begun limits i p x) is ∙ head_opens limits p i m (Argument m (suc left)) ready refl)
      ∙ argument_reads p i m left (i + 1) 0 (octets_of (suc left) n) rest (length-octets_of (suc left) n)
      ∙ ap (λ (k : ℕ). run limits (i + 1 + suc left) (argued limits (i + 1 + suc left) p i m k) rest) (number_of-octets_of (suc left) n fits)
      ∙ (let e : i + 1 + suc left ≡ i + suc (suc left) = omega arith in ap (λ (k : ℕ). run limits k (argued limits k p i m n) rest) e)

  at_length : (p : Place) (m : Major) (n i : ℕ) (rest : List ℕ) (size : ℕ)
      → run limits (i + suc size) (argued limits (i + suc size) p i m n) rest ≡ run limits (i + suc (length (octets_of size n))) (argued limits (i + suc (length (octets_of size n))) p i m n) rest
  at_length p m n i rest size = ap (λ (k : ℕ). run limits (i + suc k) (argued limits (i + suc k) p i m n) rest) (sym (length-octets_of size n))

  formed : (form : Form) (p : Place) (m : Major) (n i : ℕ) (rest : List ℕ) → AdmitsHead limits p m → n < bound form
      → run limits i (due p) (head form (number_of_major m) n ++ rest) ≡ run limits (i + length (head form (number_of_major m) n)) (argued limits (i + length (head form (number_of_major m) n)) p i m n) rest
  unfolding step opened
  formed direct p m n i rest ready fits =
      ap (λ (s : State). run limits (i + 1) s rest) (ap (λ (x : Initial). begun limits i p x) (direct_initial m n fits) ∙ head_opens limits p i m (Argued m n) ready refl)
  formed one p m n i rest ready fits = with_argument p m 0 n i (32 * number_of_major m + 24) rest ready (long_initial m _ _ one_more) fits ∙ at_length p m n i rest 1
  formed two p m n i rest ready fits = with_argument p m 1 n i (32 * number_of_major m + 25) rest ready (long_initial m _ _ two_more) fits ∙ at_length p m n i rest 2
  formed four p m n i rest ready fits = with_argument p m 3 n i (32 * number_of_major m + 26) rest ready (long_initial m _ _ four_more) fits ∙ at_length p m n i rest 4
  formed eight p m n i rest ready fits = with_argument p m 7 n i (32 * number_of_major m + 27) rest ready (long_initial m _ _ eight_more) fits ∙ at_length p m n i rest 8

  pub head_reads : (p : Place) (m : Major) (n : ℕ) (h : List ℕ) (i : ℕ) (rest : List ℕ) → AdmitsHead limits p m → IsHead (number_of_major m) n h
      → run limits i (due p) (h ++ rest) ≡ run limits (i + length h) (argued limits (i + length h) p i m n) rest
  head_reads p m n h i rest ready is =
      let P : List ℕ → Type 0 = λ o. run limits i (due p) (o ++ rest) ≡ run limits (i + length o) (argued limits (i + length o) p i m n) rest in
      subst P (sym is.is) (formed is.form p m n i rest ready is.fits)
