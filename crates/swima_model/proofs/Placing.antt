-- Records put in order of identifier.
use Rattle.std.proofs.Common.{◌≡◌, ℕ, ◌<◌, List, [], length, Option, None, sym, subst, arith}
use Rattle.std.specs.List.Sorted.{IsPermutation}
use Rattle.std.proofs.lemmas.List.Sorted.{length_permutation, IsPermutation-map}
use Rattle.swima_model.specs.declared.record.Record.{Record}
use Rattle.swima_model.specs.InOrder.{ids, in_order}
use Rattle.swima_model.specs.Doubled.{doubled, times}
use Rattle.swima_model.specs.Repeated.{IsLeastRepeated}
use Rattle.swima_model.specs.Rising.{of_id, IsRisingPermutation, InOrderIsRisingPermutation}
use Rattle.swima_model.proofs.ByNumber as by_number
use Rattle.swima_model.proofs.Repeats.{times_permuted, doubled_least}
use Rattle.swima_model.proofs.Rises.{AllFrom, Rises, rises, does_not_fall, strictly}

-- They do not fall, and are the same records.
in_order_rises : (records : List Record) → Rises (ids (in_order records))
in_order_rises records = by_number.in_order_rises (λ (r : Record). r.id) records

pub in_order_permutation : (records : List Record) → IsPermutation records (in_order records)
in_order_permutation records = by_number.in_order_permutation (λ (r : Record). r.id) records

-- Those of one identifier stand as they stood.
pub in_order_of_id : (id : ℕ) (records : List Record) → of_id id (in_order records) ≡ of_id id records
in_order_of_id id records = by_number.in_order_of_number (λ (r : Record). r.id) id records

pub below_none : (id n : ℕ) (rs : List Record) → id < n → AllFrom n (ids rs) → of_id id rs ≡ []
below_none id n rs lt h = by_number.below_none (λ (r : Record). r.id) id n rs lt h

-- Records in order are decided by those of each identifier.
pub one_order : (rs ss : List Record) → Rises (ids rs) → Rises (ids ss) → ((x : Record) → of_id x.id rs ≡ of_id x.id ss) → rs ≡ ss
one_order rs ss up down same = by_number.one_order (λ (r : Record). r.id) rs ss up down same

-- Records in order of identifier, those of one identifier as they stood, are `in_order`.
pub is_in_order : (records ordered : List Record) → Rises (ids ordered) → ((x : Record) → of_id x.id ordered ≡ of_id x.id records) → ordered ≡ in_order records
is_in_order records ordered up same = by_number.is_in_order (λ (r : Record). r.id) records ordered up same

pub length_in_order : (records : List Record) → length (in_order records) ≡ length records
length_in_order records = length_permutation records (in_order records) (in_order_permutation records)

once : (numbers : List ℕ) (found : Option ℕ) → found ≡ None → IsLeastRepeated numbers found → (n : ℕ) → times n numbers < 2
once numbers found e h = subst (IsLeastRepeated numbers) e h

pub in_order_rising_permutation : (records : List Record) → IsRisingPermutation records (in_order records)
in_order_rising_permutation records = record {
  permutation = in_order_permutation records;
  rising = does_not_fall (ids (in_order records)) (in_order_rises records);
  stable = λ id. in_order_of_id id records;
  strict = λ e.
      strictly (ids (in_order records)) (in_order_rises records)
      (λ n. omega (
        arith,
        once (ids records) (doubled (ids records)) e (doubled_least (ids records)) n,
        times_permuted n (ids records) (ids (in_order records)) (IsPermutation-map (λ (r : Record). r.id) records (in_order records) (in_order_permutation records)),
      ));
}

-- `in_order` is decided by what it means.
pub in_order_is_rising_permutation : InOrderIsRisingPermutation
in_order_is_rising_permutation records ordered = (
  λ e. subst (IsRisingPermutation records) e (in_order_rising_permutation records),
  λ h. sym (is_in_order records ordered (rises (ids ordered) h.rising) (λ x. h.stable x.id)),
)
