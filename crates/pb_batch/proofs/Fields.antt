-- Fields that stand in octets from one place to another, read off one by one.
use Rattle.std.proofs.Common.{◌≡◌, ℕ, ◌-◌, ◌+◌, ◌^◌, ◌≤◌, ◌<◌, Bool, List, [], ◌∷◌, ◌++◌, length, take, drop, get_or, slice_range, sym, ap, subst, ◌∙◌, arith, length-append, length-drop, length-take}
use Rattle.std.proofs.lemmas.List.{take_at, drop_at, take-take, drop-drop, take-append-drop, drop-take, drop_more, nil_from_length}
use Rattle.wire_base.specs.Numbers.{number_of, octets_of}
use Rattle.wire_base.specs.Layout.{AreOctets, Field, Number, Reserved, Flags, AreFlags, Form}
use Rattle.wire_base.proofs.Spelled.{AreOctets-take, AreOctets-rest, length-octets_of, number_of-octets_of, octets_of-number_of, number_of-below}
use Rattle.pb_batch.specs.Faults.{number}

-- ---- parts of octets

-- How many octets stand between two places.
pub length-between : (octets : List ℕ) (k n : ℕ) → n ≤ length octets → length (slice_range octets k n) ≡ n - k
length-between octets k n there = omega (arith, length-take (n - k) (drop k octets), length-drop k octets)

-- The part between two places is a first part and the rest.
pub between_split : (octets : List ℕ) (k m n : ℕ) → k ≤ m → m ≤ n → slice_range octets k n ≡ slice_range octets k m ++ slice_range octets m n
between_split octets k m n first second =
    let part : List ℕ = slice_range octets k n in
    let front : take (m - k) part ≡ slice_range octets k m = take-take (m - k) (n - k) (drop k octets) (omega (arith, second)) in
    let whole : n - k ≡ (m - k) + (n - m) = omega (arith, first, second) in
    let place : k + (m - k) ≡ m = omega (arith, first) in
    let back : drop (m - k) part ≡ slice_range octets m n =
    ap (λ (c : ℕ). drop (m - k) (take c (drop k octets))) whole ∙ drop-take (m - k) (n - m) (drop k octets)
    ∙ ap (λ (o : List ℕ). take (n - m) o) (drop-drop (m - k) k octets ∙ ap (λ (p : ℕ). drop p octets) place) in
    sym (take-append-drop (m - k) part) ∙ ap (λ (o : List ℕ). o ++ drop (m - k) part) front ∙ ap (λ (o : List ℕ). slice_range octets k m ++ o) back

-- They are octets too.
pub AreOctets-between : (octets : List ℕ) (k n : ℕ) → AreOctets octets → AreOctets (slice_range octets k n)
AreOctets-between octets k n are = AreOctets-take (n - k) (drop k octets) (AreOctets-rest octets (take k octets) (drop k octets) (sym (take-append-drop k octets)) are)

-- One octet.
one_between : (octets : List ℕ) (k : ℕ) → k < length octets → slice_range octets k (k + 1) ≡ get_or octets k 0 ∷ []
one_between octets k there =
    let one : k + 1 - k ≡ 1 = omega arith in
    ap (λ (c : ℕ). take c (drop k octets)) one ∙ ap (λ (o : List ℕ). take 1 o) (drop_more octets k 0 there)

-- Two parts that are a part make its prefix and its rest.
pub parts_of : (octets front rest : List ℕ) (k size n : ℕ) → n ≤ length octets → k ≤ n → length front ≡ size → slice_range octets k n ≡ front ++ rest
    → (k + size ≤ n) × (slice_range octets k (k + size) ≡ front) × (slice_range octets (k + size) n ≡ rest)
parts_of octets front rest k size n there within len joined =
    let all : n - k ≡ size + length rest = sym (length-between octets k n there) ∙ ap (λ (o : List ℕ). length o) joined ∙ length-append front rest ∙ ap (λ (c : ℕ). c + length rest) len in
    let fits : k + size ≤ n = omega (arith, all, within) in
    let split : slice_range octets k (k + size) ++ slice_range octets (k + size) n ≡ front ++ rest = sym (between_split octets k (k + size) n (omega arith) fits) ∙ joined in
    let front_len : length (slice_range octets k (k + size)) ≡ size = length-between octets k (k + size) (omega (arith, fits, there)) ∙ omega arith in
    let first : slice_range octets k (k + size) ≡ front =
    sym (take_at (slice_range octets k (k + size)) (slice_range octets (k + size) n) size front_len) ∙ ap (λ (o : List ℕ). take size o) split ∙ take_at front rest size len in
    let second : slice_range octets (k + size) n ≡ rest =
    sym (drop_at (slice_range octets k (k + size)) (slice_range octets (k + size) n) size front_len) ∙ ap (λ (o : List ℕ). drop size o) split ∙ drop_at front rest size len in
    (fits, first, second)

-- The octets between two places are these fields.
pub record Stands (octets : List ℕ) (fields : List Field) (k n : ℕ) : Type 0 where
  pub form : Form fields (slice_range octets k n)

-- ---- from what stands there to the layout

pub number_forth : {k n : ℕ} {octets : List ℕ} {fields : List Field} (size value : ℕ) → AreOctets octets → n ≤ length octets → k + size ≤ n → number octets k size ≡ value → Stands octets fields (k + size) n
    → Stands octets (Number size value ∷ fields) k n
number_forth {k = k} {n = n} {octets = octets} size value are there fits is rest =
    let front : List ℕ = slice_range octets k (k + size) in
    let len : length front ≡ size = length-between octets k (k + size) (omega (arith, fits, there)) ∙ omega arith in
    let front_are = AreOctets-between octets k (k + size) are in
    let below : value < 256 ^ size = omega (arith, is, number_of-below size front len front_are) in
    let spelled : front ≡ octets_of size value = sym (octets_of-number_of size front len front_are) ∙ ap (λ (v : ℕ). octets_of size v) is in
    record { form = (front, slice_range octets (k + size) n, between_split octets k (k + size) n (omega arith) fits, (below, spelled), rest.form) }

pub flags_forth : {k n : ℕ} {octets : List ℕ} {fields : List Field} (flags : List (ℕ × Bool)) → n ≤ length octets → k + 1 ≤ n → AreFlags (get_or octets k 0) flags → Stands octets fields (k + 1) n
    → Stands octets (Flags flags ∷ fields) k n
flags_forth {k = k} {n = n} {octets = octets} flags there fits are rest =
    record { form = (slice_range octets k (k + 1), slice_range octets (k + 1) n, between_split octets k (k + 1) n (omega arith) fits, (get_or octets k 0, one_between octets k (omega (arith, fits, there)), are), rest.form) }

pub reserved_forth : {k n : ℕ} {octets : List ℕ} {fields : List Field} (size : ℕ) → n ≤ length octets → k + size ≤ n → Stands octets fields (k + size) n
    → Stands octets (Reserved size ∷ fields) k n
reserved_forth {k = k} {n = n} {octets = octets} size there fits rest =
    record {
      form = (
        slice_range octets k (k + size),
        slice_range octets (k + size) n,
        between_split octets k (k + size) n (omega arith) fits,
        length-between octets k (k + size) (omega (arith, fits, there)) ∙ omega arith,
        rest.form,
      );
    }

pub end_forth : (octets : List ℕ) (n : ℕ) → Stands octets [] n n
end_forth octets n = record { form = nil_from_length (slice_range octets n n) (omega (arith, length-take (n - n) (drop n octets))) }

-- ---- from the layout to what stands there

pub number_back : {size value k n : ℕ} {octets : List ℕ} {fields : List Field} → n ≤ length octets → k ≤ n → Stands octets (Number size value ∷ fields) k n
    → (k + size ≤ n) × (number octets k size ≡ value) × (value < 256 ^ size) × Stands octets fields (k + size) n
number_back {size = size} {value = value} {k = k} {n = n} {octets = octets} {fields = fields} there within stands =
    let form = stands.form in
    let len : length form.0 ≡ size = ap (λ (o : List ℕ). length o) form.3.1 ∙ length-octets_of size value in
    let p = parts_of octets form.0 form.1 k size n there within len form.2 in
    (p.0, ap (λ (o : List ℕ). number_of o) (p.1 ∙ form.3.1) ∙ number_of-octets_of size value form.3.0, form.3.0, record { form = subst (λ (o : List ℕ). Form fields o) (sym p.2) form.4 })

pub flags_back : {flags : List (ℕ × Bool)} {k n : ℕ} {octets : List ℕ} {fields : List Field} → n ≤ length octets → k ≤ n → Stands octets (Flags flags ∷ fields) k n
    → (k + 1 ≤ n) × AreFlags (get_or octets k 0) flags × Stands octets fields (k + 1) n
flags_back {flags = flags} {k = k} {n = n} {octets = octets} {fields = fields} there within stands =
    let form = stands.form in
    let octet : ℕ = form.3.0 in
    let len : length form.0 ≡ 1 = ap (λ (o : List ℕ). length o) form.3.1 in
    let p = parts_of octets form.0 form.1 k 1 n there within len form.2 in
    let same : get_or octets k 0 ∷ [] ≡ octet ∷ [] = sym (one_between octets k (omega (arith, p.0, there))) ∙ p.1 ∙ form.3.1 in
    let is : get_or octets k 0 ≡ octet = ap (λ (o : List ℕ). get_or o 0 0) same in
    (p.0, subst (λ (o : ℕ). AreFlags o flags) (sym is) form.3.2, record { form = subst (λ (o : List ℕ). Form fields o) (sym p.2) form.4 })

pub reserved_back : {size k n : ℕ} {octets : List ℕ} {fields : List Field} → n ≤ length octets → k ≤ n → Stands octets (Reserved size ∷ fields) k n
    → (k + size ≤ n) × Stands octets fields (k + size) n
reserved_back {size = size} {k = k} {n = n} {octets = octets} {fields = fields} there within stands =
    let form = stands.form in
    let p = parts_of octets form.0 form.1 k size n there within form.3 form.2 in
    (p.0, record { form = subst (λ (o : List ℕ). Form fields o) (sym p.2) form.4 })

pub end_back : {k n : ℕ} {octets : List ℕ} → n ≤ length octets → k ≤ n → Stands octets [] k n → n ≡ k
end_back {k = k} {n = n} {octets = octets} there within stands = omega (arith, within, length-between octets k n there, ap (λ (o : List ℕ). length o) stands.form)
