-- Pairs in the order of their keys' canonical spellings.
use Rattle.std.proofs.Common.{◌≡◌, ℕ, zero, suc, ◌+◌, max, List, refl, sym, ap, ◌∙◌, arith, inl, inr, true, false}
use Rattle.std.specs.Ordering.{nat_cmp, ordering_reverse, is_eq, match_ordering}
use Rattle.std.specs.declared.cmp.Ordering.{Ordering}
use Rattle.std.specs.declared.cmp.Ordering.TheVariants.{Less, Equal, Greater}
use Rattle.std.specs.Str.{bytes_eq}
use Rattle.std.specs.List.{Contains}
use Rattle.std.specs.Cmp.Lexicographic.{slice_cmp}
use Rattle.std.proofs.lemmas.Cmp.{nat_list_cmp_total}
use Rattle.std.proofs.lemmas.Map.Text.{is_eq-slice_cmp}
use Rattle.std.proofs.lemmas.Slice.Eq.{bytes_eq-Decides}
use Rattle.std.proofs.lemmas.Bool.{or_from, or_parts, or_cases, or_left, or_right, cases_Bool, both_ways}
use Rattle.cbor_det.specs.Term.{Term, Pairs, no_pairs, pair, pair_count, pairs_depth, depth}
use Rattle.cbor_det.specs.Canonical.{canon}
use Rattle.cbor_det.specs.Spelling.{IsBelow, Rises, PutsIn, here, later}
use Rattle.cbor_det.specs.Faults.{keys}
use Rattle.cbor_det.specs.Machine.{is_held, insert}

abbrev pub key_cmp : Term → Term → Ordering
key_cmp k l = slice_cmp nat_cmp (canon k) (canon l)

pub below_trans : (k l m : Term) → key_cmp k l ≡ Less → key_cmp l m ≡ Less → key_cmp k m ≡ Less
below_trans k l m = nat_list_cmp_total.trans (canon k) (canon l) (canon m)

pub above : (k l : Term) → key_cmp l k ≡ Less → key_cmp k l ≡ Greater
above k l e = nat_list_cmp_total.antisymm (canon k) (canon l) ∙ ap (λ (o : Ordering). ordering_reverse o) e

pub below : (k l : Term) → key_cmp k l ≡ Greater → key_cmp l k ≡ Less
below k l e = nat_list_cmp_total.antisymm (canon l) (canon k) ∙ ap (λ (o : Ordering). ordering_reverse o) e

pub not_eq : (k l : Term) (o : Ordering) → key_cmp k l ≡ o → is_eq o ≡ false → bytes_eq (canon k) (canon l) ≡ false
not_eq k l o e ne = sym (is_eq-slice_cmp (canon k) (canon l)) ∙ ap (λ (r : Ordering). is_eq r) e ∙ ne

-- what is below the first is below the rest
below_next : (k l : Term) (ps : Pairs) → key_cmp k l ≡ Less → IsBelow l ps → IsBelow k ps
below_next k l no_pairs e is = tt
below_next k l (pair m v ps) e is = below_trans k l m e is

-- one among rising pairs is above what is below them
below_in : (l w k : Term) (ps more : Pairs) → IsBelow k more → Rises more → PutsIn l w ps more → key_cmp k l ≡ Less
below_in l w k ps more is rises (here qs) = is
below_in l w k ps more is rises (later m x qs rest puts) = below_trans k m l is (below_in l w m qs rest rises.0 rises.1 puts)

below_less : (k l w : Term) (ps more : Pairs) → IsBelow k more → Rises more → PutsIn l w ps more → IsBelow k ps
below_less k l w ps more is rises (here qs) = below_next k l qs is rises.0
below_less k l w ps more is rises (later m x qs rest puts) = is

-- rising pairs rise without one of them
pub rises_less : (k v : Term) (ps more : Pairs) → Rises more → PutsIn k v ps more → Rises ps
rises_less k v ps more rises (here qs) = rises.1
rises_less k v ps more rises (later m x qs rest puts) = (below_less m k v qs rest rises.0 rises.1 puts, rises_less k v qs rest rises.1 puts)

pub insert_first : (k v : Term) (ps : Pairs) → IsBelow k ps → insert k v ps ≡ pair k v ps
insert_first k v no_pairs is = refl
insert_first k v (pair l w ps) is = ap (λ (o : Ordering). match_ordering o (pair k v (pair l w ps)) (pair k v ps) (pair l w (insert k v ps))) is

-- Inserted is where it stands among rising pairs.
pub insert_is : (k v : Term) (ps more : Pairs) → Rises more → PutsIn k v ps more → insert k v ps ≡ more
insert_is k v ps more rises (here qs) = insert_first k v qs rises.0
insert_is k v ps more rises (later m x qs rest puts) =
    ap (λ (o : Ordering). match_ordering o (pair k v (pair m x qs)) (pair k v qs) (pair m x (insert k v qs))) (above k m (below_in k v m qs rest rises.0 rises.1 puts))
    ∙ ap (λ (r : Pairs). pair m x r) (insert_is k v qs rest rises.1 puts)

pub held_below : (k : Term) (ps : Pairs) → IsBelow k ps → Rises ps → is_held ps (canon k) ≡ false
held_below k no_pairs is rises = refl
held_below k (pair l w ps) is rises = or_from _ _ (not_eq k l Less is refl) (held_below k ps (below_next k l ps is rises.0) rises.1)

-- A key among rising pairs is not one of the others.
pub not_held : (k v : Term) (ps more : Pairs) → Rises more → PutsIn k v ps more → is_held ps (canon k) ≡ false
not_held k v ps more rises (here qs) = held_below k qs rises.0 rises.1
not_held k v ps more rises (later m x qs rest puts) =
    or_from _ _ (not_eq k m Greater (above k m (below_in k v m qs rest rises.0 rises.1 puts)) refl) (not_held k v qs rest rises.1 puts)

-- equal keys compare as equal
pub equal_keys : (k l : Term) → key_cmp k l ≡ Equal → bytes_eq (canon k) (canon l) ≡ true
equal_keys k l e = sym (is_eq-slice_cmp (canon k) (canon l)) ∙ ap (λ (r : Ordering). is_eq r) e

puts_by : (k v l w : Term) (ps : Pairs) (o : Ordering) → key_cmp k l ≡ o → bytes_eq (canon k) (canon l) ≡ false → PutsIn k v ps (insert k v ps)
    → PutsIn k v (pair l w ps) (match_ordering o (pair k v (pair l w ps)) (pair k v ps) (pair l w (insert k v ps)))
puts_by k v l w ps Less e ne puts = here (pair l w ps)
puts_by k v l w ps Equal e ne puts = absurd (both_ways _ ne (equal_keys k l e))
puts_by k v l w ps Greater e ne puts = later l w ps (insert k v ps) puts

-- What is inserted stands among the others.
pub insert_puts : (k v : Term) (ps : Pairs) → is_held ps (canon k) ≡ false → PutsIn k v ps (insert k v ps)
insert_puts k v no_pairs free = here no_pairs
insert_puts k v (pair l w ps) free =
    let parts = or_parts _ _ free in
    puts_by k v l w ps (key_cmp k l) refl parts.0 (insert_puts k v ps parts.1)

below_insert_by : (m k v l w : Term) (ps : Pairs) (o : Ordering) → key_cmp m k ≡ Less → key_cmp m l ≡ Less
    → IsBelow m (match_ordering o (pair k v (pair l w ps)) (pair k v ps) (pair l w (insert k v ps)))
below_insert_by m k v l w ps Less e f = e
below_insert_by m k v l w ps Equal e f = e
below_insert_by m k v l w ps Greater e f = f

below_insert : (m k v : Term) (ps : Pairs) → key_cmp m k ≡ Less → IsBelow m ps → IsBelow m (insert k v ps)
below_insert m k v no_pairs e is = e
below_insert m k v (pair l w ps) e is = below_insert_by m k v l w ps (key_cmp k l) e is

rises_by : (k v l w : Term) (ps : Pairs) (o : Ordering) → key_cmp k l ≡ o → bytes_eq (canon k) (canon l) ≡ false → Rises (pair l w ps) → Rises (insert k v ps)
    → Rises (match_ordering o (pair k v (pair l w ps)) (pair k v ps) (pair l w (insert k v ps)))
rises_by k v l w ps Less e ne rises more = (e, rises)
rises_by k v l w ps Equal e ne rises more = absurd (both_ways _ ne (equal_keys k l e))
rises_by k v l w ps Greater e ne rises more = (below_insert l k v ps (below k l e) rises.0, more)

-- Rising pairs rise with one more that is inserted.
pub rises_insert : (k v : Term) (ps : Pairs) → Rises ps → is_held ps (canon k) ≡ false → Rises (insert k v ps)
rises_insert k v no_pairs rises free = (tt, tt)
rises_insert k v (pair l w ps) rises free =
    let parts = or_parts _ _ free in
    rises_by k v l w ps (key_cmp k l) refl parts.0 rises (rises_insert k v ps rises.1 parts.1)

pub count_puts : (k v : Term) (ps more : Pairs) → PutsIn k v ps more → pair_count more ≡ pair_count ps + 1
count_puts k v ps more (here qs) = refl
count_puts k v ps more (later m x qs rest puts) = ap (λ (n : ℕ). n + 1) (count_puts k v qs rest puts)

pub depth_puts : (k v : Term) (ps more : Pairs) → PutsIn k v ps more → pairs_depth more ≡ max (depth k) (max (depth v) (pairs_depth ps))
depth_puts k v ps more (here qs) = refl
depth_puts k v ps more (later m x qs rest puts) = let e = depth_puts k v qs rest puts in omega (arith, e)

-- The test on held keys decides.
pub held_is : (ps : Pairs) (s : List ℕ) → is_held ps s ≡ true → Contains (keys ps) s
held_is no_pairs s e = absurd (both_ways false refl e)
held_is (pair k v ps) s e =
    elim (or_cases _ _ e) [
      | inl same ↦ (0, omega arith, sym ((bytes_eq-Decides s (canon k)).0 same))
      | inr rest ↦ let c = held_is ps s rest in (suc c.0, omega (arith, c.1), c.2)
    ]

pub is_held_of : (ps : Pairs) (s : List ℕ) → Contains (keys ps) s → is_held ps s ≡ true
is_held_of no_pairs s (n, lt, is) = absurd (omega (arith, lt))
is_held_of (pair k v ps) s (zero, lt, is) = or_left _ _ ((bytes_eq-Decides s (canon k)).1 (sym is))
is_held_of (pair k v ps) s (suc n, lt, is) = or_right _ _ (is_held_of ps s (n, omega (arith, lt), is))

pub held_not : (ps : Pairs) (s : List ℕ) → is_held ps s ≡ false → ¬ Contains (keys ps) s
held_not ps s e c = both_ways _ e (is_held_of ps s c)

pub free_of : (ps : Pairs) (s : List ℕ) → ¬ Contains (keys ps) s → is_held ps s ≡ false
free_of ps s not = elim (cases_Bool (is_held ps s)) [ inl e ↦ absurd (not (held_is ps s e)) | inr e ↦ e ]
