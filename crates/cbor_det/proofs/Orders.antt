-- The pairs of a map in another order.
use Rattle.std.proofs.Common.{◌≡◌, ℕ, zero, suc, ◌<◌, List, [], ◌∷◌, ◌++◌, length, refl, sym, ap, ◌∙◌, arith, subst, append_assoc, length-append, get_or, set, inl, inr, ◌⊎◌}
use Rattle.std.specs.List.{swap}
use Rattle.std.specs.List.Sorted.{IsPermutation}
use Rattle.std.proofs.lemmas.List.{append-nil}
use Rattle.std.proofs.lemmas.List.Sorted.{IsPermutation-keeps}
use Rattle.cbor_det.specs.Term.{Term, Pairs, no_pairs, pair}
use Rattle.cbor_det.specs.Spelling.{PutsIn, here, later, Spelling, PairSeries, no_members, member}
use Rattle.cbor_det.specs.Laws.{Member, joined}
use Rattle.cbor_det.proofs.Counts.{spelling_some}
use Rattle.cbor_det.proofs.Written.{one_item}

-- Of two pairs that are put in, one after the other, either may be the first.
puts_swap : (k v l w : Term) (ps qs more : Pairs) → PutsIn k v ps qs → PutsIn l w qs more → (rs : Pairs) × PutsIn l w ps rs × PutsIn k v rs more
puts_swap k v l w ps qs more first (here _) = (pair l w ps, here ps, later l w ps qs first)
puts_swap k v l w ps qs more (here _) (later m x us rest puts) = (rest, puts, here rest)
puts_swap k v l w ps qs more (later m x us vs first) (later m2 x2 vs2 rest puts) =
    let r = puts_swap k v l w us vs rest first puts in
    (pair m x r.0, later m x us r.0 r.1, later m x r.0 rest r.2)

-- The pair that octets begin with.
record Front (ps : Pairs) (r : List ℕ) : Type 0 where
  key : Term
  value : Term
  key_octets : List ℕ
  value_octets : List ℕ
  rest : List ℕ
  others : Pairs
  key_is : Spelling key key_octets
  value_is : Spelling value value_octets
  puts : PutsIn key value others ps
  series : PairSeries others rest
  is : r ≡ (key_octets ++ value_octets) ++ rest

turned : (x y : List ℕ) → x ≡ [] → x ++ y ≡ y ++ x
turned x y e = ap (λ (z : List ℕ). z ++ y) e ∙ sym (append-nil y) ∙ ap (λ (z : List ℕ). y ++ z) (sym e)

first_of : (ps : Pairs) (r : List ℕ) → PairSeries ps r → (r ≡ []) ⊎ Front ps r
first_of ps r no_members = inl refl
first_of ps r (member qs more k v u o q series key value puts) =
    elim (first_of qs u series) [
      | inl none ↦ inr (record { key = k; value = v; key_octets = o; value_octets = q; rest = u; others = qs; key_is = key; value_is = value; puts = puts; series = series; is = turned u (o ++ q) none })
      | inr f ↦
          let w = puts_swap f.key f.value k v f.others qs more f.puts puts in
          let whole : u ++ (o ++ q) ≡ (f.key_octets ++ f.value_octets) ++ (f.rest ++ (o ++ q)) =
          ap (λ (z : List ℕ). z ++ (o ++ q)) f.is ∙ append_assoc (f.key_octets ++ f.value_octets) f.rest (o ++ q) in
          inr (record {
            key = f.key;
            value = f.value;
            key_octets = f.key_octets;
            value_octets = f.value_octets;
            rest = f.rest ++ (o ++ q);
            others = w.0;
            key_is = f.key_is;
            value_is = f.value_is;
            puts = w.2;
            series = member f.others w.0 k v f.rest o q f.series key value w.1;
            is = whole;
          })
    ]

-- The first member is one of the pairs, and the others are spelled after it.
front_of : (ps : Pairs) (m : Member) (r : List ℕ) → PairSeries ps ((m.key_octets ++ m.value_octets) ++ r)
    → (qs : Pairs) × PutsIn m.key m.value qs ps × PairSeries qs r
front_of ps m r series =
    elim (first_of ps ((m.key_octets ++ m.value_octets) ++ r) series) [
      | inl none ↦
          let some = spelling_some m.key m.key_octets m.key_spelled in
          let e = ap length none in
          absurd (omega (arith, length-append (m.key_octets ++ m.value_octets) r, length-append m.key_octets m.value_octets, some, e))
      | inr f ↦
          let both : m.key_octets ++ (m.value_octets ++ r) ≡ f.key_octets ++ (f.value_octets ++ f.rest) =
          sym (append_assoc m.key_octets m.value_octets r) ∙ f.is ∙ append_assoc f.key_octets f.value_octets f.rest in
          let a = one_item m.key f.key m.key_octets f.key_octets (m.value_octets ++ r) (f.value_octets ++ f.rest) m.key_spelled f.key_is both in
          let b = one_item m.value f.value m.value_octets f.value_octets r f.rest m.value_spelled f.value_is a.1 in
          let P : Term → Type 0 = λ k. PutsIn k f.value f.others ps in
          let Q : Term → Type 0 = λ v. PutsIn m.key v f.others ps in
          let R : List ℕ → Type 0 = λ x. PairSeries f.others x in
          (f.others, subst Q (sym b.0) (subst P (sym a.0) f.puts), subst R (sym b.1) f.series)
    ]

-- A pair's spelling may come first, wherever the pair is put in.
puts_front : (k v : Term) (o q : List ℕ) → Spelling k o → Spelling v q → (qs ps : Pairs) (r : List ℕ) → PutsIn k v qs ps → PairSeries qs r
    → PairSeries ps ((o ++ q) ++ r)
puts_front k v o q key value qs ps r puts no_members =
    let P : List ℕ → Type 0 = λ x. PairSeries ps x in
    subst P (sym (append-nil (o ++ q))) (member no_pairs ps k v [] o q no_members key value puts)
puts_front k v o q key value qs ps r puts (member us more l w u x y series first second into) =
    let P : List ℕ → Type 0 = λ z. PairSeries ps z in
    let s = puts_swap l w k v us more ps into puts in
    subst P (append_assoc (o ++ q) u (x ++ y)) (member s.0 ps l w ((o ++ q) ++ u) x y (puts_front k v o q key value us s.0 u s.1 series) first second s.2)

-- What is the pairs of a map in one order is so in the other.
abbrev Keeps : List Member → List Member → Type 0
Keeps ms ns = (ps : Pairs) → PairSeries ps (joined ms) → PairSeries ps (joined ns)

keeps_behind : (m : Member) (ms ns : List Member) → Keeps ms ns → Keeps (m ∷ ms) (m ∷ ns)
keeps_behind m ms ns keeps ps series =
    let f = front_of ps m (joined ms) series in
    puts_front m.key m.value m.key_octets m.value_octets m.key_spelled m.value_spelled f.0 ps (joined ns) f.1 (keeps f.0 f.2)

neighbours : (m n : Member) (ms : List Member) → Keeps (m ∷ n ∷ ms) (n ∷ m ∷ ms)
neighbours m n ms ps series =
    let f = front_of ps m (joined (n ∷ ms)) series in
    let g = front_of f.0 n (joined ms) f.2 in
    let s = puts_swap n.key n.value m.key m.value g.0 f.0 ps g.1 f.1 in
    puts_front n.key n.value n.key_octets n.value_octets n.key_spelled n.value_spelled s.0 ps (joined (m ∷ ms)) s.2
    (puts_front m.key m.value m.key_octets m.value_octets m.key_spelled m.value_spelled g.0 s.0 (joined ms) s.1 g.2)

-- the first in the place of another
first_swapped : (m : Member) (ms : List Member) (j : ℕ) (d : Member) → j < length ms → Keeps (m ∷ ms) (get_or ms j d ∷ set ms j m)
first_swapped m [] j d lt = absurd (omega (arith, lt))
first_swapped m (n ∷ ms) zero d lt = neighbours m n ms
first_swapped m (n ∷ ms) (suc j) d lt = λ ps series.
    neighbours n (get_or ms j d) (set ms j m) ps
    (keeps_behind n (m ∷ ms) (get_or ms j d ∷ set ms j m) (first_swapped m ms j d (omega (arith, lt))) ps (neighbours m n ms ps series))

swapped : (ms : List Member) (i j : ℕ) (d : Member) → i < length ms → j < length ms → Keeps ms (set (set ms i (get_or ms j d)) j (get_or ms i d))
swapped [] i j d lt less = absurd (omega (arith, lt))
swapped (m ∷ ms) zero zero d lt less = λ ps series. series
swapped (m ∷ ms) zero (suc j) d lt less = first_swapped m ms j d (omega (arith, less))
swapped (m ∷ ms) (suc i) zero d lt less = first_swapped m ms i d (omega (arith, lt))
swapped (m ∷ ms) (suc i) (suc j) d lt less =
    keeps_behind m ms (set (set ms i (get_or ms j d)) j (get_or ms i d)) (swapped ms i j d (omega (arith, lt)) (omega (arith, less)))

swap_keeps : (ms : List Member) (i j : ℕ) → i < length ms → j < length ms → Keeps ms (swap ms i j)
swap_keeps [] i j lt less = absurd (omega (arith, lt))
swap_keeps (m ∷ ms) i j lt less = swapped (m ∷ ms) i j m lt less

-- The order of the members does not matter.
pub order_free : (ps : Pairs) (ms ns : List Member) → IsPermutation ms ns → PairSeries ps (joined ms) → PairSeries ps (joined ns)
order_free ps ms ns moved series =
    IsPermutation-keeps ms (λ (l : List Member). PairSeries ps (joined l)) series (λ l i j lt less s. swap_keeps l i j lt less ps s) ns moved
