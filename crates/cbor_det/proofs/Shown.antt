-- The machine comes to each place where an initial byte is due, and stops at each fault that shows,
-- with that kind or a lower one.
use Rattle.std.proofs.Common.{◌≡◌, ◌≢◌, ℕ, zero, suc, ◌+◌, ◌^◌, ◌<◌, ◌≤◌, ◌⊎◌, List, [], ◌∷◌, ◌++◌, length, true, false, refl, sym, ap, ◌∙◌, arith, Option, Some, None, append_assoc, length-append, inl, inr}
use Rattle.std.specs.Str.{IsUtf8, is_utf8}
use Rattle.std.proofs.lemmas.Str.{IsUtf8-from_is_utf8}
use Rattle.std.specs.Option.{IfSome}
use Rattle.std.proofs.lemmas.Bool.{lt-ltb, le-ltb, cond-true, cond-false, both_ways, false_from_ne_true}
use Rattle.cbor_det.specs.declared.string_kind.StringKind.{StringKind}
use Rattle.cbor_det.specs.declared.string_kind.StringKind.TheVariants.{ByteString, TextString}
use Rattle.cbor_det.specs.declared.limits.Limits.{Limits}
use Rattle.cbor_det.specs.declared.initial.Major.{Major}
use Rattle.cbor_det.specs.declared.initial.Major.TheVariants.{Unsigned, Negative, String, Array, Map, Tag}
use Rattle.cbor_det.specs.declared.initial.Beginning.TheVariants as beginning
use Rattle.cbor_det.specs.declared.initial.Initial.{Initial}
use Rattle.cbor_det.specs.declared.initial.Initial.TheVariants.{Item, Break, Float, Simple, Malformed}
use Rattle.cbor_det.specs.Initial.{initial_of, number_of_major}
use Rattle.cbor_det.specs.Term.{Term, no_terms, no_pairs, count, pair_count, terms_depth, pairs_depth}
use Rattle.cbor_det.specs.Canonical.{canon}
use Rattle.cbor_det.specs.Spelling.{IsHead, stop, opening, major_of}
use Rattle.cbor_det.specs.Faults.{Place, top, at_chunk, at_element, at_key, at_value, at_content, height, IsChunkPlace, Admits, AdmitsString, Opens, counted, until_break, MoreAreDue, Upto, start, chunk_due, element_due, key_due, value_due, content_due, IsReserved, IsNeverOpen, TakesBreak, IsMalformed, HasNoItem, Shows, malformed, float, simple, range, too_deep, not_utf8, doubled, long_string, past_limit}
use Rattle.cbor_det.specs.Machine.{State, due, whole, faulty, item_ended, filled_array, filled_map, string_ended, string_begun, argued, opened, broken, begun, item_begun, chunk_begun, run}
use Rattle.cbor_det.specs.Standing.{AdmitsHead}
use Rattle.cbor_det.proofs.Initials.{begun_item}
use Rattle.cbor_det.proofs.Told.{Tells, tells, IsLow, malformed_low, float_low, simple_low, is_in_string, chunk_told}
use Rattle.cbor_det.proofs.Heads.{head_reads}
use Rattle.cbor_det.proofs.Order.{is_held_of, free_of}
use Rattle.cbor_det.proofs.Lengths.{not_full}
use Rattle.cbor_det.proofs.Completes.{admits_head, reads, series_reads, pairs_read, chunks_read, opens_to, steps_to, begun_reads, opening_string, opening_array, opening_map}

module _ (limits : Limits) where
  -- a container that opens
  array_opens : (p : Place) (i : ℕ) (all : Option ℕ) (h rest : List ℕ) → Admits limits p 1 → Opens 4 all h
      → run limits i (due p) (h ++ rest) ≡ run limits (i + length h) (filled_array p i all no_terms) rest
  unfolding argued opened
  array_opens p i all h rest ready (counted n g is) = head_reads limits p Array n g i rest (admits_head limits p Array ready) is
  array_opens p i all h rest ready until_break = opens_to limits p i (opening 4) beginning.Elements (due (at_element i None no_terms p)) rest ready (opening_array limits) refl

  map_opens : (p : Place) (i : ℕ) (all : Option ℕ) (h rest : List ℕ) → Admits limits p 1 → Opens 5 all h
      → run limits i (due p) (h ++ rest) ≡ run limits (i + length h) (filled_map p i all no_pairs) rest
  unfolding argued opened
  map_opens p i all h rest ready (counted n g is) = head_reads limits p Map n g i rest (admits_head limits p Map ready) is
  map_opens p i all h rest ready until_break = opens_to limits p i (opening 5) beginning.Members (due (at_key i None no_pairs p)) rest ready (opening_map limits) refl

  tag_opens : (p : Place) (n i : ℕ) (h rest : List ℕ) → Admits limits p 1 → IsHead 6 n h
      → run limits i (due p) (h ++ rest) ≡ run limits (i + length h) (due (at_content i n p)) rest
  unfolding argued
  tag_opens p n i h rest ready is = head_reads limits p Tag n h i rest (admits_head limits p Tag ready) is

  within : (all : Option ℕ) (n : ℕ) → MoreAreDue all n → IfSome all (λ k. n ≤ k)
  within None n more = tt
  within (Some k) n more = omega arith

  admits_deep : (p : Place) (d : ℕ) → Admits limits p (d + 1) → Admits limits p 1
  admits_deep p d ready = (ready.0, omega (arith, ready.1))

  pub upto_runs : (p : Place) (o : List ℕ) → Upto limits p o → length o ≤ limits.octets → (rest : List ℕ) → run limits 0 (due top) (o ++ rest) ≡ run limits (length o) (due p) rest
  unfolding opened item_ended
  upto_runs p o start room rest = refl
  upto_runs p o (chunk_due q kind u s r upto ready chunks) room rest =
      let l = length-append u (opening (major_of kind) ∷ r) in
      let e : length u + 1 + length r ≡ length (u ++ opening (major_of kind) ∷ r) = omega (arith, l) in
      ap (λ (x : List ℕ). run limits 0 (due top) x) (append_assoc u (opening (major_of kind) ∷ r) rest)
      ∙ upto_runs q u upto (omega (arith, l, room)) (opening (major_of kind) ∷ (r ++ rest))
      ∙ opens_to limits q (length u) (opening (major_of kind)) (beginning.Chunks kind) (due (at_chunk (length u) kind [] q)) (r ++ rest) ready (opening_string limits kind) refl
      ∙ chunks_read limits q (length u) (length u + 1) kind s r rest chunks (omega (arith, l, room))
      ∙ ap (λ (k : ℕ). run limits k (due (at_chunk (length u) kind s q)) rest) e
  upto_runs p o (element_due q all ts u h r upto ready opens series more) room rest =
      let l1 = length-append u (h ++ r) in
      let l2 = length-append h r in
      let e : length u + length h + length r ≡ length (u ++ (h ++ r)) = omega (arith, l1, l2) in
      ap (λ (x : List ℕ). run limits 0 (due top) x) (append_assoc u (h ++ r) rest ∙ ap (λ (x : List ℕ). u ++ x) (append_assoc h r rest))
      ∙ upto_runs q u upto (omega (arith, l1, room)) (h ++ (r ++ rest))
      ∙ array_opens q (length u) all h (r ++ rest) (admits_deep q (terms_depth ts) ready) opens
      ∙ series_reads limits ts r series q (length u) all (length u + length h) rest ready (within all (count ts) more) (omega (arith, l1, l2, room))
      ∙ ap (λ (σ : State). run limits (length u + length h + length r) σ rest) (cond-false _ _ _ (not_full all (count ts) more))
      ∙ ap (λ (k : ℕ). run limits k (due (at_element (length u) all ts q)) rest) e
  upto_runs p o (key_due q all ps u h r upto ready opens series rises more) room rest =
      let l1 = length-append u (h ++ r) in
      let l2 = length-append h r in
      let e : length u + length h + length r ≡ length (u ++ (h ++ r)) = omega (arith, l1, l2) in
      ap (λ (x : List ℕ). run limits 0 (due top) x) (append_assoc u (h ++ r) rest ∙ ap (λ (x : List ℕ). u ++ x) (append_assoc h r rest))
      ∙ upto_runs q u upto (omega (arith, l1, room)) (h ++ (r ++ rest))
      ∙ map_opens q (length u) all h (r ++ rest) (admits_deep q (pairs_depth ps) ready) opens
      ∙ pairs_read limits ps r series rises q (length u) all (length u + length h) rest ready (within all (pair_count ps) more) (omega (arith, l1, l2, room))
      ∙ ap (λ (σ : State). run limits (length u + length h + length r) σ rest) (cond-false _ _ _ (not_full all (pair_count ps) more))
      ∙ ap (λ (k : ℕ). run limits k (due (at_key (length u) all ps q)) rest) e
  upto_runs p o (value_due q map_at all ps k u s upto ready spelled free) room rest =
      let l = length-append u s in
      let e : length u + length s ≡ length (u ++ s) = omega (arith, l) in
      ap (λ (x : List ℕ). run limits 0 (due top) x) (append_assoc u s rest)
      ∙ upto_runs (at_key map_at all ps q) u upto (omega (arith, l, room)) (s ++ rest)
      ∙ reads limits k s spelled (at_key map_at all ps q) (length u) rest ((λ e. e), omega (arith, ready.1)) (omega (arith, l, room))
      ∙ ap (λ (σ : State). run limits (length u + length s) σ rest) (cond-false _ _ _ (free_of ps (canon k) free))
      ∙ ap (λ (j : ℕ). run limits j (due (at_value map_at all ps k q)) rest) e
  upto_runs p o (content_due q n u h upto ready is) room rest =
      let l = length-append u h in
      let e : length u + length h ≡ length (u ++ h) = omega (arith, l) in
      ap (λ (x : List ℕ). run limits 0 (due top) x) (append_assoc u h rest)
      ∙ upto_runs q u upto (omega (arith, l, room)) (h ++ rest)
      ∙ tag_opens q n (length u) h rest ready is
      ∙ ap (λ (k : ℕ). run limits k (due (at_content (length u) n q)) rest) e

  -- The machine stops with a kind that is no higher.
  pub record StopsAt (input rest : List ℕ) (kind at : ℕ) : Type 0 where
    pub lower : ℕ
    pub below : lower ≤ kind
    pub runs : run limits 0 (due top) (input ++ rest) ≡ (faulty lower at, rest)

  pub over : (i k a : ℕ) (rest : List ℕ) → run limits i (faulty k a) rest ≡ (faulty k a, rest)
  over i k a [] = refl
  over i k a (b ∷ bs) = refl

  pub ended : (i : ℕ) (t : Term) (rest : List ℕ) → run limits i (whole t) rest ≡ (whole t, rest)
  ended i t [] = refl
  ended i t (b ∷ bs) = refl

  -- what one octet does where an initial byte is due
  record FaultyBelow (σ : State) (kind at : ℕ) : Type 0 where
    lower : ℕ
    below : lower ≤ kind
    is : σ ≡ faulty lower at

  byte_stops : (p : Place) (o : List ℕ) (b kind : ℕ) (rest : List ℕ) → Upto limits p o → length (o ++ b ∷ []) ≤ limits.octets
      → FaultyBelow (begun limits (length o) p (initial_of b)) kind (length o) → StopsAt (o ++ b ∷ []) rest kind (length o)
  byte_stops p o b kind rest upto room stops =
      let l = length-append o (b ∷ []) in
      record {
        lower = stops.lower;
        below = stops.below;
        runs = ap (λ (x : List ℕ). run limits 0 (due top) x) (append_assoc o (b ∷ []) rest)
            ∙ upto_runs p o upto (omega (arith, l, room)) (b ∷ rest)
            ∙ steps_to limits p (length o) b (initial_of b) (faulty stops.lower (length o)) rest refl stops.is
            ∙ over (length o + 1) stops.lower (length o) rest;
      }

  -- a chunk is due
  no_chunk : (a i : ℕ) (kind : StringKind) (s : List ℕ) (p : Place) (x : Initial) → is_in_string kind x ≡ false → chunk_begun limits i a kind s p x ≡ faulty 2 i
  no_chunk a i kind s p Break lie = absurd (both_ways true lie refl)
  no_chunk a i kind s p Float lie = refl
  no_chunk a i kind s p Simple lie = refl
  no_chunk a i kind s p Malformed lie = refl
  no_chunk a i kind s p (Item x) lie = cond-false _ _ _ lie

  -- a float, a simple value or a malformed octet
  low_chunk : (a i kind : ℕ) (k : StringKind) (s : List ℕ) (p : Place) (x : Initial) → IsLow kind x → FaultyBelow (chunk_begun limits i a k s p x) kind i
  low_chunk a i kind k s p Malformed low = record { lower = 2; below = low; is = refl }
  low_chunk a i kind k s p Float low = record { lower = 2; below = omega (arith, low); is = refl }
  low_chunk a i kind k s p Simple low = record { lower = 2; below = omega (arith, low); is = refl }
  low_chunk a i kind k s p Break low = absurd low
  low_chunk a i kind k s p (Item x) low = absurd low

  low_item : (i kind : ℕ) (p : Place) (x : Initial) → IsLow kind x → FaultyBelow (item_begun limits i p x) kind i
  low_item i kind p Malformed low = record { lower = 2; below = low; is = refl }
  low_item i kind p Float low = record { lower = 3; below = low; is = refl }
  low_item i kind p Simple low = record { lower = 4; below = low; is = refl }
  low_item i kind p Break low = absurd low
  low_item i kind p (Item x) low = absurd low

  low_stops : (p : Place) (i kind : ℕ) (x : Initial) → IsLow kind x → FaultyBelow (begun limits i p x) kind i
  unfolding begun
  low_stops (at_chunk a k s p) i kind x low = low_chunk a i kind k s p x low
  low_stops top i kind x low = low_item i kind top x low
  low_stops (at_element a all ts p) i kind x low = low_item i kind (at_element a all ts p) x low
  low_stops (at_key a all ps p) i kind x low = low_item i kind (at_key a all ps p) x low
  low_stops (at_value a all ps k p) i kind x low = low_item i kind (at_value a all ps k p) x low
  low_stops (at_content a n p) i kind x low = low_item i kind (at_content a n p) x low

  -- a break where it ends nothing
  no_break : (p : Place) (i : ℕ) → ¬ IsChunkPlace p → ¬ TakesBreak p → begun limits i p Break ≡ faulty 2 i
  unfolding begun broken
  no_break top i not takes = refl
  no_break (at_chunk a k s p) i not takes = absurd (not tt)
  no_break (at_element a None ts p) i not takes = absurd (takes refl)
  no_break (at_element a (Some n) ts p) i not takes = refl
  no_break (at_key a None ps p) i not takes = absurd (takes refl)
  no_break (at_key a (Some n) ps p) i not takes = refl
  no_break (at_value a all ps k p) i not takes = refl
  no_break (at_content a n p) i not takes = refl

  stop_is : (b : ℕ) → b ≡ stop → initial_of b ≡ Break
  unfolding initial_of
  stop_is b e = ap (λ (x : ℕ). initial_of x) e

  malformed_item : (p : Place) (i b : ℕ) → ¬ IsChunkPlace p → IsReserved b ⊎ IsNeverOpen b ⊎ ((b ≡ stop) × ¬ TakesBreak p) → FaultyBelow (begun limits i p (initial_of b)) 2 i
  malformed_item p i b not (inl r) = low_stops p i 2 (initial_of b) (malformed_low b (initial_of b) refl (inl r))
  malformed_item p i b not (inr (inl r)) = low_stops p i 2 (initial_of b) (malformed_low b (initial_of b) refl (inr r))
  malformed_item p i b not (inr (inr r)) =
      record { lower = 2; below = omega arith; is = ap (λ (x : Initial). begun limits i p x) (stop_is b r.0) ∙ no_break p i not r.1 }

  malformed_stops : (p : Place) (i b : ℕ) → IsMalformed p b → FaultyBelow (begun limits i p (initial_of b)) 2 i
  unfolding begun
  malformed_stops (at_chunk a k s p) i b is = record { lower = 2; below = omega arith; is = no_chunk a i k s p (initial_of b) ((chunk_told k b (initial_of b) refl).0 is) }
  malformed_stops top i b is = malformed_item top i b (λ e. e) is
  malformed_stops (at_element a all ts p) i b is = malformed_item (at_element a all ts p) i b (λ e. e) is
  malformed_stops (at_key a all ps p) i b is = malformed_item (at_key a all ps p) i b (λ e. e) is
  malformed_stops (at_value a all ps k p) i b is = malformed_item (at_value a all ps k p) i b (λ e. e) is
  malformed_stops (at_content a n p) i b is = malformed_item (at_content a n p) i b (λ e. e) is

  deep_by : (p : Place) (i b : ℕ) (x : Initial) → Tells b x → ¬ IsChunkPlace p → limits.depth < height p + 1 → b ≢ stop → FaultyBelow (begun limits i p x) 6 i
  deep_by p i b Float t not deep ne = low_stops p i 6 Float (omega arith)
  deep_by p i b Simple t not deep ne = low_stops p i 6 Simple (omega arith)
  deep_by p i b Malformed t not deep ne = low_stops p i 6 Malformed (omega arith)
  deep_by p i b Break t not deep ne = absurd (ne t)
  deep_by p i b (Item x) t not deep ne =
      record { lower = 6; below = omega arith; is = begun_item limits p i (Item x) not ∙ cond-true _ _ _ (lt-ltb limits.depth (height p + 1) deep) }

  string_admits : (p : Place) (kind : StringKind) → AdmitsString limits p kind → AdmitsHead limits p (String kind)
  string_admits (at_chunk a k s p) kind ready = ap (λ (x : StringKind). String x) (sym ready)
  string_admits top kind ready = ready
  string_admits (at_element a all ts p) kind ready = ready
  string_admits (at_key a all ps p) kind ready = ready
  string_admits (at_value a all ps k p) kind ready = ready
  string_admits (at_content a n p) kind ready = ready

  no_utf8 : (p : Place) (at : ℕ) (s : List ℕ) → ¬ IsUtf8 s → string_ended p at TextString s ≡ faulty 7 at
  unfolding string_ended
  no_utf8 p at s not = cond-false _ _ _ (false_from_ne_true (is_utf8 s) (λ e. not (IsUtf8-from_is_utf8 s e)))

  too_big : (i at n m : ℕ) (p : Place) (major : Major) → m ≤ 1 → m ≡ number_of_major major → 2 ^ 63 ≤ n → argued limits i p at major n ≡ faulty 5 at
  unfolding argued
  too_big i at n m p Unsigned small is big = cond-false _ _ _ (le-ltb n (2 ^ 63) big)
  too_big i at n m p Negative small is big = cond-false _ _ _ (le-ltb n (2 ^ 63) big)
  too_big i at n m p (String ByteString) small is big = absurd (omega arith)
  too_big i at n m p (String TextString) small is big = absurd (omega arith)
  too_big i at n m p Array small is big = absurd (omega arith)
  too_big i at n m p Map small is big = absurd (omega arith)
  too_big i at n m p Tag small is big = absurd (omega arith)

  too_long : (i at n : ℕ) (p : Place) (kind : StringKind) → limits.octets < i + n → argued limits i p at (String kind) n ≡ faulty 9 at
  unfolding argued
  too_long i at n p kind long = cond-true _ _ _ (lt-ltb limits.octets (i + n) long)

  pub not_long : (i at n : ℕ) (p : Place) (kind : StringKind) → i + n ≤ limits.octets → argued limits i p at (String kind) n ≡ string_begun p at kind n
  unfolding argued
  not_long i at n p kind fits = cond-false _ _ _ (le-ltb limits.octets (i + n) fits)

  head_stops : (p : Place) (o h : List ℕ) (m : Major) (n kind : ℕ) (rest : List ℕ) → Upto limits p o → AdmitsHead limits p m → IsHead (number_of_major m) n h
      → length (o ++ h) ≤ limits.octets → argued limits (length o + length h) p (length o) m n ≡ faulty kind (length o) → StopsAt (o ++ h) rest kind (length o)
  head_stops p o h m n kind rest upto ready is room stops =
      let l = length-append o h in
      record {
        lower = kind;
        below = omega arith;
        runs = ap (λ (x : List ℕ). run limits 0 (due top) x) (append_assoc o h rest)
            ∙ upto_runs p o upto (omega (arith, l, room)) (h ++ rest)
            ∙ head_reads limits p m n h (length o) rest ready is
            ∙ ap (λ (σ : State). run limits (length o + length h) σ rest) stops
            ∙ over (length o + length h) kind (length o) rest;
      }

  -- What shows, but where octets up to the limit are wanted.
  pub shows_runs : (o : List ℕ) (k a : ℕ) → Shows limits o k a → length o ≤ limits.octets → (rest : List ℕ)
      → StopsAt o rest k a ⊎ ((k ≡ 9) × (a ≡ length o) × (length o ≡ limits.octets) × HasNoItem limits o)
  unfolding item_ended
  shows_runs o k a (malformed p u b upto is) room rest = inl (byte_stops p u b 2 rest upto room (malformed_stops p (length u) b is))
  shows_runs o k a (float p u b upto is) room rest = inl (byte_stops p u b 3 rest upto room (low_stops p (length u) 3 (initial_of b) (float_low b (initial_of b) refl is)))
  shows_runs o k a (simple p u b upto is) room rest = inl (byte_stops p u b 4 rest upto room (low_stops p (length u) 4 (initial_of b) (simple_low b (initial_of b) refl is)))
  shows_runs o k a (range p u n h zero upto ready small is big) room rest =
      inl (head_stops p u h Unsigned n 5 rest upto (admits_head limits p Unsigned ready) is room (too_big (length u + length h) (length u) n 0 p Unsigned small refl big))
  shows_runs o k a (range p u n h (suc zero) upto ready small is big) room rest =
      inl (head_stops p u h Negative n 5 rest upto (admits_head limits p Negative ready) is room (too_big (length u + length h) (length u) n 1 p Negative small refl big))
  shows_runs o k a (range p u n h (suc (suc m)) upto ready small is big) room rest = absurd (omega (arith, small))
  shows_runs o k a (too_deep p u b upto is) room rest = inl (byte_stops p u b 6 rest upto room (deep_by p (length u) b (initial_of b) (tells b (initial_of b) refl) is.0 is.1 is.2))
  shows_runs o k a (not_utf8 p u h s upto ready is not) room rest =
      let l1 = length-append u (h ++ s) in
      let l2 = length-append h s in
      inl (record {
        lower = 7;
        below = omega arith;
        runs = ap (λ (x : List ℕ). run limits 0 (due top) x) (append_assoc u (h ++ s) rest ∙ ap (λ (x : List ℕ). u ++ x) (append_assoc h s rest))
            ∙ upto_runs p u upto (omega (arith, l1, room)) (h ++ (s ++ rest))
            ∙ head_reads limits p (String TextString) (length s) h (length u) (s ++ rest) (string_admits p TextString ready) is
            ∙ ap (λ (σ : State). run limits (length u + length h) σ (s ++ rest)) (not_long (length u + length h) (length u) (length s) p TextString (omega (arith, l1, l2, room)))
            ∙ begun_reads limits p (length u) TextString (length u + length h) s rest
            ∙ ap (λ (σ : State). run limits (length u + length h + length s) σ rest) (no_utf8 p (length u) s not)
            ∙ over (length u + length h + length s) 7 (length u) rest;
      })
  shows_runs o k a (doubled p map_at all ps u s key upto ready spelled held) room rest =
      let l = length-append u s in
      inl (record {
        lower = 8;
        below = omega arith;
        runs = ap (λ (x : List ℕ). run limits 0 (due top) x) (append_assoc u s rest)
            ∙ upto_runs (at_key map_at all ps p) u upto (omega (arith, l, room)) (s ++ rest)
            ∙ reads limits key s spelled (at_key map_at all ps p) (length u) rest ((λ e. e), omega (arith, ready.1)) (omega (arith, l, room))
            ∙ ap (λ (σ : State). run limits (length u + length s) σ rest) (cond-true _ _ _ (is_held_of ps (canon key) held))
            ∙ over (length u + length s) 8 (length u) rest;
      })
  shows_runs o k a (long_string p u h kind n upto ready is long) room rest =
      inl (head_stops p u h (String kind) n 9 rest upto (string_admits p kind ready) is room (too_long (length u + length h) (length u) n p kind long))
  shows_runs o k a (past_limit u is none) room rest = inr (refl, refl, is, none)
