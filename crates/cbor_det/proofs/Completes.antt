-- The machine reads each spelling of an item to its end, and gives the item.
use Rattle.std.proofs.Common.{◌≡◌, ℕ, zero, suc, ◌+◌, ◌^◌, ◌<◌, ◌≤◌, List, [], ◌∷◌, ◌++◌, length, refl, sym, ap, ◌∙◌, arith, subst, true, false, Option, Some, None, append_assoc, length-append}
use Rattle.std.specs.Option.{IfSome}
use Rattle.std.proofs.lemmas.List.{nil_from_length}
use Rattle.std.proofs.lemmas.Str.{is_utf8-from_IsUtf8, IsUtf8-append, IsUtf8-nil}
use Rattle.std.proofs.lemmas.Bool.{lt-ltb, le-ltb, eq-eqb, cond-true, cond-false}
use Rattle.cbor_det.specs.declared.string_kind.StringKind.{StringKind}
use Rattle.cbor_det.specs.declared.string_kind.StringKind.TheVariants.{ByteString, TextString}
use Rattle.cbor_det.specs.declared.limits.Limits.{Limits}
use Rattle.cbor_det.specs.declared.initial.Major.{Major}
use Rattle.cbor_det.specs.declared.initial.Major.TheVariants.{Unsigned, Negative, String, Array, Map, Tag}
use Rattle.cbor_det.specs.declared.initial.Beginning.{Beginning}
use Rattle.cbor_det.specs.declared.initial.Beginning.TheVariants as beginning
use Rattle.cbor_det.specs.declared.initial.Initial.{Initial}
use Rattle.cbor_det.specs.declared.initial.Initial.TheVariants.{Item, Break}
use Rattle.cbor_det.specs.Initial.{initial_of}
use Rattle.cbor_det.specs.Term.{Term, Terms, Pairs, integer, octets, text, array, map, tagged, boolean, no_terms, no_pairs, count, pair_count, plus, depth, terms_depth, pairs_depth}
use Rattle.cbor_det.specs.Spelling.{IsHead, stop, opening, major_of, IsPart, string, Chunks, no_chunks, chunk, Rises, PutsIn, Spelling, Series, PairSeries, unsigned, negative, definite_string, indefinite_string, definite_array, indefinite_array, definite_map, indefinite_map, under_tag, is_false, is_true, no_items, item, no_members, member}
use Rattle.cbor_det.specs.Faults.{Place, top, at_chunk, at_element, at_key, at_value, at_content, IsChunkPlace, Admits}
use Rattle.cbor_det.specs.Machine.{State, due, content, item_ended, filled_array, filled_map, is_part, string_given, string_ended, string_begun, argued, opened, broken, begun, step, run}
use Rattle.cbor_det.specs.Standing.{AdmitsHead}
use Rattle.cbor_det.proofs.Initials.{begun_opens}
use Rattle.cbor_det.proofs.Heads.{head_reads}
use Rattle.cbor_det.proofs.Order.{rises_less, insert_is, not_held, count_puts, depth_puts}
use Rattle.cbor_det.proofs.Lengths.{count_plus, depth_plus, not_full}

pub part_is : (kind : StringKind) (s : List ℕ) → IsPart kind s → is_part kind s ≡ true
part_is ByteString s is = refl
part_is TextString s is = is_utf8-from_IsUtf8 s is

-- the chunks of a text make a text
pub chunks_part : (kind : StringKind) (s o : List ℕ) → Chunks kind s o → IsPart kind s
chunks_part ByteString s o _ = tt
chunks_part TextString s o no_chunks = IsUtf8-nil
chunks_part TextString s o (chunk t u q h chunks part is) = IsUtf8-append t u (chunks_part TextString t q chunks) part

pub depth_one : (t : Term) → 1 ≤ depth t
depth_one (integer z) = omega arith
depth_one (octets s) = omega arith
depth_one (text s) = omega arith
depth_one (array ts) = omega arith
depth_one (map ps) = omega arith
depth_one (tagged n t) = omega arith
depth_one (boolean b) = omega arith

pub string_depth : (kind : StringKind) (s : List ℕ) → depth (string kind s) ≡ 1
string_depth ByteString s = refl
string_depth TextString s = refl

module _ (limits : Limits) where
  pub admits_one : (p : Place) (t : Term) → Admits limits p (depth t) → Admits limits p 1
  admits_one p t ready = let one = depth_one t in (ready.0, omega (arith, one, ready.1))

  pub admits_head : (p : Place) (m : Major) → Admits limits p 1 → AdmitsHead limits p m
  admits_head top m ready = ready
  admits_head (at_chunk a k s p) m ready = absurd (ready.0 tt)
  admits_head (at_element a all ts p) m ready = ready
  admits_head (at_key a all ps p) m ready = ready
  admits_head (at_value a all ps k p) m ready = ready
  admits_head (at_content a n p) m ready = ready

  pub string_item : (p : Place) (at : ℕ) (kind : StringKind) (s : List ℕ) → ¬ IsChunkPlace p → string_given p at kind s ≡ item_ended p at (string kind s)
  string_item top at kind s not = refl
  string_item (at_chunk a k t p) at kind s not = absurd (not tt)
  string_item (at_element a all ts p) at kind s not = refl
  string_item (at_key a all ps p) at kind s not = refl
  string_item (at_value a all ps k p) at kind s not = refl
  string_item (at_content a n p) at kind s not = refl

  pub string_ends : (p : Place) (at : ℕ) (kind : StringKind) (s : List ℕ) → IsPart kind s → string_ended p at kind s ≡ string_given p at kind s
  unfolding string_ended
  string_ends p at kind s part = cond-true _ _ _ (part_is kind s part)

  -- the octets of a definite string
  pub content_reads : (p : Place) (at : ℕ) (kind : StringKind) (left i : ℕ) (came s rest : List ℕ) → length s ≡ suc left
      → run limits i (content p at kind (suc left) came) (s ++ rest) ≡ run limits (i + length s) (string_ended p at kind (came ++ s)) rest
  unfolding step
  content_reads p at kind left i came [] rest len = absurd (omega arith)
  content_reads p at kind zero i came (b ∷ bs) rest len =
      let none : bs ≡ [] = nil_from_length bs (omega arith) in
      let P : List ℕ → Type 0 = λ (o : List ℕ). run limits (i + 1) (string_ended p at kind (came ++ b ∷ [])) (o ++ rest) ≡ run limits (i + length (b ∷ o)) (string_ended p at kind (came ++ b ∷ o)) rest in
      subst P (sym none) refl
  content_reads p at kind (suc left) i came (b ∷ bs) rest len =
      content_reads p at kind left (i + 1) (came ++ b ∷ []) bs rest (omega arith)
      ∙ (let e : i + 1 + length bs ≡ i + suc (length bs) = omega arith in ap (λ (k : ℕ). run limits k (string_ended p at kind ((came ++ b ∷ []) ++ bs)) rest) e)
      ∙ ap (λ (o : List ℕ). run limits (i + suc (length bs)) (string_ended p at kind o) rest) (append_assoc came (b ∷ []) bs)

  pub begun_reads : (p : Place) (at : ℕ) (kind : StringKind) (i : ℕ) (s rest : List ℕ)
      → run limits i (string_begun p at kind (length s)) (s ++ rest) ≡ run limits (i + length s) (string_ended p at kind s) rest
  begun_reads p at kind i [] rest = let e : i ≡ i + 0 = omega arith in ap (λ (k : ℕ). run limits k (string_ended p at kind []) rest) e
  begun_reads p at kind i (b ∷ bs) rest = content_reads p at kind (length bs) i [] (b ∷ bs) rest refl

  -- a definite string, as an item or as a chunk
  pub string_reads : (p : Place) (i : ℕ) (kind : StringKind) (s h rest : List ℕ) → AdmitsHead limits p (String kind) → IsPart kind s → IsHead (major_of kind) (length s) h
      → i + length (h ++ s) ≤ limits.octets
      → run limits i (due p) ((h ++ s) ++ rest) ≡ run limits (i + length (h ++ s)) (string_given p i kind s) rest
  unfolding argued
  string_reads p i kind s h rest ready part is room =
      let len = length-append h s in
      let fits : i + length h + length s ≤ limits.octets = omega (arith, len, room) in
      let e : i + length h + length s ≡ i + length (h ++ s) = omega (arith, len) in
      ap (λ (o : List ℕ). run limits i (due p) o) (append_assoc h s rest)
      ∙ head_reads limits p (String kind) (length s) h i (s ++ rest) ready is
      ∙ ap (λ (σ : State). run limits (i + length h) σ (s ++ rest)) (cond-false _ _ _ (le-ltb limits.octets (i + length h + length s) fits))
      ∙ begun_reads p i kind (i + length h) s rest
      ∙ ap (λ (σ : State). run limits (i + length h + length s) σ rest) (string_ends p i kind s part)
      ∙ ap (λ (k : ℕ). run limits k (string_given p i kind s) rest) e

  pub chunks_read : (p : Place) (at i : ℕ) (kind : StringKind) (s o rest : List ℕ) → Chunks kind s o → i + length o ≤ limits.octets
      → run limits i (due (at_chunk at kind [] p)) (o ++ rest) ≡ run limits (i + length o) (due (at_chunk at kind s p)) rest
  chunks_read p at i kind s o rest no_chunks room = let e : i ≡ i + 0 = omega arith in ap (λ (k : ℕ). run limits k (due (at_chunk at kind [] p)) rest) e
  chunks_read p at i kind s o rest (chunk t u q h chunks part is) room =
      let l1 = length-append (q ++ h) u in
      let l2 = length-append q h in
      let l3 = length-append h u in
      let e : i + length q + length (h ++ u) ≡ i + length ((q ++ h) ++ u) = omega (arith, l1, l2, l3) in
      let near : i + length q + length (h ++ u) ≤ limits.octets = omega (arith, e, room) in
      ap (λ (x : List ℕ). run limits i (due (at_chunk at kind [] p)) (x ++ rest)) (append_assoc q h u)
      ∙ ap (λ (x : List ℕ). run limits i (due (at_chunk at kind [] p)) x) (append_assoc q (h ++ u) rest)
      ∙ chunks_read p at i kind t q ((h ++ u) ++ rest) chunks (omega (arith, near))
      ∙ string_reads (at_chunk at kind t p) (i + length q) kind u h rest refl part is near
      ∙ ap (λ (k : ℕ). run limits k (due (at_chunk at kind (t ++ u) p)) rest) e

  -- One octet, and the state that it makes.
  pub steps_to : (p : Place) (i b : ℕ) (x : Initial) (σ : State) (rest : List ℕ) → initial_of b ≡ x → begun limits i p x ≡ σ
      → run limits i (due p) (b ∷ rest) ≡ run limits (i + 1) σ rest
  unfolding step
  steps_to p i b x σ rest is goes = ap (λ (s : State). run limits (i + 1) s rest) (ap (λ (y : Initial). begun limits i p y) is ∙ goes)

  pub opening_string : (kind : StringKind) → initial_of (opening (major_of kind)) ≡ Item (beginning.Chunks kind)
  unfolding initial_of
  opening_string ByteString = refl
  opening_string TextString = refl

  pub opening_array : initial_of (opening 4) ≡ Item beginning.Elements
  unfolding initial_of
  opening_array = refl

  pub opening_map : initial_of (opening 5) ≡ Item beginning.Members
  unfolding initial_of
  opening_map = refl

  pub stops : initial_of stop ≡ Break
  unfolding initial_of
  stops = refl

  falses : initial_of 0xf4 ≡ Item (beginning.Bool false)
  unfolding initial_of
  falses = refl

  trues : initial_of 0xf5 ≡ Item (beginning.Bool true)
  unfolding initial_of
  trues = refl

  pub opens_to : (p : Place) (i b : ℕ) (x : Beginning) (σ : State) (rest : List ℕ) → Admits limits p 1 → initial_of b ≡ Item x → opened limits i p x ≡ σ
      → run limits i (due p) (b ∷ rest) ≡ run limits (i + 1) σ rest
  opens_to p i b x σ rest ready is goes = steps_to p i b (Item x) σ rest is (begun_opens limits p i x ready ∙ goes)

  within_less : (all : Option ℕ) (us : Terms) (u : Term) → IfSome all (λ n. count (plus us u) ≤ n) → IfSome all (λ n. count us ≤ n)
  within_less None us u within = tt
  within_less (Some n) us u within = let c = count_plus us u in omega (arith, c, within)

  below_all : (all : Option ℕ) (us : Terms) (u : Term) → IfSome all (λ n. count (plus us u) ≤ n) → IfSome all (λ n. count us < n)
  below_all None us u within = tt
  below_all (Some n) us u within = let c = count_plus us u in omega (arith, c, within)

  pairs_less : (all : Option ℕ) (k v : Term) (qs more : Pairs) → PutsIn k v qs more → IfSome all (λ n. pair_count more ≤ n) → IfSome all (λ n. pair_count qs ≤ n)
  pairs_less None k v qs more puts within = tt
  pairs_less (Some n) k v qs more puts within = let c = count_puts k v qs more puts in omega (arith, c, within)

  pairs_below : (all : Option ℕ) (k v : Term) (qs more : Pairs) → PutsIn k v qs more → IfSome all (λ n. pair_count more ≤ n) → IfSome all (λ n. pair_count qs < n)
  pairs_below None k v qs more puts within = tt
  pairs_below (Some n) k v qs more puts within = let c = count_puts k v qs more puts in omega (arith, c, within)

  given_element : (p : Place) (at : ℕ) (all : Option ℕ) (us : Terms) (u : Term) (began i : ℕ) (rest : List ℕ)
      → run limits i (item_ended (at_element at all us p) began u) rest ≡ run limits i (filled_array p at all (plus us u)) rest
  unfolding item_ended
  given_element p at all us u began i rest = refl

  given_key : (p : Place) (at : ℕ) (all : Option ℕ) (k v : Term) (qs more : Pairs) (began i : ℕ) (rest : List ℕ) → Rises more → PutsIn k v qs more
      → run limits i (item_ended (at_key at all qs p) began k) rest ≡ run limits i (due (at_value at all qs k p)) rest
  unfolding item_ended
  given_key p at all k v qs more began i rest rises puts = ap (λ (σ : State). run limits i σ rest) (cond-false _ _ _ (not_held k v qs more rises puts))

  given_value : (p : Place) (at : ℕ) (all : Option ℕ) (k v : Term) (qs more : Pairs) (began i : ℕ) (rest : List ℕ) → Rises more → PutsIn k v qs more
      → run limits i (item_ended (at_value at all qs k p) began v) rest ≡ run limits i (filled_map p at all more) rest
  unfolding item_ended
  given_value p at all k v qs more began i rest rises puts = ap (λ (ps : Pairs). run limits i (filled_map p at all ps) rest) (insert_is k v qs more rises puts)

  mutual
    unfolding argued opened begun broken item_ended

    pub reads : (t : Term) (o : List ℕ) → Spelling t o → (p : Place) (i : ℕ) (rest : List ℕ) → Admits limits p (depth t) → i + length o ≤ limits.octets
        → run limits i (due p) (o ++ rest) ≡ run limits (i + length o) (item_ended p i t) rest
    reads t o (unsigned n h lt is) p i rest ready room =
        head_reads limits p Unsigned n h i rest (admits_head p Unsigned ready) is
        ∙ ap (λ (σ : State). run limits (i + length h) σ rest) (cond-true _ _ _ (lt-ltb n (2 ^ 63) lt))
    reads t o (negative n h lt is) p i rest ready room =
        head_reads limits p Negative n h i rest (admits_head p Negative ready) is
        ∙ ap (λ (σ : State). run limits (i + length h) σ rest) (cond-true _ _ _ (lt-ltb n (2 ^ 63) lt))
    reads t o (definite_string kind s h part is) p i rest ready room =
        let one : Admits limits p 1 = admits_one p (string kind s) ready in
        string_reads p i kind s h rest (admits_head p (String kind) one) part is room
        ∙ ap (λ (σ : State). run limits (i + length (h ++ s)) σ rest) (string_item p i kind s ready.0)
    reads t o (indefinite_string kind s q chunks) p i rest ready room =
        let one : Admits limits p 1 = admits_one p (string kind s) ready in
        let l = length-append q (stop ∷ []) in
        let e : i + 1 + length q + 1 ≡ i + suc (length (q ++ stop ∷ [])) = omega (arith, l) in
        opens_to p i (opening (major_of kind)) (beginning.Chunks kind) (due (at_chunk i kind [] p)) ((q ++ stop ∷ []) ++ rest) one (opening_string kind) refl
        ∙ ap (λ (x : List ℕ). run limits (i + 1) (due (at_chunk i kind [] p)) x) (append_assoc q (stop ∷ []) rest)
        ∙ chunks_read p i (i + 1) kind s q (stop ∷ rest) chunks (omega (arith, l, room))
        ∙ steps_to (at_chunk i kind s p) (i + 1 + length q) stop Break (string_given p i kind s) rest stops (string_ends p i kind s (chunks_part kind s q chunks))
        ∙ ap (λ (σ : State). run limits (i + 1 + length q + 1) σ rest) (string_item p i kind s ready.0)
        ∙ ap (λ (k : ℕ). run limits k (item_ended p i (string kind s)) rest) e
    reads t o (definite_array ts h r is series) p i rest ready room =
        let l = length-append h r in
        let one : Admits limits p 1 = admits_one p (array ts) ready in
        let e : i + length h + length r ≡ i + length (h ++ r) = omega (arith, l) in
        ap (λ (x : List ℕ). run limits i (due p) x) (append_assoc h r rest)
        ∙ head_reads limits p Array (count ts) h i (r ++ rest) (admits_head p Array one) is
        ∙ series_reads ts r series p i (Some (count ts)) (i + length h) rest ready (omega arith) (omega (arith, l, room))
        ∙ ap (λ (σ : State). run limits (i + length h + length r) σ rest) (cond-true _ _ _ (eq-eqb (count ts) (count ts) refl))
        ∙ ap (λ (k : ℕ). run limits k (item_ended p i (array ts)) rest) e
    reads t o (indefinite_array ts r series) p i rest ready room =
        let one : Admits limits p 1 = admits_one p (array ts) ready in
        let l = length-append r (stop ∷ []) in
        let e : i + 1 + length r + 1 ≡ i + suc (length (r ++ stop ∷ [])) = omega (arith, l) in
        opens_to p i (opening 4) beginning.Elements (due (at_element i None no_terms p)) ((r ++ stop ∷ []) ++ rest) one opening_array refl
        ∙ ap (λ (x : List ℕ). run limits (i + 1) (due (at_element i None no_terms p)) x) (append_assoc r (stop ∷ []) rest)
        ∙ series_reads ts r series p i None (i + 1) (stop ∷ rest) ready tt (omega (arith, l, room))
        ∙ steps_to (at_element i None ts p) (i + 1 + length r) stop Break (item_ended p i (array ts)) rest stops refl
        ∙ ap (λ (k : ℕ). run limits k (item_ended p i (array ts)) rest) e
    reads t o (definite_map ps h r rises is series) p i rest ready room =
        let l = length-append h r in
        let one : Admits limits p 1 = admits_one p (map ps) ready in
        let e : i + length h + length r ≡ i + length (h ++ r) = omega (arith, l) in
        ap (λ (x : List ℕ). run limits i (due p) x) (append_assoc h r rest)
        ∙ head_reads limits p Map (pair_count ps) h i (r ++ rest) (admits_head p Map one) is
        ∙ pairs_read ps r series rises p i (Some (pair_count ps)) (i + length h) rest ready (omega arith) (omega (arith, l, room))
        ∙ ap (λ (σ : State). run limits (i + length h + length r) σ rest) (cond-true _ _ _ (eq-eqb (pair_count ps) (pair_count ps) refl))
        ∙ ap (λ (k : ℕ). run limits k (item_ended p i (map ps)) rest) e
    reads t o (indefinite_map ps r rises series) p i rest ready room =
        let one : Admits limits p 1 = admits_one p (map ps) ready in
        let l = length-append r (stop ∷ []) in
        let e : i + 1 + length r + 1 ≡ i + suc (length (r ++ stop ∷ [])) = omega (arith, l) in
        opens_to p i (opening 5) beginning.Members (due (at_key i None no_pairs p)) ((r ++ stop ∷ []) ++ rest) one opening_map refl
        ∙ ap (λ (x : List ℕ). run limits (i + 1) (due (at_key i None no_pairs p)) x) (append_assoc r (stop ∷ []) rest)
        ∙ pairs_read ps r series rises p i None (i + 1) (stop ∷ rest) ready tt (omega (arith, l, room))
        ∙ steps_to (at_key i None ps p) (i + 1 + length r) stop Break (item_ended p i (map ps)) rest stops refl
        ∙ ap (λ (k : ℕ). run limits k (item_ended p i (map ps)) rest) e
    reads t o (under_tag n u h q is spelled) p i rest ready room =
        let l = length-append h q in
        let one : Admits limits p 1 = admits_one p (tagged n u) ready in
        let e : i + length h + length q ≡ i + length (h ++ q) = omega (arith, l) in
        ap (λ (x : List ℕ). run limits i (due p) x) (append_assoc h q rest)
        ∙ head_reads limits p Tag n h i (q ++ rest) (admits_head p Tag one) is
        ∙ reads u q spelled (at_content i n p) (i + length h) rest ((λ e. e), omega (arith, ready.1)) (omega (arith, l, room))
        ∙ ap (λ (k : ℕ). run limits k (item_ended p i (tagged n u)) rest) e
    reads t o is_false p i rest ready room = opens_to p i 0xf4 (beginning.Bool false) (item_ended p i (boolean false)) rest ready falses refl
    reads t o is_true p i rest ready room = opens_to p i 0xf5 (beginning.Bool true) (item_ended p i (boolean true)) rest ready trues refl

    pub series_reads : (ts : Terms) (r : List ℕ) → Series ts r → (p : Place) (at : ℕ) (all : Option ℕ) (i : ℕ) (rest : List ℕ) → Admits limits p (terms_depth ts + 1)
        → IfSome all (λ n. count ts ≤ n) → i + length r ≤ limits.octets
        → run limits i (filled_array p at all no_terms) (r ++ rest) ≡ run limits (i + length r) (filled_array p at all ts) rest
    series_reads ts r no_items p at all i rest ready within room = let e : i ≡ i + 0 = omega arith in ap (λ (k : ℕ). run limits k (filled_array p at all no_terms) rest) e
    series_reads ts r (item us u q o series spelled) p at all i rest ready within room =
        let l = length-append q o in
        let d = depth_plus us u in
        let e : i + length q + length o ≡ i + length (q ++ o) = omega (arith, l) in
        ap (λ (x : List ℕ). run limits i (filled_array p at all no_terms) x) (append_assoc q o rest)
        ∙ series_reads us q series p at all i (o ++ rest) (ready.0, omega (arith, d, ready.1)) (within_less all us u within) (omega (arith, l, room))
        ∙ ap (λ (σ : State). run limits (i + length q) σ (o ++ rest)) (cond-false _ _ _ (not_full all (count us) (below_all all us u within)))
        ∙ reads u o spelled (at_element at all us p) (i + length q) rest ((λ e. e), omega (arith, d, ready.1)) (omega (arith, l, room))
        ∙ given_element p at all us u (i + length q) (i + length q + length o) rest
        ∙ ap (λ (k : ℕ). run limits k (filled_array p at all (plus us u)) rest) e

    pub pairs_read : (ps : Pairs) (r : List ℕ) → PairSeries ps r → Rises ps → (p : Place) (at : ℕ) (all : Option ℕ) (i : ℕ) (rest : List ℕ) → Admits limits p (pairs_depth ps + 1)
        → IfSome all (λ n. pair_count ps ≤ n) → i + length r ≤ limits.octets
        → run limits i (filled_map p at all no_pairs) (r ++ rest) ≡ run limits (i + length r) (filled_map p at all ps) rest
    pairs_read ps r no_members rises p at all i rest ready within room = let e : i ≡ i + 0 = omega arith in ap (λ (k : ℕ). run limits k (filled_map p at all no_pairs) rest) e
    pairs_read ps r (member qs more k v u o q series key value puts) rises p at all i rest ready within room =
        let l1 = length-append u (o ++ q) in
        let l2 = length-append o q in
        let d = depth_puts k v qs more puts in
        let e : i + length u + length o + length q ≡ i + length (u ++ (o ++ q)) = omega (arith, l1, l2) in
        ap (λ (x : List ℕ). run limits i (filled_map p at all no_pairs) x) (append_assoc u (o ++ q) rest ∙ ap (λ (x : List ℕ). u ++ x) (append_assoc o q rest))
        ∙ pairs_read qs u series (rises_less k v qs more rises puts) p at all i (o ++ (q ++ rest)) (ready.0, omega (arith, d, ready.1)) (pairs_less all k v qs more puts within) (omega (arith, l1, room))
        ∙ ap (λ (σ : State). run limits (i + length u) σ (o ++ (q ++ rest))) (cond-false _ _ _ (not_full all (pair_count qs) (pairs_below all k v qs more puts within)))
        ∙ reads k o key (at_key at all qs p) (i + length u) (q ++ rest) ((λ e. e), omega (arith, d, ready.1)) (omega (arith, l1, l2, room))
        ∙ given_key p at all k v qs more (i + length u) (i + length u + length o) (q ++ rest) rises puts
        ∙ reads v q value (at_value at all qs k p) (i + length u + length o) rest ((λ e. e), omega (arith, d, ready.1)) (omega (arith, l1, l2, room))
        ∙ given_value p at all k v qs more (i + length u + length o) (i + length u + length o + length q) rest rises puts
        ∙ ap (λ (j : ℕ). run limits j (filled_map p at all more) rest) e
