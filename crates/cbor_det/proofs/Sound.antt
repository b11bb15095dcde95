-- What each state of the machine says of the octets so far.
use Rattle.std.proofs.Common.{◌≡◌, ℕ, zero, suc, ◌+◌, ◌*◌, ◌^◌, ◌<◌, ◌≤◌, ◌⊎◌, List, [], ◌∷◌, ◌++◌, length, refl, sym, ap, ◌∙◌, arith, subst, true, false, Option, Some, None, append_assoc, inl, inr, pos, negsuc}
use Rattle.std.specs.Prelude.{nat_lt}
use Rattle.std.specs.Option.{IfSome}
use Rattle.std.proofs.lemmas.Str.{IsUtf8-from_is_utf8, is_utf8-from_IsUtf8}
use Rattle.std.proofs.lemmas.List.{append-nil}
use Rattle.std.proofs.lemmas.Bool.{cond_both, ltb-true, ltb-false, eqb-true, eqb-false, both_ways}
use Rattle.cbor_det.specs.declared.string_kind.StringKind.{StringKind}
use Rattle.cbor_det.specs.declared.string_kind.StringKind.TheVariants.{ByteString, TextString}
use Rattle.cbor_det.specs.declared.limits.Limits.{Limits}
use Rattle.cbor_det.specs.declared.initial.Major.{Major}
use Rattle.cbor_det.specs.declared.initial.Major.TheVariants.{Unsigned, Negative, String, Array, Map, Tag}
use Rattle.cbor_det.specs.declared.initial.Beginning.{Beginning}
use Rattle.cbor_det.specs.declared.initial.Beginning.TheVariants as beginning
use Rattle.cbor_det.specs.declared.initial.Initial.{Initial}
use Rattle.cbor_det.specs.declared.initial.Initial.TheVariants.{Item, Break, Float, Simple, Malformed}
use Rattle.cbor_det.specs.Initial.{number_of_major, initial_of}
use Rattle.cbor_det.specs.Term.{Term, Terms, Pairs, integer, array, map, tagged, boolean, no_terms, no_pairs, count, pair_count, plus, depth, terms_depth, pairs_depth}
use Rattle.cbor_det.specs.Canonical.{canon, direct}
use Rattle.cbor_det.specs.Spelling.{IsHead, stop, opening, major_of, IsPart, string, no_chunks, chunk, Rises, PutsIn, Spelling, Series, PairSeries, unsigned, negative, definite_string, definite_array, indefinite_array, definite_map, indefinite_map, under_tag, is_false, is_true, no_items, item, no_members, member}
use Rattle.cbor_det.specs.Faults.{Place, top, at_chunk, at_element, at_key, at_value, at_content, height, IsChunkPlace, Admits, AdmitsString, Opens, counted, until_break, MoreAreDue, Upto, start, chunk_due, element_due, key_due, value_due, content_due, IsReserved, IsNeverOpen, TakesBreak, IsMalformed, Shows, malformed, float, simple, range, too_deep, not_utf8, doubled, long_string}
use Rattle.cbor_det.specs.Machine.{State, due, argument, content, whole, faulty, item_ended, is_full, is_held, insert, filled_array, filled_map, is_part, string_given, string_ended, string_begun, argued, opened, broken, item_begun}
use Rattle.cbor_det.specs.Standing.{AdmitsHead, InArgument, InContent, BeginsHead}
use Rattle.cbor_det.proofs.Told.{Tells, tells, no_stop, long_begins}
use Rattle.cbor_det.proofs.Order.{insert_puts, rises_insert, count_puts, depth_puts, held_is, held_not, free_of}
use Rattle.cbor_det.proofs.Lengths.{count_plus, depth_plus}
use Rattle.cbor_det.proofs.Completes.{string_depth, string_item, admits_head}
use Rattle.cbor_det.proofs.LongHeads.{long_some}

module _ (limits : Limits) where
  abbrev pub Holds : List ℕ → State → Type 0
  Holds o (due p) = Upto limits p o
  Holds o (argument p at m left n) = InArgument limits o p at m left n
  Holds o (content p at kind left s) = InContent limits o p at kind left s
  Holds o (whole t) = Spelling t o × (depth t ≤ limits.depth)
  Holds o (faulty k a) = Shows limits o k a

  pub moved : (σ : State) (o q : List ℕ) → o ≡ q → Holds q σ → Holds o σ
  moved σ o q e h = let P : List ℕ → Type 0 = λ x. Holds x σ in subst P (sym e) h

  full_array : (all : Option ℕ) (ts : Terms) (h r : List ℕ) → Opens 4 all h → is_full all (count ts) ≡ true → Series ts r → Spelling (array ts) (h ++ r)
  full_array all ts h r (counted n g is) full series =
      let e : count ts ≡ n = eqb-true (count ts) n full in
      let P : ℕ → Type 0 = λ k. IsHead 4 k g in
      definite_array ts g r (subst P (sym e) is) series
  full_array all ts h r until_break full series = absurd (both_ways false refl full)

  full_map : (all : Option ℕ) (ps : Pairs) (h r : List ℕ) → Opens 5 all h → is_full all (pair_count ps) ≡ true → PairSeries ps r → Rises ps → Spelling (map ps) (h ++ r)
  full_map all ps h r (counted n g is) full series rises =
      let e : pair_count ps ≡ n = eqb-true (pair_count ps) n full in
      let P : ℕ → Type 0 = λ k. IsHead 5 k g in
      definite_map ps g r rises (subst P (sym e) is) series
  full_map all ps h r until_break full series rises = absurd (both_ways false refl full)

  below_of : (n k : ℕ) → n ≤ k → (n ≡ k → ⊥) → n < k
  below_of n k le ne = omega (arith, ne)

  more_due : (all : Option ℕ) (n : ℕ) → IfSome all (λ k. n ≤ k) → is_full all n ≡ false → MoreAreDue all n
  more_due None n within free = tt
  more_due (Some k) n within free = let ne = eqb-false n k free in below_of n k within ne

  array_holds : (p : Place) (all : Option ℕ) (ts : Terms) (o h r : List ℕ) → Upto limits p o → Admits limits p (terms_depth ts + 1) → Opens 4 all h → Series ts r
      → IfSome all (λ n. count ts ≤ n) → ((s : List ℕ) → Spelling (array ts) s → Holds (o ++ s) (item_ended p (length o) (array ts)))
      → Holds (o ++ (h ++ r)) (filled_array p (length o) all ts)
  array_holds p all ts o h r upto ready opens series within given =
      cond_both (is_full all (count ts)) _ _ (Holds (o ++ (h ++ r)))
      (λ full. given (h ++ r) (full_array all ts h r opens full series))
      (λ free. element_due p all ts o h r upto ready opens series (more_due all (count ts) within free))

  map_holds : (p : Place) (all : Option ℕ) (ps : Pairs) (o h r : List ℕ) → Upto limits p o → Admits limits p (pairs_depth ps + 1) → Opens 5 all h → PairSeries ps r → Rises ps
      → IfSome all (λ n. pair_count ps ≤ n) → ((s : List ℕ) → Spelling (map ps) s → Holds (o ++ s) (item_ended p (length o) (map ps)))
      → Holds (o ++ (h ++ r)) (filled_map p (length o) all ps)
  map_holds p all ps o h r upto ready opens series rises within given =
      cond_both (is_full all (pair_count ps)) _ _ (Holds (o ++ (h ++ r)))
      (λ full. given (h ++ r) (full_map all ps h r opens full series rises))
      (λ free. key_due p all ps o h r upto ready opens series rises (more_due all (pair_count ps) within free))

  one_more_within : (all : Option ℕ) (ts : Terms) (t : Term) → MoreAreDue all (count ts) → IfSome all (λ n. count (plus ts t) ≤ n)
  one_more_within None ts t more = tt
  one_more_within (Some n) ts t more = let c = count_plus ts t in omega (arith, c, more)

  one_pair_within : (all : Option ℕ) (k v : Term) (ps more : Pairs) → PutsIn k v ps more → MoreAreDue all (pair_count ps) → IfSome all (λ n. pair_count more ≤ n)
  one_pair_within None k v ps more puts _ = tt
  one_pair_within (Some n) k v ps more puts less = let c = count_puts k v ps more puts in omega (arith, c, less)

  regroup : (o h x y s : List ℕ) → ((o ++ (h ++ x)) ++ y) ++ s ≡ o ++ (h ++ (x ++ (y ++ s)))
  regroup o h x y s = append_assoc (o ++ (h ++ x)) y s ∙ append_assoc o (h ++ x) (y ++ s) ∙ ap (λ (z : List ℕ). o ++ z) (append_assoc h x (y ++ s))

  -- An item that ended is taken where it stands.
  pub item_ended_holds : (p : Place) (q : List ℕ) → Upto limits p q → (s : List ℕ) (t : Term) (at : ℕ) → Admits limits p (depth t) → Spelling t s → at ≡ length q → Holds (q ++ s) (item_ended p at t)
  unfolding item_ended
  item_ended_holds p q start s t at ready spelled e = (spelled, omega (arith, ready.1))
  item_ended_holds p q (chunk_due r kind o u x upto admits _) s t at ready spelled e = absurd (ready.0 tt)
  item_ended_holds p q (element_due r all ts o h x upto admits opens series more) s t at ready spelled e =
      let d = depth_plus ts t in
      let deep : Admits limits r (terms_depth (plus ts t) + 1) = (admits.0, omega (arith, d, admits.1, ready.1)) in
      moved (filled_array r (length o) all (plus ts t)) ((o ++ (h ++ x)) ++ s) (o ++ (h ++ (x ++ s))) (append_assoc o (h ++ x) s ∙ ap (λ (y : List ℕ). o ++ y) (append_assoc h x s))
      (array_holds r all (plus ts t) o h (x ++ s) upto deep opens (item ts t x s series spelled) (one_more_within all ts t more)
      (λ y z. item_ended_holds r o upto y (array (plus ts t)) (length o) deep z refl))
  item_ended_holds p q (key_due r all ps o h x upto admits opens series rises more) s t at ready spelled e =
      let deep : Admits limits r (depth t + 1) = (admits.0, omega (arith, ready.1)) in
      let here : Upto limits (at_key (length o) all ps r) (o ++ (h ++ x)) = key_due r all ps o h x upto admits opens series rises more in
      cond_both (is_held ps (canon t)) _ _ (Holds ((o ++ (h ++ x)) ++ s))
      (λ held. let P : ℕ → Type 0 = λ a. Shows limits ((o ++ (h ++ x)) ++ s) 8 a in
      subst P (sym e) (doubled r (length o) all ps (o ++ (h ++ x)) s t here deep spelled (held_is ps (canon t) held)))
      (λ free. value_due r (length o) all ps t (o ++ (h ++ x)) s here deep spelled (held_not ps (canon t) free))
  item_ended_holds p q (value_due r map_at all ps k u y (key_due r1 all1 ps1 o h x upto admits opens series rises more) deep key free) s t at ready spelled e =
      let off = free_of ps (canon k) free in
      let puts = insert_puts k t ps off in
      let d = depth_puts k t ps (insert k t ps) puts in
      let down : Admits limits r (pairs_depth (insert k t ps) + 1) = (admits.0, omega (arith, d, admits.1, ready.1, deep.1)) in
      moved (filled_map r (length o) all (insert k t ps)) (((o ++ (h ++ x)) ++ y) ++ s) (o ++ (h ++ (x ++ (y ++ s)))) (regroup o h x y s)
      (map_holds r all (insert k t ps) o h (x ++ (y ++ s)) upto down opens (member ps (insert k t ps) k t x y s series key spelled puts)
      (rises_insert k t ps rises off) (one_pair_within all k t ps (insert k t ps) puts more)
      (λ z w. item_ended_holds r o upto z (map (insert k t ps)) (length o) down w refl))
  item_ended_holds p q (content_due r n o h upto admits is) s t at ready spelled e =
      moved (item_ended r (length o) (tagged n t)) ((o ++ h) ++ s) (o ++ (h ++ s)) (append_assoc o h s)
      (item_ended_holds r o upto (h ++ s) (tagged n t) (length o) (admits.0, omega (arith, ready.1)) (under_tag n t h s is spelled) refl)

  -- strings

  chunk_holds : (a : ℕ) (k : StringKind) (t : List ℕ) (p : Place) (q : List ℕ) → Upto limits (at_chunk a k t p) q → (s h : List ℕ) → IsPart k s → IsHead (major_of k) (length s) h
      → Upto limits (at_chunk a k (t ++ s) p) (q ++ (h ++ s))
  chunk_holds a k t p q (chunk_due r kind o u x upto admits parts) s h part is =
      let e : (o ++ opening (major_of k) ∷ x) ++ (h ++ s) ≡ o ++ opening (major_of k) ∷ ((x ++ h) ++ s) =
      append_assoc o (opening (major_of k) ∷ x) (h ++ s) ∙ ap (λ (z : List ℕ). o ++ opening (major_of k) ∷ z) (sym (append_assoc x h s)) in
      let P : List ℕ → Type 0 = λ z. Upto limits (at_chunk (length o) k (u ++ s) r) z in
      subst P (sym e) (chunk_due r k o (u ++ s) ((x ++ h) ++ s) upto admits (chunk u s x h parts part is))

  same_string : (k kind : StringKind) → String kind ≡ String k → kind ≡ k
  same_string k kind e = cc

  item_given : (p : Place) (q : List ℕ) (kind : StringKind) (s h : List ℕ) (at : ℕ) → Upto limits p q → Admits limits p 1 → IsPart kind s → IsHead (major_of kind) (length s) h → at ≡ length q
      → Holds (q ++ (h ++ s)) (string_given p at kind s)
  item_given p q kind s h at upto ready part is e =
      let P : State → Type 0 = λ σ. Holds (q ++ (h ++ s)) σ in
      let d = string_depth kind s in
      subst P (sym (string_item limits p at kind s ready.0))
      (item_ended_holds p q upto (h ++ s) (string kind s) at (ready.0, omega (arith, d, ready.1)) (definite_string kind s h part is) e)

  given_holds : (p : Place) (q : List ℕ) (kind : StringKind) (s h : List ℕ) (at : ℕ) → Upto limits p q → AdmitsHead limits p (String kind) → IsPart kind s → IsHead (major_of kind) (length s) h → at ≡ length q
      → Holds (q ++ (h ++ s)) (string_given p at kind s)
  given_holds (at_chunk a k t p) q kind s h at upto ready part is e =
      let f = same_string k kind ready in
      let P : StringKind → Type 0 = λ x. IsPart x s in
      let R : StringKind → Type 0 = λ x. IsHead (major_of x) (length s) h in
      chunk_holds a k t p q upto s h (subst P f part) (subst R f is)
  given_holds top q kind s h at upto ready part is e = item_given top q kind s h at upto ready part is e
  given_holds (at_element a all ts p) q kind s h at upto ready part is e = item_given (at_element a all ts p) q kind s h at upto ready part is e
  given_holds (at_key a all ps p) q kind s h at upto ready part is e = item_given (at_key a all ps p) q kind s h at upto ready part is e
  given_holds (at_value a all ps k p) q kind s h at upto ready part is e = item_given (at_value a all ps k p) q kind s h at upto ready part is e
  given_holds (at_content a n p) q kind s h at upto ready part is e = item_given (at_content a n p) q kind s h at upto ready part is e

  head_admits : (p : Place) (kind : StringKind) → AdmitsHead limits p (String kind) → AdmitsString limits p kind
  head_admits (at_chunk a k t p) kind ready = sym (same_string k kind ready)
  head_admits top kind ready = ready
  head_admits (at_element a all ts p) kind ready = ready
  head_admits (at_key a all ps p) kind ready = ready
  head_admits (at_value a all ps k p) kind ready = ready
  head_admits (at_content a n p) kind ready = ready

  part_of : (kind : StringKind) (s : List ℕ) → is_part kind s ≡ true → IsPart kind s
  part_of ByteString s e = tt
  part_of TextString s e = IsUtf8-from_is_utf8 s e

  bad_part : (kind : StringKind) (p : Place) (q s h : List ℕ) → Upto limits p q → AdmitsHead limits p (String kind) → IsHead (major_of kind) (length s) h → is_part kind s ≡ false
      → Shows limits (q ++ (h ++ s)) 7 (length q)
  bad_part ByteString p q s h upto ready is e = absurd (both_ways true e refl)
  bad_part TextString p q s h upto ready is e = not_utf8 p q h s upto (head_admits p TextString ready) is (λ u. both_ways _ e (is_utf8-from_IsUtf8 s u))

  pub ended_holds : (p : Place) (q : List ℕ) (kind : StringKind) (s h : List ℕ) (at : ℕ) → Upto limits p q → AdmitsHead limits p (String kind) → IsHead (major_of kind) (length s) h → at ≡ length q
      → Holds (q ++ (h ++ s)) (string_ended p at kind s)
  unfolding string_ended
  ended_holds p q kind s h at upto ready is e =
      cond_both (is_part kind s) _ _ (Holds (q ++ (h ++ s)))
      (λ good. given_holds p q kind s h at upto ready (part_of kind s good) is e)
      (λ bad. let P : ℕ → Type 0 = λ a. Shows limits (q ++ (h ++ s)) 7 a in subst P (sym e) (bad_part kind p q s h upto ready is bad))

  begun_string : (p : Place) (q : List ℕ) (kind : StringKind) (n : ℕ) (h : List ℕ) → Upto limits p q → AdmitsHead limits p (String kind) → IsHead (major_of kind) n h
      → length q + length h + n ≤ limits.octets → Holds (q ++ h) (string_begun p (length q) kind n)
  begun_string p q kind zero h upto ready is room =
      moved (string_ended p (length q) kind []) (q ++ h) (q ++ (h ++ [])) (ap (λ (z : List ℕ). q ++ z) (sym (append-nil h))) (ended_holds p q kind [] h (length q) upto ready is refl)
  begun_string p q kind (suc n) h upto ready is room =
      record { before = q; h = h; all = suc n; upto = upto; ready = ready; is = is; room = room; parts = ap (λ (z : List ℕ). q ++ z) (sym (append-nil h)); at_is = refl; len = omega arith; some = omega arith }

  -- heads

  no_string : (p : Place) (m : Major) → ((kind : StringKind) → m ≡ String kind → ⊥) → AdmitsHead limits p m → Admits limits p 1
  no_string top m ne ready = ready
  no_string (at_chunk a k t p) m ne ready = absurd (ne k ready)
  no_string (at_element a all ts p) m ne ready = ready
  no_string (at_key a all ps p) m ne ready = ready
  no_string (at_value a all ps k p) m ne ready = ready
  no_string (at_content a n p) m ne ready = ready

  unsigned_not : (kind : StringKind) → Unsigned ≡ String kind → ⊥
  unsigned_not kind e = cc

  negative_not : (kind : StringKind) → Negative ≡ String kind → ⊥
  negative_not kind e = cc

  array_not : (kind : StringKind) → Array ≡ String kind → ⊥
  array_not kind e = cc

  map_not : (kind : StringKind) → Map ≡ String kind → ⊥
  map_not kind e = cc

  tag_not : (kind : StringKind) → Tag ≡ String kind → ⊥
  tag_not kind e = cc

  pub argued_holds : (p : Place) (q h : List ℕ) (m : Major) (n : ℕ) → Upto limits p q → AdmitsHead limits p m → IsHead (number_of_major m) n h
      → Holds (q ++ h) (argued limits (length q + length h) p (length q) m n)
  unfolding argued
  argued_holds p q h Unsigned n upto ready is =
      let one = no_string p Unsigned unsigned_not ready in
      cond_both (nat_lt n (2 ^ 63)) _ _ (Holds (q ++ h))
      (λ e. item_ended_holds p q upto h (integer (pos n)) (length q) one (unsigned n h (ltb-true n (2 ^ 63) e) is) refl)
      (λ e. range p q n h 0 upto one (omega arith) is (ltb-false n (2 ^ 63) e))
  argued_holds p q h Negative n upto ready is =
      let one = no_string p Negative negative_not ready in
      cond_both (nat_lt n (2 ^ 63)) _ _ (Holds (q ++ h))
      (λ e. item_ended_holds p q upto h (integer (negsuc n)) (length q) one (negative n h (ltb-true n (2 ^ 63) e) is) refl)
      (λ e. range p q n h 1 upto one (omega arith) is (ltb-false n (2 ^ 63) e))
  argued_holds p q h (String kind) n upto ready is =
      cond_both (nat_lt limits.octets (length q + length h + n)) _ _ (Holds (q ++ h))
      (λ e. long_string p q h kind n upto (head_admits p kind ready) is (ltb-true limits.octets (length q + length h + n) e))
      (λ e. begun_string p q kind n h upto ready is (ltb-false limits.octets (length q + length h + n) e))
  argued_holds p q h Array n upto ready is =
      let one = no_string p Array array_not ready in
      moved (filled_array p (length q) (Some n) no_terms) (q ++ h) (q ++ (h ++ [])) (ap (λ (z : List ℕ). q ++ z) (sym (append-nil h)))
      (array_holds p (Some n) no_terms q h [] upto one (counted n h is) no_items (omega arith) (λ s z. item_ended_holds p q upto s (array no_terms) (length q) one z refl))
  argued_holds p q h Map n upto ready is =
      let one = no_string p Map map_not ready in
      moved (filled_map p (length q) (Some n) no_pairs) (q ++ h) (q ++ (h ++ [])) (ap (λ (z : List ℕ). q ++ z) (sym (append-nil h)))
      (map_holds p (Some n) no_pairs q h [] upto one (counted n h is) no_members tt (omega arith) (λ s z. item_ended_holds p q upto s (map no_pairs) (length q) one z refl))
  argued_holds p q h Tag n upto ready is = content_due p n q h upto (no_string p Tag tag_not ready) is

  -- the initial byte of a head
  pub direct_head : (m : Major) (n b : ℕ) → (b ≡ 32 * number_of_major m + n) × (n < 24) → IsHead (number_of_major m) n (b ∷ [])
  direct_head m n b t = record { form = direct; fits = t.1; is = ap (λ (x : ℕ). x ∷ []) t.0 }

  pub starts_argument : (p : Place) (q : List ℕ) (b : ℕ) (m : Major) (left : ℕ) → Upto limits p q → AdmitsHead limits p m → BeginsHead m left b → InArgument limits (q ++ b ∷ []) p (length q) m left 0
  starts_argument p q b m left upto ready long =
      record { before = q; lead = b; came = []; size = left; upto = upto; ready = ready; begins = long; parts = refl; at_is = refl; len = omega arith; some = long_some m left b long; stand_for = refl; are = λ i. omega arith }

  opened_holds : (p : Place) (q : List ℕ) (b : ℕ) (x : Beginning) → Upto limits p q → Admits limits p 1 → Tells b (Item x) → Holds (q ++ b ∷ []) (opened limits (length q) p x)
  unfolding opened
  opened_holds p q b (beginning.Argued m n) upto ready t = argued_holds p q (b ∷ []) m n upto (admits_head limits p m ready) (direct_head m n b t)
  opened_holds p q b (beginning.Argument m left) upto ready t = starts_argument p q b m left upto (admits_head limits p m ready) (long_begins m left b t)
  opened_holds p q b (beginning.Chunks kind) upto ready t =
      moved (due (at_chunk (length q) kind [] p)) (q ++ b ∷ []) (q ++ opening (major_of kind) ∷ []) (ap (λ (x : ℕ). q ++ x ∷ []) t) (chunk_due p kind q [] [] upto ready no_chunks)
  opened_holds p q b beginning.Elements upto ready t =
      moved (due (at_element (length q) None no_terms p)) (q ++ b ∷ []) (q ++ (opening 4 ∷ [] ++ [])) (ap (λ (x : ℕ). q ++ x ∷ []) t) (element_due p None no_terms q (opening 4 ∷ []) [] upto ready until_break no_items tt)
  opened_holds p q b beginning.Members upto ready t =
      moved (due (at_key (length q) None no_pairs p)) (q ++ b ∷ []) (q ++ (opening 5 ∷ [] ++ [])) (ap (λ (x : ℕ). q ++ x ∷ []) t) (key_due p None no_pairs q (opening 5 ∷ []) [] upto ready until_break no_members tt tt)
  opened_holds p q b (beginning.Bool false) upto ready t =
      moved (item_ended p (length q) (boolean false)) (q ++ b ∷ []) (q ++ 0xf4 ∷ []) (ap (λ (x : ℕ). q ++ x ∷ []) t) (item_ended_holds p q upto (0xf4 ∷ []) (boolean false) (length q) ready is_false refl)
  opened_holds p q b (beginning.Bool true) upto ready t =
      moved (item_ended p (length q) (boolean true)) (q ++ b ∷ []) (q ++ 0xf5 ∷ []) (ap (λ (x : ℕ). q ++ x ∷ []) t) (item_ended_holds p q upto (0xf5 ∷ []) (boolean true) (length q) ready is_true refl)

  -- where an item may stand
  malformed_at : (p : Place) (b : ℕ) → ¬ IsChunkPlace p → IsReserved b ⊎ IsNeverOpen b ⊎ ((b ≡ stop) × ¬ TakesBreak p) → IsMalformed p b
  malformed_at top b not is = is
  malformed_at (at_chunk a k t p) b not is = absurd (not tt)
  malformed_at (at_element a all ts p) b not is = is
  malformed_at (at_key a all ps p) b not is = is
  malformed_at (at_value a all ps k p) b not is = is
  malformed_at (at_content a n p) b not is = is

  told_malformed : (p : Place) (b : ℕ) → ¬ IsChunkPlace p → b < 256 → IsReserved b ⊎ IsNeverOpen b ⊎ (256 ≤ b) → IsMalformed p b
  told_malformed p b not small (inl r) = malformed_at p b not (inl r)
  told_malformed p b not small (inr (inl r)) = malformed_at p b not (inr (inl r))
  told_malformed p b not small (inr (inr r)) = absurd (omega arith)

  break_shows : (p : Place) (q : List ℕ) (b : ℕ) → Upto limits p q → ¬ IsChunkPlace p → b ≡ stop → ¬ TakesBreak p → Shows limits (q ++ b ∷ []) 2 (length q)
  break_shows p q b upto not is takes = malformed p q b upto (malformed_at p b not (inr (inr (is, takes))))

  broken_array : (a : ℕ) (ts : Terms) (p : Place) (q : List ℕ) (b : ℕ) → Upto limits (at_element a None ts p) q → b ≡ stop → Holds (q ++ b ∷ []) (item_ended p a (array ts))
  broken_array a ts p q b (element_due r all us o h x upto admits until_break series more) is =
      moved (item_ended r (length o) (array us)) ((o ++ (opening 4 ∷ [] ++ x)) ++ b ∷ []) (o ++ (opening 4 ∷ (x ++ stop ∷ [])))
      (append_assoc o (opening 4 ∷ x) (b ∷ []) ∙ ap (λ (z : ℕ). o ++ (opening 4 ∷ (x ++ z ∷ []))) is)
      (item_ended_holds r o upto (opening 4 ∷ (x ++ stop ∷ [])) (array us) (length o) admits (indefinite_array us x series) refl)

  broken_map : (a : ℕ) (ps : Pairs) (p : Place) (q : List ℕ) (b : ℕ) → Upto limits (at_key a None ps p) q → b ≡ stop → Holds (q ++ b ∷ []) (item_ended p a (map ps))
  broken_map a ps p q b (key_due r all us o h x upto admits until_break series rises more) is =
      moved (item_ended r (length o) (map us)) ((o ++ (opening 5 ∷ [] ++ x)) ++ b ∷ []) (o ++ (opening 5 ∷ (x ++ stop ∷ [])))
      (append_assoc o (opening 5 ∷ x) (b ∷ []) ∙ ap (λ (z : ℕ). o ++ (opening 5 ∷ (x ++ z ∷ []))) is)
      (item_ended_holds r o upto (opening 5 ∷ (x ++ stop ∷ [])) (map us) (length o) admits (indefinite_map us x rises series) refl)

  not_none : (n : ℕ) → Some n ≡ None → ⊥
  not_none n e = cc

  broken_holds : (p : Place) (q : List ℕ) (b : ℕ) → Upto limits p q → ¬ IsChunkPlace p → b ≡ stop → Holds (q ++ b ∷ []) (broken (length q) p)
  unfolding broken
  broken_holds top q b upto not is = break_shows top q b upto not is (λ e. e)
  broken_holds (at_chunk a k t p) q b upto not is = absurd (not tt)
  broken_holds (at_element a None ts p) q b upto not is = broken_array a ts p q b upto is
  broken_holds (at_element a (Some n) ts p) q b upto not is = break_shows (at_element a (Some n) ts p) q b upto not is (not_none n)
  broken_holds (at_key a None ps p) q b upto not is = broken_map a ps p q b upto is
  broken_holds (at_key a (Some n) ps p) q b upto not is = break_shows (at_key a (Some n) ps p) q b upto not is (not_none n)
  broken_holds (at_value a all ps k p) q b upto not is = break_shows (at_value a all ps k p) q b upto not is (λ e. e)
  broken_holds (at_content a n p) q b upto not is = break_shows (at_content a n p) q b upto not is (λ e. e)

  pub item_holds : (p : Place) (q : List ℕ) (b : ℕ) (x : Initial) → Upto limits p q → ¬ IsChunkPlace p → b < 256 → initial_of b ≡ x → Holds (q ++ b ∷ []) (item_begun limits (length q) p x)
  item_holds p q b Malformed upto not small is = malformed p q b upto (told_malformed p b not small (tells b Malformed is))
  item_holds p q b Break upto not small is = broken_holds p q b upto not (tells b Break is)
  item_holds p q b Float upto not small is = float p q b upto (tells b Float is)
  item_holds p q b Simple upto not small is = simple p q b upto (tells b Simple is)
  item_holds p q b (Item x) upto not small is =
      cond_both (nat_lt limits.depth (height p + 1)) _ _ (Holds (q ++ b ∷ []))
      (λ e. too_deep p q b upto (not, ltb-true limits.depth (height p + 1) e, no_stop b x is))
      (λ e. opened_holds p q b x upto (not, ltb-false limits.depth (height p + 1) e) (tells b (Item x) is))
