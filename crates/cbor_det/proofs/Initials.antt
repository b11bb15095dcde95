-- Initial bytes of heads, and what they begin.
use Rattle.std.proofs.Common.{◌≡◌, ℕ, ◌+◌, ◌*◌, ◌/◌, ◌%◌, ◌<◌, ◌≤◌, true, refl, ap, ◌∙◌, arith}
use Rattle.std.proofs.lemmas.Bool.{lt-ltb, le-ltb, ne_eqb, cond-true, cond-false}
use Rattle.cbor_det.specs.declared.string_kind.StringKind.{StringKind}
use Rattle.cbor_det.specs.declared.string_kind.StringKind.TheVariants.{ByteString, TextString}
use Rattle.cbor_det.specs.declared.limits.Limits.{Limits}
use Rattle.cbor_det.specs.declared.initial.Major.{Major}
use Rattle.cbor_det.specs.declared.initial.Major.TheVariants.{Unsigned, Negative, String, Array, Map, Tag}
use Rattle.cbor_det.specs.declared.initial.Beginning.{Beginning}
use Rattle.cbor_det.specs.declared.initial.Beginning.TheVariants.{Argued, Argument, Chunks, Elements, Members, Bool as Boolean}
use Rattle.cbor_det.specs.declared.initial.Initial.{Initial}
use Rattle.cbor_det.specs.declared.initial.Initial.TheVariants.{Item}
use Rattle.cbor_det.specs.Initial.{number_of_major, head_of, of_type, initial_of}
use Rattle.cbor_det.specs.Faults.{Place, top, at_chunk, at_element, at_key, at_value, at_content, height, IsChunkPlace, Admits}
use Rattle.cbor_det.specs.Standing.{AdmitsHead, BeginsHead, one_more, two_more, four_more, eight_more}
use Rattle.cbor_det.specs.Machine.{begun, item_begun, opened, same_kind, string_head}

-- a head that is no indefinite length
type_head : (m : Major) (n : ℕ) → n < 31 → of_type (number_of_major m) n ≡ head_of m n
type_head Unsigned n lt = refl
type_head Negative n lt = refl
type_head (String ByteString) n lt = cond-false _ _ _ (ne_eqb n 31 (λ e. omega (arith, e)))
type_head (String TextString) n lt = cond-false _ _ _ (ne_eqb n 31 (λ e. omega (arith, e)))
type_head Array n lt = cond-false _ _ _ (ne_eqb n 31 (λ e. omega (arith, e)))
type_head Map n lt = cond-false _ _ _ (ne_eqb n 31 (λ e. omega (arith, e)))
type_head Tag n lt = refl

head_initial : (m : Major) (n : ℕ) → n < 31 → initial_of (32 * number_of_major m + n) ≡ head_of m n
unfolding initial_of
head_initial m n lt =
    let t : (32 * number_of_major m + n) / 32 ≡ number_of_major m = omega arith in
    let i : (32 * number_of_major m + n) % 32 ≡ n = omega arith in
    ap (λ (k : ℕ). of_type k ((32 * number_of_major m + n) % 32)) t ∙ ap (λ (k : ℕ). of_type (number_of_major m) k) i ∙ type_head m n lt

-- the initial byte of a head with its argument, and those of heads whose argument comes after them
pub direct_initial : (m : Major) (n : ℕ) → n < 24 → initial_of (32 * number_of_major m + n) ≡ Item (Argued m n)
direct_initial m n lt = head_initial m n (omega arith) ∙ cond-true _ _ _ (lt-ltb n 24 lt)

pub long_initial : (m : Major) (size lead : ℕ) → BeginsHead m size lead → initial_of lead ≡ Item (Argument m size)
long_initial m size lead one_more = head_initial m 24 (omega arith)
long_initial m size lead two_more = head_initial m 25 (omega arith)
long_initial m size lead four_more = head_initial m 26 (omega arith)
long_initial m size lead eight_more = head_initial m 27 (omega arith)

-- what begins with a head of this type
abbrev pub IsHeadOf : Major → Beginning → Type 0
IsHeadOf m (Argued other n) = other ≡ m
IsHeadOf m (Argument other left) = other ≡ m
IsHeadOf m x = ⊥

module _ (limits : Limits) where
  pub begun_item : (p : Place) (i : ℕ) (x : Initial) → ¬ IsChunkPlace p → begun limits i p x ≡ item_begun limits i p x
  unfolding begun
  begun_item top i x not = refl
  begun_item (at_chunk a k s p) i x not = absurd (not tt)
  begun_item (at_element a all ts p) i x not = refl
  begun_item (at_key a all ps p) i x not = refl
  begun_item (at_value a all ps k p) i x not = refl
  begun_item (at_content a n p) i x not = refl

  pub item_opens : (p : Place) (i : ℕ) (x : Beginning) → height p + 1 ≤ limits.depth → item_begun limits i p (Item x) ≡ opened limits i p x
  item_opens p i x room = cond-false _ _ _ (le-ltb limits.depth (height p + 1) room)

  pub begun_opens : (p : Place) (i : ℕ) (x : Beginning) → Admits limits p 1 → begun limits i p (Item x) ≡ opened limits i p x
  begun_opens p i x ready = begun_item p i (Item x) ready.0 ∙ item_opens p i x ready.1

  same_same : (kind : StringKind) → same_kind kind kind ≡ true
  same_same ByteString = refl
  same_same TextString = refl

  chunk_head : (kind : StringKind) (m : Major) (x : Beginning) → m ≡ String kind → IsHeadOf m x → string_head kind (Item x) ≡ true
  chunk_head kind m (Argued other n) e is = rw (is ∙ e) (same_same kind)
  chunk_head kind m (Argument other left) e is = rw (is ∙ e) (same_same kind)
  chunk_head kind m (Chunks k) e is = absurd is
  chunk_head kind m Elements e is = absurd is
  chunk_head kind m Members e is = absurd is
  chunk_head kind m (Boolean b) e is = absurd is

  pub head_opens : (p : Place) (i : ℕ) (m : Major) (x : Beginning) → AdmitsHead limits p m → IsHeadOf m x → begun limits i p (Item x) ≡ opened limits i p x
  unfolding begun
  head_opens top i m x ready is = item_opens top i x ready.1
  head_opens (at_chunk a k s p) i m x ready is = cond-true _ _ _ (chunk_head k m x ready is)
  head_opens (at_element a all ts p) i m x ready is = item_opens (at_element a all ts p) i x ready.1
  head_opens (at_key a all ps p) i m x ready is = item_opens (at_key a all ps p) i x ready.1
  head_opens (at_value a all ps k p) i m x ready is = item_opens (at_value a all ps k p) i x ready.1
  head_opens (at_content a n p) i m x ready is = item_opens (at_content a n p) i x ready.1
