-- What an initial byte reports of its octet, and what an octet is by the table of faults: both are
-- tried for every octet.
use Rattle.std.proofs.Common.{◌≡◌, ◌≢◌, ℕ, ◌+◌, ◌*◌, ◌/◌, ◌%◌, ◌<◌, ◌≤◌, ◌⊎◌, Bool, true, false, refl, sym, ap, ◌∙◌, arith, inl, inr, subst}
use Rattle.std.proofs.lemmas.Bool.{agree_below, cond-false, ne_eqb, cases_lt}
use Rattle.cbor_det.specs.declared.string_kind.StringKind.{StringKind}
use Rattle.cbor_det.specs.declared.string_kind.StringKind.TheVariants.{ByteString, TextString}
use Rattle.cbor_det.specs.declared.initial.Major.{Major}
use Rattle.cbor_det.specs.declared.initial.Beginning.{Beginning}
use Rattle.cbor_det.specs.declared.initial.Beginning.TheVariants.{Argued, Argument, Chunks, Elements, Members, Bool as Boolean}
use Rattle.cbor_det.specs.declared.initial.Initial.{Initial}
use Rattle.cbor_det.specs.declared.initial.Initial.TheVariants.{Item, Break, Float, Simple, Malformed}
use Rattle.cbor_det.specs.Initial.{number_of_major, of_type, initial_of}
use Rattle.cbor_det.specs.Spelling.{stop, opening, major_of}
use Rattle.cbor_det.specs.Faults.{IsReserved, IsNeverOpen, IsNoChunk, IsFloat, IsSimple, information, major}
use Rattle.cbor_det.specs.Machine.{string_head}
use Rattle.cbor_det.specs.Standing.{BeginsHead, one_more, two_more, four_more, eight_more}
use Rattle.cbor_det.proofs.Tests.{Test, never, fails, same, below, at_most, other, like, both, either, implies, each_octet}

-- the head of this type with that many octets of argument after it
abbrev pub IsLong : Major → ℕ → ℕ → Type 0
IsLong m left b =
    ((left ≡ 1) × (b ≡ 32 * number_of_major m + 24)) ⊎ ((left ≡ 2) × (b ≡ 32 * number_of_major m + 25))
    ⊎ ((left ≡ 4) × (b ≡ 32 * number_of_major m + 26)) ⊎ ((left ≡ 8) × (b ≡ 32 * number_of_major m + 27))

abbrev pub Tells : ℕ → Initial → Type 0
Tells b (Item (Argued m n)) = (b ≡ 32 * number_of_major m + n) × (n < 24)
Tells b (Item (Argument m left)) = IsLong m left b
Tells b (Item (Chunks kind)) = b ≡ opening (major_of kind)
Tells b (Item Elements) = b ≡ opening 4
Tells b (Item Members) = b ≡ opening 5
Tells b (Item (Boolean false)) = b ≡ 0xf4
Tells b (Item (Boolean true)) = b ≡ 0xf5
Tells b Break = b ≡ stop
Tells b Float = IsFloat b
Tells b Simple = IsSimple b
Tells b Malformed = IsReserved b ⊎ IsNeverOpen b ⊎ (256 ≤ b)

-- a fault of this kind or of a lower one, wherever it stands
abbrev pub IsLow : ℕ → Initial → Type 0
IsLow kind Malformed = 2 ≤ kind
IsLow kind Float = 3 ≤ kind
IsLow kind Simple = 4 ≤ kind
IsLow kind Break = ⊥
IsLow kind (Item x) = ⊥

-- the head of a chunk of this kind, or the break
abbrev pub is_in_string : StringKind → Initial → Bool
is_in_string kind Break = true
is_in_string kind x = string_head kind x

abbrev pub Chunked : StringKind → ℕ → Initial → Type 0
Chunked kind b x = (IsNoChunk kind b → is_in_string kind x ≡ false) × (is_in_string kind x ≡ false → IsNoChunk kind b)

-- ---- their tests

abbrev reserved : (b : ℕ) → Test (IsReserved b)
reserved b = both (at_most 28 (information b)) (at_most (information b) 30)

abbrev never_open : (b : ℕ) → Test (IsNeverOpen b)
never_open b = both (same (information b) 31) (either (same (major b) 0) (either (same (major b) 1) (same (major b) 6)))

abbrev float : (b : ℕ) → Test (IsFloat b)
float b = both (at_most 0xf9 b) (at_most b 0xfb)

abbrev simple : (b : ℕ) → Test (IsSimple b)
simple b = like (λ h. (h.0, h.1.0, h.1.1.0, h.1.1.1)) (λ h. (h.0, (h.1, (h.2, h.3))))
    (both (same (major b) 7) (both (other (same b 0xf4)) (both (other (same b 0xf5)) (other (same b stop)))))

abbrev no_chunk : (kind : StringKind) (b : ℕ) → Test (IsNoChunk kind b)
no_chunk kind b = both (other (same b stop)) (either (other (same (major b) (major_of kind))) (at_most 28 (information b)))

abbrev long : (m : Major) (left b : ℕ) → Test (IsLong m left b)
long m left b =
    let size : (k n : ℕ) → Test ((left ≡ k) × (b ≡ 32 * number_of_major m + n)) = λ k n. both (same left k) (same b (32 * number_of_major m + n)) in
    either (size 1 24) (either (size 2 25) (either (size 4 26) (size 8 27)))

abbrev told : (b : ℕ) (x : Initial) → Test (Tells b x)
told b (Item (Argued m n)) = both (same b (32 * number_of_major m + n)) (below n 24)
told b (Item (Argument m left)) = long m left b
told b (Item (Chunks kind)) = same b (opening (major_of kind))
told b (Item Elements) = same b (opening 4)
told b (Item Members) = same b (opening 5)
told b (Item (Boolean false)) = same b 0xf4
told b (Item (Boolean true)) = same b 0xf5
told b Break = same b stop
told b Float = float b
told b Simple = simple b
told b Malformed = either (reserved b) (either (never_open b) (at_most 256 b))

abbrev low : (kind : ℕ) (x : Initial) → Test (IsLow kind x)
low kind Malformed = at_most 2 kind
low kind Float = at_most 3 kind
low kind Simple = at_most 4 kind
low kind Break = never
low kind (Item x) = never

abbrev chunked : (kind : StringKind) (b : ℕ) (x : Initial) → Test (Chunked kind b x)
chunked kind b x =
    both (implies (no_chunk kind b) (fails (is_in_string kind x))) (implies (fails (is_in_string kind x)) (no_chunk kind b))

-- ---- tried for every octet

no_type : (t n : ℕ) → 8 ≤ t → of_type t n ≡ Malformed
no_type t n big =
    let no : (k : ℕ) → k < 8 → t ≡ k → ⊥ = λ k lt e. omega (arith, lt, e) in
    cond-false _ _ _ (ne_eqb t 0 (no 0 (omega arith))) ∙ cond-false _ _ _ (ne_eqb t 1 (no 1 (omega arith))) ∙ cond-false _ _ _ (ne_eqb t 2 (no 2 (omega arith)))
    ∙ cond-false _ _ _ (ne_eqb t 3 (no 3 (omega arith))) ∙ cond-false _ _ _ (ne_eqb t 4 (no 4 (omega arith))) ∙ cond-false _ _ _ (ne_eqb t 5 (no 5 (omega arith)))
    ∙ cond-false _ _ _ (ne_eqb t 6 (no 6 (omega arith))) ∙ cond-false _ _ _ (ne_eqb t 7 (no 7 (omega arith)))

-- What passes for every octet, and for a larger number, holds of each.
each : (P : ℕ → Initial → Type 0) (test : (b : ℕ) → Test (P b (initial_of b))) → agree_below (λ b. (test b).passes) (λ b. true) 256 ≡ true
    → ((b : ℕ) → 256 ≤ b → P b Malformed) → (b : ℕ) (x : Initial) → initial_of b ≡ x → P b x
unfolding initial_of
each P test all large b x is =
    let Q : Initial → Type 0 = P b in
    subst Q is (elim (cases_lt b 256) [
      | inl small ↦ each_octet (λ k. P k (initial_of k)) test all b small
      | inr big ↦ subst Q (sym (no_type (b / 32) (b % 32) (omega arith))) (large b big)
    ])

pub tells : (b : ℕ) (x : Initial) → initial_of b ≡ x → Tells b x
unfolding initial_of
tells = each Tells (λ b. told b (initial_of b)) refl (λ b big. inr (inr big))

pub malformed_low : (b : ℕ) (x : Initial) → initial_of b ≡ x → IsReserved b ⊎ IsNeverOpen b → IsLow 2 x
unfolding initial_of
malformed_low =
    each (λ b x. IsReserved b ⊎ IsNeverOpen b → IsLow 2 x) (λ b. implies (either (reserved b) (never_open b)) (low 2 (initial_of b))) refl (λ b big is. omega arith)

pub float_low : (b : ℕ) (x : Initial) → initial_of b ≡ x → IsFloat b → IsLow 3 x
unfolding initial_of
float_low = each (λ b x. IsFloat b → IsLow 3 x) (λ b. implies (float b) (low 3 (initial_of b))) refl (λ b big is. omega arith)

pub simple_low : (b : ℕ) (x : Initial) → initial_of b ≡ x → IsSimple b → IsLow 4 x
unfolding initial_of
simple_low = each (λ b x. IsSimple b → IsLow 4 x) (λ b. implies (simple b) (low 4 (initial_of b))) refl (λ b big is. omega arith)

large_no : (kind : StringKind) (b : ℕ) → 256 ≤ b → IsNoChunk kind b
large_no ByteString b big = ((λ e. omega (arith, e)), inl (λ e. omega (arith, e)))
large_no TextString b big = ((λ e. omega (arith, e)), inl (λ e. omega (arith, e)))

pub chunk_told : (kind : StringKind) (b : ℕ) (x : Initial) → initial_of b ≡ x → Chunked kind b x
unfolding initial_of
chunk_told ByteString = each (Chunked ByteString) (λ b. chunked ByteString b (initial_of b)) refl (λ b big. ((λ is. refl), λ e. large_no ByteString b big))
chunk_told TextString = each (Chunked TextString) (λ b. chunked TextString b (initial_of b)) refl (λ b big. ((λ is. refl), λ e. large_no TextString b big))

-- A head is no break.
pub no_stop : (b : ℕ) (x : Beginning) → initial_of b ≡ Item x → b ≢ stop
unfolding initial_of
no_stop b x is e = let f : Break ≡ Item x = ap (λ (k : ℕ). initial_of k) (sym e) ∙ is in cc

pub long_begins : (m : Major) (left b : ℕ) → IsLong m left b → BeginsHead m left b
long_begins m left b (inl is) = rw (is.0, is.1) one_more
long_begins m left b (inr (inl is)) = rw (is.0, is.1) two_more
long_begins m left b (inr (inr (inl is))) = rw (is.0, is.1) four_more
long_begins m left b (inr (inr (inr is))) = rw (is.0, is.1) eight_more
