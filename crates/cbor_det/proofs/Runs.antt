-- Runs of the code over pieces, as the machine's.
use Rattle.std.proofs.Common.{◌≡◌, ℕ, zero, suc, ◌+◌, ◌-◌, ◌*◌, ◌^◌, ◌<◌, ◌≤◌, List, [], ◌∷◌, ◌++◌, length, get_or, take, drop, refl, sym, ap, ◌∙◌, arith, true, false, append_assoc}
use Rattle.std.proofs.lemmas.List.{append-nil, take-append-drop, drop-drop, length-take-le, length-drop}
use Rattle.cbor_det.specs.declared.string_kind.StringKind.{StringKind}
use Rattle.cbor_det.specs.declared.limits.Limits.{Limits}
use Rattle.cbor_det.specs.declared.initial.Major.{Major}
use Rattle.cbor_det.specs.declared.initial.Initial.{Initial}
use Rattle.cbor_det.specs.Initial.{initial_of}
use Rattle.cbor_det.specs.Faults.{Place}
use Rattle.cbor_det.specs.Machine.{State, due, argument, content, string_ended, argued, begun, step, run, is_over}
use Rattle.cbor_det.specs.Frames.{ArgumentFits}
use Rattle.std.proofs.lemmas.Bool.{cond-true, cond-false}
use Rattle.cbor_det.proofs.Completes.{content_reads}

-- One octet.
pub one_step : (limits : Limits) (i : ℕ) (σ τ : State) (b : ℕ) (octets rest : List ℕ) → length octets ≡ 1 → b ≡ get_or octets 0 0 → is_over σ ≡ false → τ ≡ step limits i σ b
    → run limits i σ (octets ++ rest) ≡ run limits (i + length octets) τ rest
one_step limits i σ τ b [] rest one at going is = absurd (omega arith)
one_step limits i σ τ b (x ∷ []) rest one at going is =
    cond-false _ _ _ going ∙ ap (λ (y : ℕ). run limits (i + 1) (step limits i σ y) rest) (sym at) ∙ ap (λ (s : State). run limits (i + 1) s rest) (sym is)
one_step limits i σ τ b (x ∷ y ∷ xs) rest one at going is = absurd (omega arith)

pub due_begins : (limits : Limits) (i : ℕ) (p : Place) (x y : Initial) (b : ℕ) → y ≡ x → y ≡ initial_of b → begun limits i p x ≡ step limits i (due p) b
unfolding step
due_begins limits i p x y b is byte = ap (λ (z : Initial). begun limits i p z) (sym is ∙ byte)

pub due_step : (limits : Limits) (i : ℕ) (p : Place) (τ : State) (b : ℕ) (octets rest : List ℕ) → length octets ≡ 1 → b ≡ get_or octets 0 0 → τ ≡ step limits i (due p) b
    → run limits i (due p) (octets ++ rest) ≡ run limits (i + length octets) τ rest
due_step limits i p τ b octets rest one at is = one_step limits i (due p) τ b octets rest one at refl is

above_one : (left : ℕ) → 1 ≤ left → (left ≡ 1 → ⊥) → 1 ≤ left - 1
above_one left some ne = omega (arith, ne)

-- arguments

pub argument_ends : (limits : Limits) (i : ℕ) (p : Place) (at : ℕ) (m : Major) (left n b : ℕ) (σ : State) → left ≡ 1 → σ ≡ argued limits (i + 1) p at m (256 * n + b)
    → σ ≡ step limits i (argument p at m left n) b
unfolding step
argument_ends limits i p at m left n b σ one is = is ∙ ap (λ (k : ℕ). step limits i (argument p at m k n) b) (sym one)

pub argument_goes : (limits : Limits) (i : ℕ) (p : Place) (at : ℕ) (m : Major) (left n b : ℕ) → 1 ≤ left → (left ≡ 1 → ⊥) → argument p at m (left - 1) (256 * n + b) ≡ step limits i (argument p at m left n) b
unfolding step
argument_goes limits i p at m zero n b some ne = absurd (omega arith)
argument_goes limits i p at m (suc zero) n b some ne = absurd (ne refl)
argument_goes limits i p at m (suc (suc k)) n b some ne = let e : suc (suc k) - 1 ≡ suc k = omega arith in ap (λ (j : ℕ). argument p at m j (256 * n + b)) e

pub argument_fits : (left n b : ℕ) → ArgumentFits left n → b < 256 → (256 * n + b < 2 ^ 64) × (256 * n + b < 256 ^ (8 - (left - 1)))
argument_fits zero n b f small = let g = f.some in absurd (omega (arith, g))
argument_fits (suc zero) n b f small = let g = f.fits in (omega (arith, g), omega (arith, g))
argument_fits (suc (suc zero)) n b f small = let g = f.fits in (omega (arith, g), omega (arith, g))
argument_fits (suc (suc (suc zero))) n b f small = let g = f.fits in (omega (arith, g), omega (arith, g))
argument_fits (suc (suc (suc (suc zero)))) n b f small = let g = f.fits in (omega (arith, g), omega (arith, g))
argument_fits (suc (suc (suc (suc (suc zero))))) n b f small = let g = f.fits in (omega (arith, g), omega (arith, g))
argument_fits (suc (suc (suc (suc (suc (suc zero)))))) n b f small = let g = f.fits in (omega (arith, g), omega (arith, g))
argument_fits (suc (suc (suc (suc (suc (suc (suc zero))))))) n b f small = let g = f.fits in (omega (arith, g), omega (arith, g))
argument_fits (suc (suc (suc (suc (suc (suc (suc (suc zero)))))))) n b f small = let g = f.fits in (omega (arith, g), omega (arith, g))
argument_fits (suc (suc (suc (suc (suc (suc (suc (suc (suc k))))))))) n b f small = let g = f.most in absurd (omega (arith, g))

pub argument_next : (left n b : ℕ) → ArgumentFits left n → b < 256 → (left ≡ 1 → ⊥) → ArgumentFits (left - 1) (256 * n + b)
argument_next left n b f small ne =
    let some = f.some in
    let most = f.most in
    record { some = above_one left some ne; most = omega (arith, most); fits = (argument_fits left n b f small).1 }

-- strings

pub content_part : (limits : Limits) (p : Place) (at : ℕ) (kind : StringKind) (left i : ℕ) (came front rest : List ℕ) → length front < left
    → run limits i (content p at kind left came) (front ++ rest) ≡ run limits (i + length front) (content p at kind (left - length front) (came ++ front)) rest
unfolding step
content_part limits p at kind left i came [] rest lt =
    let e : i ≡ i + 0 = omega arith in
    let f : left ≡ left - 0 = omega arith in
    ap (λ (k : ℕ). run limits k (content p at kind left came) rest) e ∙ ap (λ (k : ℕ). run limits (i + 0) (content p at kind k came) rest) f
    ∙ ap (λ (s : List ℕ). run limits (i + 0) (content p at kind (left - 0) s) rest) (sym (append-nil came))
content_part limits p at kind zero i came (b ∷ bs) rest lt = absurd (omega arith)
content_part limits p at kind (suc zero) i came (b ∷ bs) rest lt = absurd (omega arith)
content_part limits p at kind (suc (suc k)) i came (b ∷ bs) rest lt =
    let e : i + 1 + length bs ≡ i + suc (length bs) = omega arith in
    let f : suc k - length bs ≡ suc (suc k) - suc (length bs) = omega arith in
    content_part limits p at kind (suc k) (i + 1) (came ++ b ∷ []) bs rest (omega arith)
    ∙ ap (λ (j : ℕ). run limits j (content p at kind (suc k - length bs) ((came ++ b ∷ []) ++ bs)) rest) e
    ∙ ap (λ (j : ℕ). run limits (i + suc (length bs)) (content p at kind j ((came ++ b ∷ []) ++ bs)) rest) f
    ∙ ap (λ (s : List ℕ). run limits (i + suc (length bs)) (content p at kind (suc (suc k) - suc (length bs)) s) rest) (append_assoc came (b ∷ []) bs)

content_all : (limits : Limits) (p : Place) (at : ℕ) (kind : StringKind) (left i : ℕ) (came front rest : List ℕ) → 1 ≤ left → length front ≡ left
    → run limits i (content p at kind left came) (front ++ rest) ≡ run limits (i + length front) (string_ended p at kind (came ++ front)) rest
content_all limits p at kind zero i came front rest some len = absurd (omega arith)
content_all limits p at kind (suc k) i came front rest some len = content_reads limits p at kind k i came front rest len

pub string_goes : (limits : Limits) (i : ℕ) (p : Place) (at : ℕ) (kind : StringKind) (left : ℕ) (came octets after rest : List ℕ)
    → after ≡ came ++ octets → length octets < left → run limits i (content p at kind left came) (octets ++ rest) ≡ run limits (i + length octets) (content p at kind (left - length octets) after) rest
string_goes limits i p at kind left came octets after rest joined lt =
    content_part limits p at kind left i came octets rest lt
    ∙ ap (λ (s : List ℕ). run limits (i + length octets) (content p at kind (left - length octets) s) rest) (sym joined)

pub string_stops : (limits : Limits) (i : ℕ) (p : Place) (at : ℕ) (kind : StringKind) (left : ℕ) (came octets after rest : List ℕ) (σ : State)
    → after ≡ came ++ octets → length octets ≡ left → 1 ≤ left → σ ≡ string_ended p at kind after → run limits i (content p at kind left came) (octets ++ rest) ≡ run limits (i + length octets) σ rest
string_stops limits i p at kind left came octets after rest σ joined all some ends =
    content_all limits p at kind left i came octets rest some all
    ∙ ap (λ (s : List ℕ). run limits (i + length octets) (string_ended p at kind s) rest) (sym joined)
    ∙ ap (λ (s : State). run limits (i + length octets) s rest) (sym ends)

-- the loop over a piece

pub front_is : (piece : List ℕ) (used count : ℕ) → take (used + count - used) (drop used piece) ≡ take count (drop used piece)
front_is piece used count = let e : used + count - used ≡ count = omega arith in ap (λ (n : ℕ). take n (drop used piece)) e

pub front_len : (piece : List ℕ) (used count : ℕ) → count ≤ length piece - used → length (take (used + count - used) (drop used piece)) ≡ count
front_len piece used count le =
    let l = length-drop used piece in
    ap (λ (xs : List ℕ). length xs) (front_is piece used count) ∙ length-take-le count (drop used piece) (omega (arith, l, le))

pub run_goes : (limits : Limits) (taken used count : ℕ) (start σ τ : State) (piece front : List ℕ) → front ≡ take count (drop used piece) → length front ≡ count
    → run limits taken start piece ≡ run limits (taken + used) σ (drop used piece)
    → ((rest : List ℕ) → run limits (taken + used) σ (front ++ rest) ≡ run limits (taken + used + length front) τ rest)
    → run limits taken start piece ≡ run limits (taken + (used + count)) τ (drop (used + count) piece)
run_goes limits taken used count start σ τ piece front is len was step =
    let e : taken + used + count ≡ taken + (used + count) = omega arith in
    was ∙ ap (λ (x : List ℕ). run limits (taken + used) σ x) (sym (take-append-drop count (drop used piece)))
    ∙ ap (λ (x : List ℕ). run limits (taken + used) σ (x ++ drop count (drop used piece))) (sym is) ∙ step (drop count (drop used piece))
    ∙ ap (λ (k : ℕ). run limits (taken + used + k) τ (drop count (drop used piece))) len
    ∙ ap (λ (k : ℕ). run limits k τ (drop count (drop used piece))) e
    ∙ ap (λ (x : List ℕ). run limits (taken + (used + count)) τ x) (drop-drop count used piece)

pub run_over : (limits : Limits) (i : ℕ) (σ : State) (rest : List ℕ) → is_over σ ≡ true → run limits i σ rest ≡ (σ, rest)
run_over limits i σ [] over = refl
run_over limits i σ (b ∷ bs) over = cond-true _ _ _ over
