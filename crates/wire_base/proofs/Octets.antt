-- Octets that move from the start of a list.
use Rattle.std.proofs.Common.{◌≡◌, ℕ, ◌+◌, ◌<◌, min, List, [], ◌++◌, length, take, drop, sym, ap, ◌∙◌, arith}
use Rattle.std.proofs.lemmas.List.{take_at, take-append-drop, nil_from_length}
use Rattle.std.proofs.lemmas.List.{drop-drop}

-- What was copied to the prefix of a buffer, and what is left after it, are what was there.
pub moved : (octets copied tail : List ℕ) (place count : ℕ) → copied ≡ take count (drop place octets) → length copied ≡ count
    → drop place octets ≡ take count (copied ++ tail) ++ drop (place + count) octets
moved octets copied tail place count is len =
    sym (take-append-drop count (drop place octets))
    ∙ ap (λ (front : List ℕ). front ++ drop count (drop place octets)) (sym is ∙ sym (take_at copied tail count len))
    ∙ ap (λ (rest : List ℕ). take count (copied ++ tail) ++ rest) (drop-drop count place octets)

-- A move that moved nothing into a buffer with room found nothing.
pub nothing : (room : ℕ) (left : List ℕ) → 0 < room → min room (length left) ≡ 0 → left ≡ []
nothing room left some none = nil_from_length left (omega arith)
