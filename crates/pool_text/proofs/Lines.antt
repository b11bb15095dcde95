-- The line of a session, of which all but the words of the end is one word.
use Rattle.std.proofs.Common.{◌≡◌, ◌++◌, ◌∷◌, ◌∙◌, [], ℕ, List, append_assoc, ap, sym}
use Rattle.std.specs.Prelude.{codes}
use Rattle.command_text.specs.Text.{line}

before_tail : (worker session reports tail : List ℕ)
    → (worker ++ (46 ∷ (session ++ (codes " reports " ++ reports)))) ++ tail ≡ ((worker ++ codes ".") ++ session) ++ (32 ∷ (codes "reports" ++ (32 ∷ (reports ++ tail))))
before_tail worker session reports tail =
    let rest : List ℕ = 32 ∷ (codes "reports" ++ (32 ∷ (reports ++ tail))) in
    append_assoc worker (46 ∷ (session ++ (codes " reports " ++ reports))) tail
    ∙ ap (λ (l : List ℕ). worker ++ (46 ∷ l)) (append_assoc session (codes " reports " ++ reports) tail)
    ∙ sym (append_assoc worker (codes ".") (session ++ rest))
    ∙ sym (append_assoc (worker ++ codes ".") session rest)

pub session_words : (worker session reports : List ℕ) (words : List (List ℕ))
    → line ((codes "session " ++ (worker ++ (46 ∷ (session ++ (codes " reports " ++ reports))))) ∷ words)
    ≡ line (codes "session" ∷ ((worker ++ codes ".") ++ session) ∷ codes "reports" ∷ reports ∷ words)
session_words worker session reports [] = ap (λ (l : List ℕ). codes "session " ++ l) (before_tail worker session reports (10 ∷ []))
session_words worker session reports (word ∷ words) = ap (λ (l : List ℕ). codes "session " ++ l) (before_tail worker session reports (32 ∷ line (word ∷ words)))
