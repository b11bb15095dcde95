-- The words of a line, one after another.
use Rattle.std.proofs.Common.{◌≡◌, ◌∙◌, ℕ, ◌++◌, List, [], ◌∷◌, ◌≤◌, length, take, sym, ap, append_assoc, append-nil, map, arith}
use Rattle.std.proofs.lemmas.List.{map-append, length-map, take_all, take_at}
use Rattle.std.specs.Borrow.{Bor}

abbrev pub texts : List (Bor (List ℕ)) → List (List ℕ)
texts words = map (λ (word : Bor (List ℕ)). word.now) words

module _ (found : List (Bor (List ℕ))) (left all : List (List ℕ)) (so_far : texts found ++ left ≡ all) where
  -- A word is put, and those after it are left.
  pub word_put : (word : Bor (List ℕ)) (after : List (List ℕ)) → left ≡ word.now ∷ after → texts (found ++ word ∷ []) ++ after ≡ all
  word_put word after is =
      ap (λ (ws : List (List ℕ)). ws ++ after) (map-append (λ (w : Bor (List ℕ)). w.now) found (word ∷ []))
      ∙ append_assoc (texts found) (word.now ∷ []) after ∙ ap (λ (ws : List (List ℕ)). texts found ++ ws) (sym is) ∙ so_far

  -- No word is left.
  pub no_more : left ≡ [] → length found ≤ 7 → texts found ≡ take 7 all
  no_more none few =
      sym (take_all 7 (texts found) (omega (arith, length-map found (λ (w : Bor (List ℕ)). w.now), few)))
      ∙ ap (λ (ws : List (List ℕ)). take 7 ws) (sym (append-nil (texts found)) ∙ ap (λ (ws : List (List ℕ)). texts found ++ ws) (sym none) ∙ so_far)

  -- Seven words were put.
  pub seven_put : length found ≡ 7 → texts found ≡ take 7 all
  seven_put seven = sym (take_at (texts found) left 7 (length-map found (λ (w : Bor (List ℕ)). w.now) ∙ seven)) ∙ ap (λ (ws : List (List ℕ)). take 7 ws) so_far
