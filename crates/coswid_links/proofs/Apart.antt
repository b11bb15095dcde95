-- Of tags that are of different releases nothing is listed.
use Rattle.std.proofs.Common.{◌≡◌, ℕ, suc, ◌+◌, ◌<◌, Bool, false, not, ◌&&◌, ne_eqb, List, [], ◌∷◌, ◌++◌, length, get_or, refl, sym, ap, ◌∙◌, arith}
use Rattle.std.proofs.lemmas.List.{append-nil}
use Rattle.coswid_tag.specs.declared.tag.Tag.{Tag}
use Rattle.coswid_links.specs.declared.finding.LinkFinding.{LinkFinding}
use Rattle.coswid_links.specs.Listed.{finding, each_from, each_pair_from}
use Rattle.coswid_links.specs.FirstEqual.{AreOwnPlaces, Tells}
use Rattle.coswid_links.specs.Rivals.{same_release, same_spelling, pair_findings}

-- Values of which nothing is given.
each_none : {A B : Type 0} (f : ℕ → A → List B) (n : ℕ) (xs : List A)
    → ((j m : ℕ) (d : A) → j < length xs → f m (get_or xs j d) ≡ []) → each_from f n xs ≡ []
each_none f n [] h = refl
each_none f n (x ∷ xs) h =
    ap (λ (ys : List _). ys ++ each_from f (n + 1) xs) (h 0 n x (omega arith))
    ∙ each_none f (n + 1) xs (λ j m d lt. h (suc j) m d (omega arith))

-- Pairs of which nothing is given.
pairs_none : {A B : Type 0} (f : ℕ → A → ℕ → A → List B) (n : ℕ) (xs : List A)
    → ((i j m k : ℕ) (d : A) → i < j → j < length xs → f m (get_or xs i d) k (get_or xs j d) ≡ []) → each_pair_from f n xs ≡ []
pairs_none f n [] h = refl
pairs_none f n (x ∷ xs) h =
    ap (λ (ys : List _). ys ++ each_pair_from f (n + 1) xs)
    (each_none (f n x) (n + 1) xs (λ j m d lt. h 0 (suc j) n m d (omega arith) (omega arith)))
    ∙ pairs_none f (n + 1) xs (λ i j m k d lt below. h (suc i) (suc j) m k d (omega arith) (omega arith))

-- Tags whose numbers are their own places are no rivals.
none_rival : (gs : List Tag) (numbers : List ℕ) → Tells same_release gs numbers → AreOwnPlaces numbers
    → each_pair_from pair_findings 1 gs ≡ []
none_rival gs numbers tells own = pairs_none pair_findings 1 gs (λ i j m k d lt below.
    let len = tells.one_each in
    let here : get_or numbers i 0 ≡ i = own i (omega arith) in
    let there : get_or numbers j 0 ≡ j = own j (omega arith) in
    let apart : same_release (get_or gs i d) (get_or gs j d) ≡ false =
    sym (tells.apart i j d (omega arith) below) ∙ ne_eqb (get_or numbers i 0) (get_or numbers j 0) (λ q. omega arith) in
    ap (λ (b : Bool). finding 4 (b && not (same_spelling (get_or gs i d) (get_or gs j d))) m k) apart)

-- So nothing is to be put of them.
pub nothing_put : (gs : List Tag) (numbers : List ℕ) (found : List LinkFinding) → Tells same_release gs numbers → AreOwnPlaces numbers
    → found ≡ found ++ each_pair_from pair_findings 1 gs
nothing_put gs numbers found tells own =
    sym (append-nil found) ∙ ap (λ (ys : List LinkFinding). found ++ ys) (sym (none_rival gs numbers tells own))
