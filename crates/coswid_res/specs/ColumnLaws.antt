-- Keys that are read one after another: what the taking of one leaves of the others.
use Rattle.std.specs.Prelude.{◌≡◌, ℕ, pos, ◌==◌, not, ◌&&◌, Bool, true, false, List, [], ◌∷◌, Option}
use Rattle.std.proofs.Common.{sym, subst}
use Rattle.std.proofs.lemmas.Bool.{or_parts, and_parts, not-true, ne_eqb, eqb-false}
use Rattle.cbor_det.specs.Lookup.{is_one_of, value_under, other_than}
use Rattle.cbor_det.specs.Term.{Term, Pairs, integer}
use Rattle.cbor_det.proofs.Takes.{still}
use Rattle.coswid_res.specs.Schema.{Line, key_of}

-- No key of these lines is one of the numbers.
abbrev pub are_others : List ℕ → List Line → Bool
are_others ns [] = true
are_others ns (line ∷ lines) = not (is_one_of ns (integer (pos (key_of line)))) && are_others ns lines

-- What stands under another key stands there still.
pub under_still : (n m : ℕ) (ps : Pairs) → is_one_of (n ∷ []) (integer (pos m)) ≡ false → value_under m (other_than (n ∷ []) ps) ≡ value_under m ps
under_still n m ps not =
    let parts = or_parts (m == n) false not in
    still n m ps (ne_eqb n m (λ e. eqb-false m n parts.0 (sym e)))

-- What is read of pairs out of which another key was taken is read of all of them.
pub record Still (lines : List Line) (Are : Pairs → Type 0) : Type 0 where
  pub still : (n : ℕ) (ps : Pairs) → are_others (n ∷ []) lines ≡ true → Are (other_than (n ∷ []) ps) → Are ps

-- So it is of a first key and of those after it.
pub all_still : {V : Type 0} (Is : V → Option Term → Type 0) (v : V) (line : Line) (lines : List Line) (Later : Pairs → Type 0)
    → Still lines Later → Still (line ∷ lines) (λ ps. Is v (value_under (key_of line) ps) × Later ps)
all_still Is v line lines Later later = record {
  still = λ n ps others are.
      let parts = and_parts (not (is_one_of (n ∷ []) (integer (pos (key_of line))))) (are_others (n ∷ []) lines) others in
      (subst (λ (o : Option Term). Is v o) (under_still n (key_of line) ps (not-true _ parts.0)) are.0, later.still n ps parts.1 are.1);
}
