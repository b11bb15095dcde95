-- Values taken out of pairs: what stands under the other keys, and the first fault of lines that
-- are read one after another, each from what those before it left.
use Rattle.std.proofs.Common.{◌≡◌, ℕ, pos, ◌==◌, not, true, false, List, [], ◌∷◌, Option, None, refl, sym, ap, ◌∙◌, subst}
use Rattle.std.proofs.lemmas.Bool.{and_parts, not-true}
use Rattle.cbor_det.specs.Lookup.{is_one_of, value_under, other_than}
use Rattle.cbor_det.specs.Term.{Term, Pairs, integer, no_pairs, pair}
use Rattle.cbor_det.proofs.Takes as takes
use Rattle.coswid_res.specs.declared.fault.FormFault.{FormFault}
use Rattle.coswid_res.specs.declared.fault.FormRefused.{FormRefused}
use Rattle.coswid_res.specs.declared.fault.FormRefused.TheVariants as refused
use Rattle.coswid_res.specs.ColumnLaws.{are_others, under_still}
use Rattle.coswid_res.specs.Fault.{or_else, absent}
use Rattle.coswid_res.specs.Reading.{Tells, value_fault, line_fault, lines_fault}
use Rattle.coswid_res.specs.Schema.{Line, required, optional, key_of, keys_of}

pub still : (n m : ℕ) (ps : Pairs) → (n == m) ≡ false → value_under m (other_than (n ∷ []) ps) ≡ value_under m ps
still = takes.still

pub others_of : (n : ℕ) (ns : List ℕ) (ps : Pairs) → other_than ns (other_than (n ∷ []) ps) ≡ other_than (n ∷ ns) ps
others_of = takes.others_of

-- None is taken out.
pub none_of : (ps : Pairs) → other_than [] ps ≡ ps
none_of no_pairs = refl
none_of (pair k v ps) = ap (λ (qs : Pairs). pair k v qs) (none_of ps)

-- What is wrong under other keys than this one is so still.
line_still : (line : Line) (n : ℕ) (ps : Pairs) → is_one_of (n ∷ []) (integer (pos (key_of line))) ≡ false → line_fault line (other_than (n ∷ []) ps) ≡ line_fault line ps
line_still (required k field) n ps not = ap (λ (o : Option Term). or_else (absent k o) (value_fault k field o)) (under_still n k ps not)
line_still (optional k field) n ps not = ap (λ (o : Option Term). value_fault k field o) (under_still n k ps not)

lines_still : (lines : List Line) (n : ℕ) (ps : Pairs) → are_others (n ∷ []) lines ≡ true → lines_fault lines (other_than (n ∷ []) ps) ≡ lines_fault lines ps
lines_still [] n ps others = refl
lines_still (line ∷ lines) n ps others =
    let parts = and_parts (not (is_one_of (n ∷ []) (integer (pos (key_of line))))) (are_others (n ∷ []) lines) others in
    ap (λ (o : Option FormFault). or_else o (lines_fault lines (other_than (n ∷ []) ps))) (line_still line n ps (not-true _ parts.0))
    ∙ ap (λ (o : Option FormFault). or_else (line_fault line ps) o) (lines_still lines n ps parts.1)

pub first_told : (a b : Option FormFault) (e : FormRefused) → Tells a e → Tells (or_else a b) e
first_told a b (refused.Form f) told = ap (λ (o : Option FormFault). or_else o b) told
first_told a b refused.Memory told = tt

-- A first key, whose value was taken out without a fault, and those after it.
module _ (line : Line) (lines : List Line) (ps qs : Pairs) (others : are_others (key_of line ∷ []) lines ≡ true)
    (none : line_fault line ps ≡ None) (left : qs ≡ other_than (key_of line ∷ []) ps) where
  same : lines_fault lines qs ≡ lines_fault (line ∷ lines) ps
  same =
      ap (λ (us : Pairs). lines_fault lines us) left ∙ lines_still lines (key_of line) ps others
      ∙ sym (ap (λ (o : Option FormFault). or_else o (lines_fault lines ps)) none)

  pub later_told : (e : FormRefused) → Tells (lines_fault lines qs) e → Tells (lines_fault (line ∷ lines) ps) e
  later_told e = subst (λ (o : Option FormFault). Tells o e) same

  pub all_none : lines_fault lines qs ≡ None → lines_fault (line ∷ lines) ps ≡ None
  all_none later = sym same ∙ later

  pub all_left : (rs : Pairs) → rs ≡ other_than (keys_of lines) qs → rs ≡ other_than (key_of line ∷ keys_of lines) ps
  all_left rs later = later ∙ ap (λ (us : Pairs). other_than (keys_of lines) us) left ∙ others_of (key_of line) (keys_of lines) ps
