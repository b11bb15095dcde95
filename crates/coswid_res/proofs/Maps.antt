-- The first fault of a map is reported line by line of its table.
use Rattle.std.proofs.Common.{◌≡◌, ℕ, Bool, true, false, List, [], ◌∷◌, Option, Some, None, if◌then◌else◌, refl, sym, ap, ◌∙◌}
use Rattle.std.proofs.lemmas.Option.{none-some}
use Rattle.cbor_det.specs.Term.{Term, Pairs, map, no_pairs, pair}
use Rattle.cbor_det.specs.Lookup.{value_under, is_unsigned}
use Rattle.coswid_res.specs.declared.fault.FormFault.{FormFault}
use Rattle.coswid_res.specs.Schema.{Name, table, Line, Field, one, a_map, required, optional, required_keys}
use Rattle.coswid_res.specs.Fault.{or_else, under, absent, missing, field_fault, key_fault, lines_first}
use Rattle.coswid_res.specs.Reading.{value_fault, line_fault, lines_fault, keys_fault}

found_or_not : (b : Bool) (k : ℕ) (field : Field) (v : Term) (ps : Pairs) → key_fault k field ps ≡ value_fault k field (value_under k ps)
    → (if b then under k (field_fault field v) else key_fault k field ps) ≡ value_fault k field (if b then Some v else value_under k ps)
found_or_not true k field v ps rest = refl
found_or_not false k field v ps rest = rest

-- the fault of what stands under a key
pub key_found : (k : ℕ) (field : Field) (ps : Pairs) → key_fault k field ps ≡ value_fault k field (value_under k ps)
key_found k field no_pairs = refl
key_found k field (pair key v ps) = found_or_not (is_unsigned k key) k field v ps (key_found k field ps)

-- What stands after counts only where nothing is reported first.
pub behind : (first a b : Option FormFault) → (first ≡ None → a ≡ b) → or_else first a ≡ or_else first b
behind None a b same = same refl
behind (Some f) a b same = refl

pub or_none : (a b : Option FormFault) → or_else a b ≡ None → (a ≡ None) × (b ≡ None)
or_none None b is = (refl, is)
or_none (Some f) b is = absurd (none-some f (sym is))

two : (a b c d : Option FormFault) → a ≡ b → c ≡ d → or_else a c ≡ or_else b d
two a b c d first later = ap (λ (o : Option FormFault). or_else o c) first ∙ ap (λ (o : Option FormFault). or_else b o) later

-- Where no key is missing, the lines report the faults of their values.
filled : (lines : List Line) (ps : Pairs) → missing (required_keys lines) ps ≡ None → lines_first (λ k field. key_fault k field ps) lines ≡ lines_fault lines ps
filled [] ps none = refl
filled (optional k field ∷ lines) ps none =
    two (key_fault k field ps) (value_fault k field (value_under k ps)) (lines_first (λ j other. key_fault j other ps) lines) (lines_fault lines ps) (key_found k field ps)
    (filled lines ps none)
filled (required k field ∷ lines) ps none =
    let parts = or_none (absent k (value_under k ps)) (missing (required_keys lines) ps) none in
    let told : key_fault k field ps ≡ line_fault (required k field) ps =
    key_found k field ps ∙ sym (ap (λ (first : Option FormFault). or_else first (value_fault k field (value_under k ps))) parts.0) in
    two (key_fault k field ps) (line_fault (required k field) ps) (lines_first (λ j other. key_fault j other ps) lines) (lines_fault lines ps) told (filled lines ps parts.1)

-- the first fault of a map with these pairs
pub map_told : (name : Name) (ps : Pairs) → field_fault (one (a_map name)) (map ps) ≡ keys_fault name ps
map_told name ps =
    behind (missing (required_keys (table name)) ps) (lines_first (λ k field. key_fault k field ps) (table name)) (lines_fault (table name) ps) (filled (table name) ps)
