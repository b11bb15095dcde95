-- What a reader of a value, and of the pairs of a map, promises: line by line of a table.
use Rattle.std.specs.Prelude.{◌≡◌, ℕ, List, [], ◌∷◌, Option, Some, None, Result, Ok, Err}
use Rattle.cbor_det.specs.Term.{Term, Pairs, map}
use Rattle.cbor_det.specs.Lookup.{value_under}
use Rattle.cbor_det.specs.Spelling.{Rises}
use Rattle.coswid_res.specs.declared.fault.FormFault.{FormFault}
use Rattle.coswid_res.specs.declared.fault.FormRefused.{FormRefused}
use Rattle.coswid_res.specs.declared.fault.FormRefused.TheVariants as refused
use Rattle.coswid_res.specs.Schema.{Name, Field, Line, one, a_map, table, required, optional, required_keys}
use Rattle.coswid_res.specs.Fault.{or_else, absent, missing, under, field_fault, pairs_fault}

-- A refusal carries this fault, unless memory ran out.
abbrev pub Tells : Option FormFault → FormRefused → Type 0
Tells first (refused.Form f) = first ≡ Some f
Tells first refused.Memory = Unit {0}

-- Where there is no fault the value is as `Is` says; else the answer is the fault. Memory may run
-- out.
abbrev pub Gives : {A : Type 0} → (A → Type 0) → Option FormFault → Result A FormRefused → Type 0
Gives Is first (Ok v) = (first ≡ None) × Is v
Gives Is first (Err e) = Tells first e

-- the first fault of what stands under a key
abbrev pub value_fault : ℕ → Field → Option Term → Option FormFault
value_fault k field None = None
value_fault k field (Some t) = under k (field_fault field t)

abbrev pub line_fault : Line → Pairs → Option FormFault
line_fault (required k field) ps = or_else (absent k (value_under k ps)) (value_fault k field (value_under k ps))
line_fault (optional k field) ps = value_fault k field (value_under k ps)

abbrev pub lines_fault : List Line → Pairs → Option FormFault
lines_fault [] ps = None
lines_fault (line ∷ lines) ps = or_else (line_fault line ps) (lines_fault lines ps)

-- The missing keys first, and then line by line.
abbrev pub keys_fault : Name → Pairs → Option FormFault
keys_fault name ps = or_else (missing (required_keys (table name)) ps) (lines_fault (table name) ps)

-- The first fault of a map, where its pairs stand in key order, is that of its missing keys, and
-- then that of its pairs as they stand.
abbrev pub LineByLine : Type 0
LineByLine =
    (name : Name) (ps : Pairs) → Rises ps
    → or_else (missing (required_keys (table name)) ps) (pairs_fault (table name) ps) ≡ field_fault (one (a_map name)) (map ps)
