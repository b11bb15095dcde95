-- The laws of a map by its columns: what is known of a key is said once, and follows for all.
use Rattle.std.proofs.Common.{◌≡◌, ℕ, Bool, true, List, [], ◌∷◌, ◌&&◌, Option, Some, None, refl, sym, ap, ◌∙◌, subst}
use Rattle.std.proofs.lemmas.Bool.{leb-true, and_parts}
use Rattle.std.specs.Prelude.{nat_le}
use Rattle.cbor_det.specs.Lookup.{other_than}
use Rattle.cbor_det.specs.Term.{Term, Pairs}
use Rattle.cbor_det.specs.View.{pairs_view}
use Rattle.cbor_det.specs.declared.item.Pairs as code
use Rattle.coswid_res.specs.Columns.{Column, required, optional, Table, line, lines, Values, values, Are, KeysOf, MapOf, rows, rows_of, pairs_of, map_of, maps_of}
use Rattle.coswid_res.specs.Fault.{missing}
use Rattle.coswid_res.specs.Keys.{number, field}
use Rattle.coswid_res.specs.Reading.{line_fault, lines_fault, keys_fault}
use Rattle.coswid_res.specs.Schema.{Name, table, Line, Field, one, one_or_more, a_map, keys_of, required_keys}
use Rattle.coswid_res.specs.Words.{OneOrMore}
use Rattle.coswid_res.proofs.Maps.{or_none}
use Rattle.coswid_codec.proofs.Extras.{extras_some, extras_same}
use Rattle.coswid_codec.proofs.Facts.{Facts, required_fact, optional_fact}
use Rattle.coswid_codec.proofs.Lawful.{Lawful, MapTold, MapLawful, next}
use Rattle.coswid_codec.proofs.Lines.{required_same, required_some, optional_again, optional_same, optional_some, map_law}
use Rattle.coswid_codec.proofs.Placed.{Holds}
use Rattle.coswid_codec.proofs.Several.{several_law}
use Rattle.coswid_codec.proofs.Tables.{made, made_told}

-- The law of what stands under the key of a column, with the depth that it may have in any case.
abbrev pub LawAt : {R : Type 0} → Column R → ℕ → Type 0
LawAt (required k Is item get) most = Lawful (field k) Is item most
LawAt (optional k Is item get) most = Lawful (field k) Is item most

abbrev pub Law : {R : Type 0} → Column R → Type 0
Law c = (most : ℕ) × LawAt c most

abbrev pub known : {A : Type 0} {f : Field} {Is : A → Term → Type 0} {item : A → Term} {most : ℕ} → Lawful f Is item most → (n : ℕ) × Lawful f Is item n
known {most} law = (most, law)

abbrev pub Laws : {R : Type 0} → List (Column R) → Type 0
Laws [] = Unit {0}
Laws (c ∷ cs) = Law c × Laws cs

-- whether each item is within this many levels
abbrev pub are_within : {R : Type 0} → ℕ → (cs : List (Column R)) → Laws cs → Bool
are_within least [] laws = true
are_within least (c ∷ cs) laws = nat_le laws.0.0 least && are_within least cs laws.1

facts : {R : Type 0} (least : ℕ) (cs : List (Column R)) (laws : Laws cs) (vs : Values cs) (ps : Pairs) → are_within least cs laws ≡ true → Are cs vs ps → Facts least ps (lines cs) (rows cs vs)
facts least [] laws vs ps le is = tt
facts least (required k Is item get ∷ cs) laws vs ps le is =
    let both = and_parts (nat_le laws.0.0 least) (are_within least cs laws.1) le in
    (required_fact least (number k) vs.0 ps laws.0.1 (leb-true laws.0.0 least both.0) is.0, facts least cs laws.1 vs.1 ps both.1 is.1)
facts least (optional k Is item get ∷ cs) laws vs ps le is =
    let both = and_parts (nat_le laws.0.0 least) (are_within least cs laws.1) le in
    (optional_fact least (number k) vs.0 ps laws.0.1 (leb-true laws.0.0 least both.0) is.0, facts least cs laws.1 vs.1 ps both.1 is.1)

again : {R : Type 0} (cs : List (Column R)) (laws : Laws cs) (vs : Values cs) (ps qs : Pairs) → Are cs vs ps → Holds (lines cs) (rows cs vs) qs → Are cs vs qs
again [] laws vs ps qs is holds = tt
again (required k Is item get ∷ cs) laws vs ps qs is holds =
    (optional_again (number k) (Some vs.0) ps qs laws.0.1 is.0 holds.0, again cs laws.1 vs.1 ps qs is.1 holds.1)
again (optional k Is item get ∷ cs) laws vs ps qs is holds = (optional_again (number k) vs.0 ps qs laws.0.1 is.0 holds.0, again cs laws.1 vs.1 ps qs is.1 holds.1)

same : {R : Type 0} (cs : List (Column R)) (laws : Laws cs) (vs ws : Values cs) (ps : Pairs) → Are cs vs ps → Are cs ws ps → vs ≡ ws
same [] laws vs ws ps first second = refl
same (required {A} k Is item get ∷ cs) laws vs ws ps first second =
    ap (λ (v : A). (v, vs.1)) (required_same (number k) vs.0 ws.0 ps laws.0.1 first.0 second.0)
    ∙ ap (λ (us : Values cs). (ws.0, us)) (same cs laws.1 vs.1 ws.1 ps first.1 second.1)
same (optional {A} k Is item get ∷ cs) laws vs ws ps first second =
    ap (λ (v : Option A). (v, vs.1)) (optional_same (number k) vs.0 ws.0 ps laws.0.1 first.0 second.0)
    ∙ ap (λ (us : Values cs). (ws.0, us)) (same cs laws.1 vs.1 ws.1 ps first.1 second.1)

some : {R : Type 0} (cs : List (Column R)) (laws : Laws cs) (ps : Pairs) → lines_fault (lines cs) ps ≡ None → (vs : Values cs) × Are cs vs ps
some [] laws ps none = (tt, tt)
some (required k Is item get ∷ cs) laws ps none =
    let both = or_none (line_fault (line (required k Is item get)) ps) (lines_fault (lines cs) ps) none in
    let first = required_some (number k) ps laws.0.1 both.0 in
    let rest = some cs laws.1 ps both.1 in
    ((first.0, rest.0), (first.1, rest.1))
some (optional k Is item get ∷ cs) laws ps none =
    let both = or_none (line_fault (line (optional k Is item get)) ps) (lines_fault (lines cs) ps) none in
    let first = optional_some (number k) ps laws.0.1 both.0 in
    let rest = some cs laws.1 ps both.1 in
    ((first.0, rest.0), (first.1, rest.1))

-- A table, the law of each column, and what a value is made of.
module _ {A : Type 0} (name : Name) (t : Table A) (least : ℕ) (laws : Laws t.columns) (make : Values t.columns → code.Pairs → A) (listed : lines t.columns ≡ table name) (within : are_within least t.columns laws ≡ true) (whole : (v : A) → make (values t.columns v) (t.extras v) ≡ v) (parts : (vs : Values t.columns) (xs : code.Pairs) → (values t.columns (make vs xs) ≡ vs) × (t.extras (make vs xs) ≡ xs)) where
  map_told : (v : A) (ps : Pairs) → KeysOf t v ps → MapTold name (KeysOf t) (pairs_of t) least v ps
  map_told v ps is =
      let vs = values t.columns v in
      let es = rows_of t v in
      let qs : Pairs = pairs_of t v in
      let F : List Line → Type 0 = λ ls. Facts least ps ls es in
      let H : List Line → Type 0 = λ ls. Holds ls es qs in
      let O : List Line → Type 0 = λ ls. pairs_view (t.extras v) ≡ other_than (keys_of ls) ps in
      let P : List Line → Type 0 = λ ls. pairs_view (t.extras v) ≡ other_than (keys_of ls) qs in
      let all = made name es (pairs_view (t.extras v)) least ps (subst F listed (facts least t.columns laws vs ps within is.keys)) (subst O listed is.extras) in
      made_told all refl (record { keys = again t.columns laws vs ps qs is.keys (subst H (sym listed) all.holds); extras = subst P (sym listed) all.rest })

  map_same : (v w : A) (ps : Pairs) → KeysOf t v ps → KeysOf t w ps → v ≡ w
  map_same v w ps first second =
      sym (whole v) ∙ ap (λ (us : Values t.columns). make us (t.extras v)) (same t.columns laws (values t.columns v) (values t.columns w) ps first.keys second.keys)
      ∙ ap (λ (xs : code.Pairs). make (values t.columns w) xs) (extras_same (t.extras v) (t.extras w) (first.extras ∙ sym second.extras)) ∙ whole w

  map_some : (ps : Pairs) → keys_fault name ps ≡ None → (v : A) × KeysOf t v ps
  map_some ps none =
      let N : List Line → Type 0 = λ ls. lines_fault ls ps ≡ None in
      let found = some t.columns laws ps (subst N (sym listed) (or_none (missing (required_keys (table name)) ps) (lines_fault (table name) ps) none).1) in
      let others = extras_some (other_than (keys_of (lines t.columns)) ps) in
      let back = parts found.0 others.0 in
      let C : Values t.columns → Type 0 = λ us. Are t.columns us ps in
      (make found.0 others.0, record { keys = subst C (sym back.0) found.1; extras = ap (λ (xs : code.Pairs). pairs_view xs) back.1 ∙ others.1 })

  map_lawful : MapLawful name (KeysOf t) (pairs_of t) least
  map_lawful = record { told = map_told; same = map_same; some = map_some }

  pub one_by : Lawful (one (a_map name)) (MapOf t) (map_of t) (next least)
  one_by = map_law name (KeysOf t) (pairs_of t) least map_lawful

  pub several_by : Lawful (one_or_more (a_map name)) (OneOrMore (MapOf t)) (maps_of t) (next (next least))
  several_by = several_law (a_map name) (MapOf t) (map_of t) (next least) one_by (λ v. tt)
