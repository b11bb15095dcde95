-- What a use of an argument that passes makes of the rows before it, for arguments that are given
-- once.
use Rattle.std.proofs.Common.{◌≡◌, ◌∙◌, ◌∷◌, ◌++◌, ◌&&◌, ◌||◌, [], Bool, List, Option, Some, None, cond, true, false, true≢false, refl, sym, ap, ap₂, subst, length, append-nil}
use Rattle.std.specs.Prelude.{⊤, find, unwrap_or}
use Rattle.std.specs.Option.{option_map_or}
use Rattle.std.specs.Str.{bytes_eq}
use Rattle.clap.specs.Facts.{unwrap_or_range}
use Rattle.clap.specs.Faults.{action_fault, option_fault, react_fault, set_fault, use_fault, values_fault}
use Rattle.clap.specs.Kinds.{Kinds, or_else, range_kinds}
use Rattle.clap.specs.Walk.{Held, Row, Rule, Text, action_of, arg_by_id, at_row, has_row, more_values, most_values, option_met, reacted, reading_by, settled, settled_rows, takes_values, used, used_as, used_by_id, values_or_missing, without}
use Rattle.clap.specs.declared.builder.action.ArgAction.TheVariants.{Set}
use Rattle.clap.specs.declared.error.kind.ErrorKind.TheVariants as kind
use Rattle.clap.specs.declared.parser.matches.ValueSource.{ValueSource}
use Rattle.clap.specs.declared.parser.matches.ValueSource.TheVariants.{CommandLine}

-- ---- lists

abbrev pub Each : {A : Type 0} → (A → Type 0) → List A → Type 0
Each P [] = ⊤
Each P (x ∷ xs) = P x × Each P xs

pub each_more : {A : Type 0} (P : A → Type 0) (xs : List A) (x : A) → Each P xs → P x → Each P (xs ++ x ∷ [])
each_more P [] x h p = (p, tt)
each_more P (y ∷ ys) x h p = (h.0, each_more P ys x h.1 p)

-- What is found is one of the list, and passes.
pub found_one : {A : Type 0} (P : A → Type 0) (p : A → Bool) (xs : List A) (a : A) → Each P xs → find p xs ≡ Some a → P a × (p a ≡ true)
found_one P p [] a h is = cc
found_one P p (x ∷ xs) a h is = go (p x) refl (λ rest. found_one P p xs a h.1 rest)
  where
    go : (b : Bool) → p x ≡ b → (find p xs ≡ Some a → P a × (p a ≡ true)) → P a × (p a ≡ true)
    go true t rec =
        let same : Some x ≡ Some a = rw t at is in
        let one : x ≡ a = ap (λ o. unwrap_or o x) same in
        (subst P one h.0, subst (λ y. p y ≡ true) one t)
    go false t rec = rec (rw t at is)

pub neither : (a b : Bool) → (a || b) ≡ false → (a ≡ false) × (b ≡ false)
neither true b e = absurd (true≢false e)
neither false b e = (refl, e)

-- Where neither step fails, there is no kind.
pub or_none : (a b : Kinds) → or_else a b ≡ [] → (a ≡ []) × (b ≡ [])
or_none [] b e = (refl, e)
or_none (k ∷ ks) b e = cc

-- ---- rows

-- How many values a use may have.
abbrev pub counted : Rule → List Text → Kinds
counted a values = range_kinds (unwrap_or_range a.range).start_inclusive (most_values a) (length values)

abbrev pub DefaultCounts : Rule → List Text → Type 0
DefaultCounts a [] = ⊤
DefaultCounts a (v ∷ vs) = counted a (v ∷ vs) ≡ []

-- The argument is given once at most and takes values, and no other one has its id.
pub record IsFine (c : List Rule) (a : Rule) : Type 0 where
  pub action : action_of a ≡ Set
  pub missing : a.missing ≡ []
  pub takes : takes_values a ≡ true
  pub known : arg_by_id c a.id ≡ Some a
  pub defaults : DefaultCounts a a.defaults

-- The values are of an argument, pass it, and are as many as it takes.
pub record Fits (c : List Rule) (r : Row) : Type 0 where
  pub rule : Rule
  pub known : arg_by_id c r.id ≡ Some rule
  pub count : counted rule r.values ≡ []
  pub passes : values_fault rule r.values ≡ []
  pub reading : r.reading ≡ reading_by rule

-- Rows join where the id has none.
pub at_end : (id : Text) (change : Row → List Row) (new rows : List Row) → has_row id rows ≡ false → at_row id change new rows ≡ rows ++ new
at_end id change new [] none = refl
at_end id change new (r ∷ rs) none =
    let parts = neither (bytes_eq r.id id) (has_row id rs) none in
    rw parts.0 (ap (λ (xs : List Row). r ∷ xs) (at_end id change new rs parts.1))

not_there : (b : Bool) → cond (b && true) (kind.ArgumentConflict ∷ []) [] ≡ [] → b ≡ false
not_there true e = cc
not_there false e = refl

as_given : (a : Rule) (values : List Text) → a.missing ≡ [] → values_or_missing a values ≡ values
as_given a [] none = none
as_given a (v ∷ vs) none = refl

abbrev pub row_with : Rule → ValueSource → List Text → Row
row_with a source values = record { id = a.id; values = values; count = None; source = Some source; reading = reading_by a }

new_use : (a : Rule) (values : List Text) (rows : List Row) → has_row a.id rows ≡ false → used_as Set a.id (reading_by a) values rows ≡ rows ++ row_with a CommandLine values ∷ []
new_use a values rows none =
    let all : without a.id rows ≡ rows = at_end a.id (λ _. []) [] rows none ∙ append-nil rows in
    ap (λ (xs : List Row). at_row a.id (more_values CommandLine values) (row_with a CommandLine values ∷ []) xs) all
    ∙ at_end a.id (more_values CommandLine values) (row_with a CommandLine values ∷ []) rows none

pub use_fits : (c : List Rule) (a : Rule) (values : List Text) (rows : List Row) → IsFine c a → use_fault false a values rows ≡ []
    → Each (Fits c) rows → Each (Fits c) (used a values rows)
use_fits c a values rows fine fault fits =
    let parts = or_none _ _ fault in
    let given : values_or_missing a values ≡ values = as_given a values fine.missing in
    let set : set_fault false a values rows ≡ [] = sym (ap₂ (λ x vs. action_fault x false a vs rows) fine.action given) ∙ parts.1 in
    let once = or_none _ _ set in
    let none : has_row a.id rows ≡ false = not_there (has_row a.id rows) once.0 in
    let is : used a values rows ≡ rows ++ row_with a CommandLine values ∷ [] =
    ap₂ (λ x vs. used_as x a.id (reading_by a) vs rows) fine.action given ∙ new_use a values rows none in
    subst (Each (Fits c)) (sym is) (each_more (Fits c) rows (row_with a CommandLine values) fits (record {
      rule = a;
      known = fine.known;
      count = parts.0;
      passes = once.1;
      reading = refl;
    }))

-- ---- what is held

abbrev pub pending_fault : List Rule → Option (Text × List Text) → List Row → Kinds
pending_fault c pending rows = option_map_or (λ p. option_map_or (λ a. use_fault false a p.1 rows) (arg_by_id c p.0) []) pending []

module _ (c : List Rule) (fine : Each (IsFine c) c) where
  pub settled_fits : (pending : Option (Text × List Text)) (rows : List Row) → pending_fault c pending rows ≡ [] → Each (Fits c) rows
      → Each (Fits c) (settled_rows c pending rows)
  settled_fits None rows fault fits = fits
  settled_fits (Some p) rows fault fits = go (arg_by_id c p.0) refl
    where
      go : (o : Option Rule) → arg_by_id c p.0 ≡ o → Each (Fits c) (used_by_id (arg_by_id c p.0) p.1 rows)
      go None is = rw is fits
      go (Some a) is = rw is (use_fits c a p.1 rows (found_one (IsFine c) _ c a fine is).0 (rw is at fault) fits)

  pub reacted_fits : (a : Rule) (values : List Text) (h : Held) → IsFine c a → react_fault c false a values h ≡ [] → Each (Fits c) h.rows
      → Each (Fits c) (reacted c a values h).rows
  reacted_fits a values h known fault fits =
      let parts = or_none _ _ fault in
      use_fits c a values (settled c h).rows known parts.1 (settled_fits h.pending h.rows parts.0 fits)

  pub option_fits : (a : Rule) (v : Option Text) (h : Held) → IsFine c a → option_fault c false a v h ≡ [] → Each (Fits c) h.rows
      → Each (Fits c) (option_met c a v h).0.rows
  option_fits a (Some v) h known fault fits = reacted_fits a (v ∷ []) h known fault fits
  option_fits a None h known fault fits = settled_fits h.pending h.rows fault fits
