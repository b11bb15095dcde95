-- Each required argument of words that pass has a row, and each one with a default.
use Rattle.std.proofs.Common.{◌≡◌, ◌∙◌, ◌∷◌, ◌++◌, ◌&&◌, [], Bool, List, Option, Some, None, true, false, not, true≢false, refl, sym, ap, subst}
use Rattle.std.specs.Prelude.{⊤, find, unwrap_or}
use Rattle.std.specs.List.{fold, list_any}
use Rattle.std.specs.Option.{option_map_or}
use Rattle.std.specs.Str.{bytes_eq}
use Rattle.std.proofs.lemmas.Slice.Eq.{bytes_eq-Decides}
use Rattle.clap.specs.Facts.{explicit_source}
use Rattle.clap.specs.Faults.{level_fault, settle_fault, values_fault}
use Rattle.clap.specs.Kinds.{Kinds, check_kinds}
use Rattle.clap.specs.Simple.{Shape}
use Rattle.clap.specs.Takes.{is_given}
use Rattle.clap.specs.Walk.{Held, Names, Row, Rule, Text, arg_by_id, default_rows, finished, has_row, nothing_held, reading_by, rows_after, settled, walk, walk_from, with_default, more_values}
use Rattle.clap.specs.declared.parser.matches.ValueSource.TheVariants.{DefaultValue}
use Rattle.command_options.proofs.RowsFit.{Each, Fits, IsFine, at_end, counted, found_one, neither, or_none, row_with, settled_fits}
use Rattle.command_options.proofs.WalkFits.{defaults_fit, walk_fits}

-- ---- rows that stay

there_more : (id : Text) (rows more : List Row) → has_row id rows ≡ true → has_row id (rows ++ more) ≡ true
there_more id [] more is = absurd (true≢false (sym is))
there_more id (r ∷ rs) more is = go (bytes_eq r.id id) refl (λ rest. there_more id rs more rest)
  where
    go : (b : Bool) → bytes_eq r.id id ≡ b → (has_row id rs ≡ true → has_row id (rs ++ more) ≡ true) → has_row id (r ∷ rs ++ more) ≡ true
    go true t rec = rw t refl
    go false t rec = rw t (rec (rw t at is))

there_last : (id : Text) (rows : List Row) (r : Row) → bytes_eq r.id id ≡ true → has_row id (rows ++ r ∷ []) ≡ true
there_last id [] r is = rw is refl
there_last id (x ∷ xs) r is = go (bytes_eq x.id id) refl (there_last id xs r is)
  where
    go : (b : Bool) → bytes_eq x.id id ≡ b → has_row id (xs ++ r ∷ []) ≡ true → has_row id (x ∷ xs ++ r ∷ []) ≡ true
    go true t rec = rw t refl
    go false t rec = rw t rec

default_stays : (id : Text) (a : Rule) (rows : List Row) (ds : List Text) → has_row a.id rows ≡ false → has_row id rows ≡ true
    → has_row id (default_rows a.id (reading_by a) ds rows) ≡ true
default_stays id a rows [] none is = is
default_stays id a rows (v ∷ vs) none is =
    rw (at_end a.id (more_values DefaultValue (v ∷ vs)) (row_with a DefaultValue (v ∷ vs) ∷ []) rows none) (there_more id rows (row_with a DefaultValue (v ∷ vs) ∷ []) is)

stays : (id : Text) (a : Rule) (rows : List Row) → has_row id rows ≡ true → has_row id (with_default rows a) ≡ true
stays id a rows is = go (has_row a.id rows) refl
  where
    go : (b : Bool) → has_row a.id rows ≡ b → has_row id (with_default rows a) ≡ true
    go true t = rw t is
    go false t = rw t (default_stays id a rows a.defaults t is)

all_stay : (id : Text) (xs : List Rule) (rows : List Row) → has_row id rows ≡ true → has_row id (fold with_default rows xs) ≡ true
all_stay id [] rows is = is
all_stay id (a ∷ rest) rows is = all_stay id rest (with_default rows a) (stays id a rows is)

-- ---- defaults

abbrev IsSome : List Text → Type 0
IsSome [] = ⊥
IsSome (v ∷ vs) = ⊤

-- An argument with a default has a row.
abbrev pub Defaulted : List Row → Rule → Type 0
Defaulted rows a = IsSome a.defaults → has_row a.id rows ≡ true

default_row : (a : Rule) (rows : List Row) (ds : List Text) → IsSome ds → has_row a.id rows ≡ false → has_row a.id (default_rows a.id (reading_by a) ds rows) ≡ true
default_row a rows [] some none = absurd some
default_row a rows (v ∷ vs) some none =
    rw (at_end a.id (more_values DefaultValue (v ∷ vs)) (row_with a DefaultValue (v ∷ vs) ∷ []) rows none)
    (there_last a.id rows (row_with a DefaultValue (v ∷ vs)) ((bytes_eq-Decides a.id a.id).1 refl))

default_there : (a : Rule) (rows : List Row) → IsSome a.defaults → has_row a.id (with_default rows a) ≡ true
default_there a rows some = go (has_row a.id rows) refl
  where
    go : (b : Bool) → has_row a.id rows ≡ b → has_row a.id (with_default rows a) ≡ true
    go true t = rw t t
    go false t = rw t (default_row a rows a.defaults some t)

defaults_there : (xs : List Rule) (rows : List Row) → Each (Defaulted (fold with_default rows xs)) xs
defaults_there [] rows = tt
defaults_there (a ∷ rest) rows = (λ some. all_stay a.id rest (with_default rows a) (default_there a rows some), defaults_there rest (with_default rows a))

-- ---- what is required

abbrev pub GivenIfRequired : List Row → Rule → Type 0
GivenIfRequired rows a = a.required ≡ true → is_given a.id rows ≡ true

checked : (help subcommand argument : Bool) → check_kinds help subcommand argument ≡ [] → argument ≡ false
checked true subcommand argument e = cc
checked false true argument e = cc
checked false false true e = cc
checked false false false e = refl

given_one : (required given : Bool) → (required && not given) ≡ false → required ≡ true → given ≡ true
given_one required true e is = refl
given_one required false e is = absurd (true≢false (rw is at e))

all_given : (rows : List Row) (xs : List Rule) → list_any (λ a. a.required && not (is_given a.id rows)) xs ≡ false → Each (GivenIfRequired rows) xs
all_given rows [] none = tt
all_given rows (a ∷ rest) none =
    let parts = neither (a.required && not (is_given a.id rows)) _ none in
    (given_one a.required (is_given a.id rows) parts.0, all_given rows rest parts.1)

-- ---- all of it

pub record TakenRows (c : List Rule) (rows : List Row) : Type 0 where
  pub fits : Each (Fits c) rows
  pub defaults : Each (Defaulted rows) c
  pub given : Each (GivenIfRequired rows) c

pub taken_rows : (s : Shape) (names : Names) (words : List Text) (has : Bool) (below : Kinds) → s.args_override_self ≡ false → s.subcommand_negates_reqs ≡ false
    → Each (IsFine s.rules) s.rules → level_fault s names nothing_held words has below ≡ [] → TakenRows s.rules (rows_after s.rules names words)
taken_rows s names words has below over negates fine fault =
    let end : Held = (walk s.rules names nothing_held words).held in
    let walked = or_none _ _ fault in
    let inner = or_none _ _ walked.1 in
    let settles = or_none _ _ inner.1 in
    let defaults = or_none _ _ settles.1 in
    let fits = walk_fits s over fine names words (walk_from nothing_held) walked.0 tt in
    let settle : settle_fault s.rules s.args_override_self end ≡ [] = settles.0 in
    let settled_all = settled_fits s.rules fine end.pending end.rows (rw over at settle) fits in
    let missing : (not (s.subcommand_negates_reqs && has) && list_any (λ a. a.required && not (is_given a.id (finished s.rules end))) s.rules) ≡ false =
    checked _ _ _ defaults.1 in
    record {
      fits = defaults_fit s.rules s.rules (settled s.rules end).rows fine defaults.0 settled_all;
      defaults = defaults_there s.rules (settled s.rules end).rows;
      given = all_given (finished s.rules end) s.rules (rw negates at missing);
    }

-- ---- what a row has

abbrev pub row_at : Text → List Row → Option Row
row_at id rows = find (λ r. bytes_eq r.id id) rows

pub there_found : (id : Text) (rows : List Row) → has_row id rows ≡ true → (r : Row) × (row_at id rows ≡ Some r)
there_found id [] is = absurd (true≢false (sym is))
there_found id (x ∷ xs) is = go (bytes_eq x.id id) refl (λ rest. there_found id xs rest)
  where
    go : (b : Bool) → bytes_eq x.id id ≡ b → (has_row id xs ≡ true → (r : Row) × (row_at id xs ≡ Some r)) → (r : Row) × (row_at id (x ∷ xs) ≡ Some r)
    go true t rec = (x, rw t refl)
    go false t rec =
        let rest = rec (rw t at is) in
        (rest.0, rw t rest.1)

given_found_at : (o : Option Row) → option_map_or (λ r. explicit_source r.source) o false ≡ true → (r : Row) × (o ≡ Some r)
given_found_at None is = absurd (true≢false (sym is))
given_found_at (Some r) is = (r, refl)

pub given_found : (id : Text) (rows : List Row) → is_given id rows ≡ true → (r : Row) × (row_at id rows ≡ Some r)
given_found id rows is = given_found_at (row_at id rows) is

-- The row of an argument has values that fit it.
pub record FitsRule (a : Rule) (r : Row) : Type 0 where
  pub count : counted a r.values ≡ []
  pub passes : values_fault a r.values ≡ []
  pub reading : r.reading ≡ reading_by a

pub fits_rule : (c : List Rule) (rows : List Row) (id : Text) (a : Rule) (r : Row) → Each (Fits c) rows → arg_by_id c id ≡ Some a → row_at id rows ≡ Some r → FitsRule a r
fits_rule c rows id a r fits known there =
    let found = found_one (Fits c) (λ x. bytes_eq x.id id) rows r fits there in
    let fit = found.0 in
    let named : r.id ≡ id = (bytes_eq-Decides r.id id).0 found.1 in
    let both : Some fit.rule ≡ Some a = sym fit.known ∙ ap (arg_by_id c) named ∙ known in
    let same : fit.rule ≡ a = ap (λ o. unwrap_or o a) both in
    record {
      count = subst (λ (x : Rule). counted x r.values ≡ []) same fit.count;
      passes = subst (λ (x : Rule). values_fault x r.values ≡ []) same fit.passes;
      reading = fit.reading ∙ ap reading_by same;
    }
