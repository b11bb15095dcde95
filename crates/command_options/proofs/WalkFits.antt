-- What words that pass, and defaults that do, make of the rows.
use Rattle.std.proofs.Common.{◌≡◌, ◌∷◌, [], Bool, List, Option, Some, None, cond, true, false, refl, sym, subst, is_some, arith, ne_eqb}
use Rattle.std.specs.List.{fold}
use Rattle.clap.specs.Faults.{default_fault, defaults_fault, given_default_fault, step_fault, turn_fault, values_fault, walk_fault, word_fault}
use Rattle.clap.specs.Kinds.{or_else, request_kinds}
use Rattle.clap.specs.Simple.{Shape}
use Rattle.clap.specs.Walk.{Names, Row, Rule, Text, Walk, action_of, default_rows, has_row, is_empty, more_values, reading_by, walked, walked_from, with_default, word_met}
use Rattle.clap.specs.declared.parser.matches.ValueSource.TheVariants.{DefaultValue}
use Rattle.command_options.proofs.RowsFit.{DefaultCounts, Each, Fits, IsFine, at_end, each_more, or_none, row_with}
use Rattle.command_options.proofs.WordsFit.{step_fits, word_fits}

module _ (s : Shape) (over : s.args_override_self ≡ false) (fine : Each (IsFine s.rules) s.rules) (names : Names) where
  turned : (o : Option (Text × List Text)) (w : Walk) (word : Text)
      → cond (is_some o) [] (or_else (word_fault s names w.is_trailing w.waiting word w.held)
      (step_fault s w.position (word_met s.rules names w.is_trailing w.waiting w.position word w.held).0 (word_met s.rules names w.is_trailing w.waiting w.position word w.held).1)) ≡ []
      → Each (Fits s.rules) w.held.rows → Each (Fits s.rules) (walked_from s.rules names o w word).held.rows
  turned (Some p) w word fault fits = fits
  turned None w word fault fits =
      let parts = or_none _ _ fault in
      let met = word_met s.rules names w.is_trailing w.waiting w.position word w.held in
      step_fits s over fine w word met.0 met.1 parts.1 (word_fits s over fine names w.is_trailing w.waiting w.position word w.held parts.0 fits)

  turn_fits : (w : Walk) (word : Text) → turn_fault s names w word ≡ [] → Each (Fits s.rules) w.held.rows → Each (Fits s.rules) (walked s.rules names w word).held.rows
  unfolding walked
  turn_fits w word fault fits = turned w.stopped w word fault fits

  pub walk_fits : (words : List Text) (w : Walk) → walk_fault s names w words ≡ [] → Each (Fits s.rules) w.held.rows
      → Each (Fits s.rules) (fold (walked s.rules names) w words).held.rows
  unfolding walk_fault
  walk_fits [] w fault fits = fits
  walk_fits (word ∷ rest) w fault fits =
      let parts = or_none _ _ fault in
      walk_fits rest (walked s.rules names w word) parts.1 (turn_fits w word parts.0 fits)

-- ---- defaults

module _ (c : List Rule) where
  default_given : (a : Rule) (rows : List Row) (ds : List Text) → IsFine c a → DefaultCounts a ds → has_row a.id rows ≡ false
      → cond (is_empty ds) [] (given_default_fault a ds) ≡ [] → Each (Fits c) rows → Each (Fits c) (default_rows a.id (reading_by a) ds rows)
  default_given a rows [] fine counts none fault fits = fits
  default_given a rows (v ∷ vs) fine counts none fault fits =
      let some : is_empty (v ∷ vs) ≡ false = ne_eqb _ _ (λ e. omega (arith, e)) in
      let passes = or_none (request_kinds (action_of a)) (values_fault a (v ∷ vs)) (rw some at fault) in
      subst (Each (Fits c)) (sym (at_end a.id (more_values DefaultValue (v ∷ vs)) (row_with a DefaultValue (v ∷ vs) ∷ []) rows none))
      (each_more (Fits c) rows (row_with a DefaultValue (v ∷ vs)) fits (record {
        rule = a;
        known = fine.known;
        count = counts;
        passes = passes.1;
        reading = refl;
      }))

  default_fits : (a : Rule) (rows : List Row) → IsFine c a → default_fault rows a ≡ [] → Each (Fits c) rows → Each (Fits c) (with_default rows a)
  default_fits a rows fine fault fits = go (has_row a.id rows) refl
    where
      go : (b : Bool) → has_row a.id rows ≡ b → Each (Fits c) (with_default rows a)
      go true t = rw t fits
      go false t = rw t (default_given a rows a.defaults fine fine.defaults t (rw t at fault) fits)

  pub defaults_fit : (xs : List Rule) (rows : List Row) → Each (IsFine c) xs → defaults_fault rows xs ≡ [] → Each (Fits c) rows → Each (Fits c) (fold with_default rows xs)
  unfolding defaults_fault
  defaults_fit [] rows fine fault fits = fits
  defaults_fit (a ∷ rest) rows fine fault fits =
      let parts = or_none _ _ fault in
      defaults_fit rest (with_default rows a) fine.1 parts.1 (default_fits a rows fine.0 parts.0 fits)
