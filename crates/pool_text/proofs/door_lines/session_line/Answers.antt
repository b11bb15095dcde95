-- The words before those of the end are joined.
use Rattle.std.proofs.Common.{◌∙◌, ◌∷◌, ℕ, List, ap, subst}
use Rattle.std.specs.Prelude.{◌≡◌, IfOk}
use Rattle.std.specs.Fmt.{decimal}
use Rattle.command_text.specs.Ends.{end_words}
use Rattle.command_text.specs.Text.{line}
use Rattle.pool_text.proofs.Lines.{session_words}
use Rattle.pool_text.proofs.door_lines.session_line.Goals as goal

pub returns : goal.returns
returns c =
    let noted = c.args.noted.now in
    let words = end_words noted.1 in
    record {
      line = subst (λ (text : List ℕ). IfOk c.end_line.result (λ made. made ≡ text))
          (ap (λ (who : List ℕ). line (who ∷ words)) (c.deref.ensures ∙ c.in_ok-who.ensures.ok)
          ∙ session_words (decimal c.args.worker) (decimal c.args.session) (decimal noted.0.reports) words)
          c.end_line.ensures.line;
    }
