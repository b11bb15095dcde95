-- The change is none of the others.
use Rattle.std.proofs.Common.{sym, subst, arith}
use Rattle.std.specs.Prelude.{OnOk}
use Rattle.std.proofs.lemmas.Bool.{ne_eqb}
use Rattle.session_script.specs.declared.line.Line.{Line}
use Rattle.session_script.specs.Replay.{IsEntered}
use Rattle.session_day.specs.Days.{Steps}
use Rattle.session_day.proofs.Daily.{day_alters}
use Rattle.session_day.proofs.day.Day.change.Goals as goal

pub returns-in_default : goal.returns-in_default
returns-in_default c = record {
  changes = subst (λ (line : Line). OnOk c.alter.result (Steps (IsEntered line c.args.number) c.args.self.now c.alter.new.self))
      (sym (day_alters c.args.count c.args.number (ne_eqb _ _ (λ is. omega (arith, c.in_default, is))) (ne_eqb _ _ (λ is. omega (arith, c.in_default, is))))) c.alter.ensures.changes;
}
