use Rattle.std.proofs.Common.{sym, ap, ◌∙◌}
use Rattle.std.specs.Option.{option_copied}
use Rattle.session_world.proofs.Joining.{again_none, again_some, on_ok}
use Rattle.session_world.proofs.joined.Joined.take_again.Goals as goal

pub returns-in-None : goal.returns-in-None
returns-in-None c = record { does = λ terms book. again_none terms book c.args.mirror.now c.args.self.now c.args.told.now (sym c.last.ensures.last ∙ ap option_copied c.in-None.is) }

pub returns-in-Some : goal.returns-in-Some
returns-in-Some c = record {
  does = λ terms book.
      on_ok c.take_once_more.result
      (λ took.
      again_some terms book c.args.mirror.now c.take_once_more.new.mirror c.args.self.now c.in-Some.report.now c.args.told.now c.take_once_more.new.told
      (sym c.last.ensures.last ∙ ap option_copied c.in-Some.is) took)
      c.take_once_more.ensures.took;
}
