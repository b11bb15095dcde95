use Rattle.std.proofs.Common.{refl, sym, ◌∙◌}
use Rattle.session_world.specs.declared.joined.Joined.{Joined as JoinedView}
use Rattle.session_world.proofs.Joining.{ended_is, none_of, on_ok, rest_live, rest_over, some_of}
use Rattle.session_world.proofs.joined.Joined.rest_collector.Goals as goal

pub returns-then-is_some : goal.returns-then-is_some
returns-then-is_some c =
    let over = some_of c.args.self.now.collector (sym c.is_some.ensures ∙ c.if-is_some.true) in
    record { does = λ terms mirror. rest_over terms c.args.book.now mirror c.args.self.now over.0 c.args.told.now over.1 }

pub returns : goal.returns
returns c =
    let next : JoinedView = record { serve = c.idle-turn.new.self; follow = c.args.self.now.follow; collector = c.in_ok-self.field-0; validator = c.args.self.now.validator } in
    let ended = ended_is c.idle-turn.result c.in_ok-self.field-0 _ c.idle-turn.ensures.turn c.in_ok-self.ensures.ended in
    record {
      does = λ terms mirror.
          on_ok c.tell_collector_end.result
          (λ told.
          rest_live terms c.args.book.now c.idle-turn.new.desk mirror c.args.self.now next c.args.told.now c.tell_collector_end.new.told
          (none_of c.args.self.now.collector (sym c.is_some.ensures ∙ c.if-is_some.false))
          (record { turned = c.idle-turn.ensures.turned; config = c.idle-turn.ensures.config; collector = ended.0; well = ended.1; follow_config = refl; over = refl; same = refl }) refl told)
          c.tell_collector_end.ensures.told;
    }
