use Rattle.std.proofs.Common.{refl, sym, ◌∙◌}
use Rattle.session_world.specs.declared.joined.Joined.{Joined as JoinedView}
use Rattle.session_world.proofs.Joining.{down_live, down_over, ended_is, none_of, on_ok, some_of}
use Rattle.session_world.proofs.joined.Joined.carry_down.Goals as goal

pub returns-then-is_some : goal.returns-then-is_some
returns-then-is_some c =
    let over = some_of c.args.self.now.collector (sym c.is_some.ensures ∙ c.if-is_some.true) in
    record { does = λ terms mirror. down_over terms c.args.book.now mirror c.args.self.now over.0 c.args.count c.args.told.now over.1 }

pub returns : goal.returns
returns c =
    let next : JoinedView = record { serve = c.hear-turn.new.self; follow = c.carried.new.self; collector = c.in_ok-self.field-0; validator = c.args.self.now.validator } in
    let ended = ended_is c.hear-turn.result c.in_ok-self.field-0 _ c.hear-turn.ensures.turn c.in_ok-self.ensures.ended in
    record {
      does = λ terms mirror.
          on_ok c.tell_collector_end.result
          (λ told.
          down_live terms c.args.book.now c.hear-turn.new.desk mirror c.args.self.now next c.args.count c.args.told.now c.tell_collector_end.new.told
          (none_of c.args.self.now.collector (sym c.is_some.ensures ∙ c.if-is_some.false))
          (record {
            turned = rw c.waiting.ensures.waiting at c.hear-turn.ensures.turned;
            config = c.hear-turn.ensures.config;
            collector = ended.0;
            well = ended.1;
            follow_config = c.carried.ensures.config;
            over = c.carried.ensures.over;
            same = refl;
          })
          c.carried.ensures.stands told)
          c.tell_collector_end.ensures.told;
    }
