use Rattle.std.proofs.Common.{◌≡◌, ℕ, ◌++◌, List, length, refl, sym, ap, ◌∙◌}
use Rattle.std.specs.Prelude.{drop, map}
use Rattle.validator_session.specs.declared.notes.TakenReport.{TakenReport}
use Rattle.session_world.specs.declared.joined.Joined.{Joined as JoinedView}
use Rattle.session_world.specs.declared.telling.Telling.{Telling}
use Rattle.session_world.specs.declared.telling.Telling.TheVariants.{ValidatorEnds}
use Rattle.session_world.specs.Lines.{ends}
use Rattle.session_world.specs.Tellings.{taken_telling}
use Rattle.session_world.proofs.Joining.{follow_ended_is, up_live, up_over, none_of, on_ok, some_of}
use Rattle.session_world.proofs.joined.Joined.carry_up.Goals as goal

pub returns-then-is_some : goal.returns-then-is_some
returns-then-is_some c =
    let by = some_of c.args.self.now.validator (sym c.is_some.ensures ∙ c.if-is_some.true) in
    record { does = λ terms book. up_over terms book c.args.mirror.now c.args.self.now by.0 c.args.count c.args.told.now by.1 }

pub returns : goal.returns
returns c =
    let next : JoinedView = record { serve = c.carried.new.self; follow = c.hear-turn.new.self; collector = c.args.self.now.collector; validator = c.in_ok-self.field-0 } in
    let ended = follow_ended_is c.hear-turn.result c.in_ok-self.field-0 _ c.hear-turn.ensures.turn c.in_ok-self.ensures.ended in
    let taken : List TakenReport = c.hear-turn.new.self.end.standing.notes.reports in
    let before : c.len-before.result ≡ length c.args.self.now.follow.end.standing.notes.reports = c.len-before.ensures.len ∙ ap (λ (rs : List TakenReport). length rs) c.reports.ensures.reports in
    let so_far = c.in_ok-tell_taken.ensures.told ∙ ap (λ (n : ℕ). c.args.told.now ++ map taken_telling (drop n taken)) before in
    record {
      does = λ terms book.
          on_ok c.tell_validator_end.result
          (λ told.
          up_live terms book c.args.mirror.now c.hear-turn.new.mirror c.args.self.now next c.args.count c.args.told.now c.tell_validator_end.new.told
          (none_of c.args.self.now.validator (sym c.is_some.ensures ∙ c.if-is_some.false))
          (record {
            turned = rw c.waiting.ensures.waiting at c.hear-turn.ensures.turned;
            config = c.hear-turn.ensures.config;
            validator = ended.0;
            well = ended.1;
            serve_config = c.carried.ensures.config;
            over = c.carried.ensures.over;
            same = refl;
          })
          c.carried.ensures.stands c.carried.ensures.over (told ∙ ap (λ (ts : List Telling). ts ++ ends ValidatorEnds c.in_ok-self.field-0) so_far))
          c.tell_validator_end.ensures.told;
    }
