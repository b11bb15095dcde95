use Rattle.std.proofs.Common.{◌≡◌, ℕ, ◌++◌, List, length, refl, sym, ap, ◌∙◌}
use Rattle.std.specs.Prelude.{drop, map}
use Rattle.validator_session.specs.declared.notes.TakenReport.{TakenReport}
use Rattle.session_world.specs.declared.joined.Joined.{Joined as JoinedView}
use Rattle.session_world.specs.declared.telling.Telling.{Telling}
use Rattle.session_world.specs.declared.telling.Telling.TheVariants.{ValidatorEnds}
use Rattle.session_world.specs.Lines.{ends}
use Rattle.session_world.specs.Tellings.{taken_telling}
use Rattle.session_world.proofs.Joining.{follow_ended_is, idle_live, idle_over, none_of, on_ok, some_of}
use Rattle.session_world.proofs.joined.Joined.rest_validator.Goals as goal

pub returns-then-is_some : goal.returns-then-is_some
returns-then-is_some c =
    let by = some_of c.args.self.now.validator (sym c.is_some.ensures ∙ c.if-is_some.true) in
    record { does = λ terms book. idle_over terms book c.args.mirror.now c.args.self.now by.0 c.args.told.now by.1 }

pub returns : goal.returns
returns c =
    let next : JoinedView = record { serve = c.args.self.now.serve; follow = c.idle-turn.new.self; collector = c.args.self.now.collector; validator = c.in_ok-self.field-0 } in
    let ended = follow_ended_is c.idle-turn.result c.in_ok-self.field-0 _ c.idle-turn.ensures.turn c.in_ok-self.ensures.ended in
    let taken : List TakenReport = c.idle-turn.new.self.end.standing.notes.reports in
    let before : c.len-before.result ≡ length c.args.self.now.follow.end.standing.notes.reports = c.len-before.ensures.len ∙ ap (λ (rs : List TakenReport). length rs) c.reports.ensures.reports in
    let so_far = c.in_ok-tell_taken.ensures.told ∙ ap (λ (n : ℕ). c.args.told.now ++ map taken_telling (drop n taken)) before in
    record {
      does = λ terms book.
          on_ok c.tell_validator_end.result
          (λ told.
          idle_live terms book c.args.mirror.now c.idle-turn.new.mirror c.args.self.now next c.args.told.now c.tell_validator_end.new.told
          (none_of c.args.self.now.validator (sym c.is_some.ensures ∙ c.if-is_some.false))
          (record {
            turned = c.idle-turn.ensures.turned;
            config = c.idle-turn.ensures.config;
            validator = ended.0;
            well = ended.1;
            serve_config = refl;
            over = refl;
            same = refl;
          })
          refl (told ∙ ap (λ (ts : List Telling). ts ++ ends ValidatorEnds c.in_ok-self.field-0) so_far))
          c.tell_validator_end.ensures.told;
    }
