use Rattle.std.proofs.Common.{◌≡◌, ◌-◌, Option, Some, None, sym, ap, subst, ◌∙◌}
use Rattle.session_world.specs.declared.joined.Joined.{Joined as JoinedView}
use Rattle.session_world.specs.Lines.{carries_up, ups}
use Rattle.session_world.specs.Standing.{Does, DoesOk, WorldView, joined_view}
use Rattle.session_world.specs.World.{World, Joined, up_waits}
use Rattle.session_world.proofs.Rounds.{no_session}
use Rattle.std.specs.Prelude.{take}
use Rattle.session_world.proofs.world.World.carry_up.Goals as goal

pub returns-in-None : goal.returns-in-None
returns-in-None c =
    let none : c.args.self.now.joined ≡ None = ap (λ (v : WorldView). v.joined) (sym c.self.view_is) ∙ c.in-None.is in
    record {
      does = subst (λ (v : WorldView). Does (ups c.args.count) c.args.self.now c.args.told.now v c.args.told.now) (sym c.self.view_is)
          (no_session c.args.self.now c.args.told.now (λ (w : World) (j : Joined). carries_up w j (take c.args.count (up_waits w j))) none);
    }

pub returns-in-Some : goal.returns-in-Some
returns-in-Some c =
    let before : c.args.self.now ≡ joined_view c.self.inside.terms c.self.inside.book c.self.inside.mirror c.in-Some.joined =
    sym c.self.view_is ∙ ap (λ (j : Option JoinedView). record { terms = c.self.inside.terms; book = c.self.inside.book; mirror = c.self.inside.mirror; joined = j }) c.in-Some.is in
    record {
      does = subst (λ (v : WorldView). DoesOk (ups c.args.count) v c.args.told.now (joined_view c.self.inside.terms c.self.inside.book c.carry_up.new.mirror c.carry_up.new.self) c.carry_up.new.told c.carry_up.result) (sym before)
          (c.carry_up.ensures.does c.self.inside.terms c.self.inside.book);
    }
