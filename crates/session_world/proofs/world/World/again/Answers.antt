use Rattle.std.proofs.Common.{◌≡◌, ◌-◌, Option, Some, None, sym, ap, subst, ◌∙◌}
use Rattle.session_world.specs.declared.joined.Joined.{Joined as JoinedView}
use Rattle.session_world.specs.Lines.{again, takes_again}
use Rattle.session_world.specs.Standing.{DoesOk, WorldView, joined_view}
use Rattle.session_world.specs.World.{World, Joined, following}
use Rattle.session_world.proofs.Rounds.{no_session}
use Rattle.session_world.proofs.world.World.again.Goals as goal

pub returns-in-None : goal.returns-in-None
returns-in-None c =
    let none : c.args.self.now.joined ≡ None = ap (λ (v : WorldView). v.joined) (sym c.self.view_is) ∙ c.in-None.is in
    record { does = no_session c.args.self.now c.args.told.now (λ (w : World) (j : Joined). takes_again w (following j).1.notes.last) none }

pub returns-in-Some : goal.returns-in-Some
returns-in-Some c =
    let before : c.args.self.now ≡ joined_view c.self.inside.terms c.self.inside.book c.self.inside.mirror c.in-Some.joined =
    sym c.self.view_is ∙ ap (λ (j : Option JoinedView). record { terms = c.self.inside.terms; book = c.self.inside.book; mirror = c.self.inside.mirror; joined = j }) c.in-Some.is in
    record {
      does = subst (λ (v : WorldView). DoesOk again v c.args.told.now (record { terms = c.self.inside.terms; book = c.self.inside.book; mirror = c.take_again.new.mirror; joined = c.self.inside.joined }) c.take_again.new.told c.take_again.result) (sym before)
          (subst (λ (o : Option JoinedView). DoesOk again (joined_view c.self.inside.terms c.self.inside.book c.self.inside.mirror c.in-Some.joined) c.args.told.now
          (record { terms = c.self.inside.terms; book = c.self.inside.book; mirror = c.take_again.new.mirror; joined = o }) c.take_again.new.told c.take_again.result)
          (sym c.in-Some.is) (c.take_again.ensures.does c.self.inside.terms c.self.inside.book));
    }
