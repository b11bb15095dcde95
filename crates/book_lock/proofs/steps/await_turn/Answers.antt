use Rattle.std.proofs.Common.{rules, sym, ap, ◌∙◌, eq-eqb, ne_eqb}
use Rattle.std.proofs.lemmas.Bool.{MatchBool-at_true, MatchBool-at_false}
use Rattle.book_lock.specs.Plays.{Seated, reached}
use Rattle.book_lock.proofs.Turns.{looks}
use Rattle.book_lock.proofs.steps.await_turn.Goals as goal

pub load-turn-requires : goal.load-turn-requires
load-turn-requires g c = (search rules, search rules, looks _ _ _ _ (ap (λ (m : Seated). m.0.stage) c.loop.invariant.2 ∙ c.requires.drawn))

pub returns-then-turn-ticket : goal.returns-then-turn-ticket
returns-then-turn-ticket g c =
    let mine = ap (λ (m : Seated). m.0.ticket) c.loop.invariant.2 ∙ c.requires.ticket in
    let did = MatchBool-at_true _ _ (eq-eqb _ _ (c.if-turn-ticket.true ∙ sym mine)) c.load-turn.ensures.2 in record {
      here = (c.load-turn.ensures.0 ∙ c.loop.invariant.0, c.load-turn.ensures.1 ∙ c.loop.invariant.1);
      reached = did ∙ ap (λ (m : Seated). let z : Seated = (reached m.0, m.1) in z) c.loop.invariant.2;
    }

pub loop-preserved : goal.loop-preserved
loop-preserved g c =
    let mine = ap (λ (m : Seated). m.0.ticket) c.loop.invariant.2 ∙ c.requires.ticket in
    let did = MatchBool-at_false _ _ (ne_eqb _ _ (λ same. c.if-turn-ticket.false (same ∙ mine))) c.load-turn.ensures.2 in
    (c.load-turn.ensures.0 ∙ c.loop.invariant.0, c.load-turn.ensures.1 ∙ c.loop.invariant.1, did ∙ c.loop.invariant.2)
