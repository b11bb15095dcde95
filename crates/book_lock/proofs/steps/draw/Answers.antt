use Rattle.std.proofs.Common.{rules, ℕ, eqb, refl, ap, ◌∙◌, eq-eqb, ne_eqb}
use Rattle.std.proofs.lemmas.Bool.{MatchBool-at_true, MatchBool-at_false}
use Rattle.book_lock.specs.Plays.{Seated, drawn}
use Rattle.book_lock.proofs.Turns.{draws}
use Rattle.book_lock.proofs.steps.draw.Goals as goal

pub compare_exchange-found-requires : goal.compare_exchange-found-requires
compare_exchange-found-requires g c =
    (search rules, search rules, draws _ _ _ _ _ _ refl (search rules) (ap (λ (m : Seated). m.0.stage) c.loop.invariant.2 ∙ c.requires.idle))

pub returns-then-found-next : goal.returns-then-found-next
returns-then-found-next g c =
    let did = MatchBool-at_true _ _ (eq-eqb _ _ c.if-found-next.true) c.compare_exchange-found.ensures.2 in record {
      here = (c.compare_exchange-found.ensures.0 ∙ c.loop.invariant.0, c.compare_exchange-found.ensures.1 ∙ c.loop.invariant.1);
      drawn = did ∙ ap (λ (m : Seated). let z : Seated = (drawn m.0 c.compare_exchange-found.result, m.1) in z) c.loop.invariant.2
          ∙ ap (λ (n : ℕ). let z : Seated = (drawn c.args.seat.now.me.0 n, c.args.seat.now.me.1) in z) c.if-found-next.true;
    }

pub loop-preserved : goal.loop-preserved
loop-preserved g c =
    let did = MatchBool-at_false _ _ (ne_eqb _ _ c.if-found-next.false) c.compare_exchange-found.ensures.2 in
    (c.compare_exchange-found.ensures.0 ∙ c.loop.invariant.0, c.compare_exchange-found.ensures.1 ∙ c.loop.invariant.1, did ∙ c.loop.invariant.2)
