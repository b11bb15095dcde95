use Rattle.std.proofs.Common.{rules, ℕ, [], List, ◌∷◌, Option, None, sym, ap, ◌∙◌}
use Rattle.atomic_table.specs.Table.{rest}
use Rattle.collector_core.specs.Standing.{BookView}
use Rattle.book_lock.specs.Plays.{Seated, resting}
use Rattle.book_lock.proofs.AtTurn.{passes_on}
use Rattle.book_lock.proofs.steps.give.Goals as goal

pub exchange-requires : goal.exchange-requires
exchange-requires c =
    let at = c.requires.taken in
    (search rules, (None, at ∙ ap (λ (cs : List (ℕ × Option BookView)). (0, None) ∷ rest cs) (sym at)))

pub fetch_add-requires : goal.fetch_add-requires
fetch_add-requires c = (search rules, search rules, passes_on _ _ _ _ _ _ c.exchange.ensures.3 c.requires.taken c.requires.holds c.requires.live c.requires.stands)

pub returns-clause-rests : goal.returns-clause-rests
returns-clause-rests c = c.fetch_add.ensures.2 ∙ ap (λ (m : Seated). let z : Seated = (resting m.0, []) in z) c.exchange.ensures.3
