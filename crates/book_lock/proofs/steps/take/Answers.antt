use Rattle.std.proofs.Common.{rules, ℕ, List, ◌∷◌, Option, Some, sym, ap, ◌∙◌}
use Rattle.atomic_table.specs.Table.{rest}
use Rattle.collector_core.specs.Standing.{BookView}
use Rattle.book_lock.specs.Plays.{Seated}
use Rattle.book_lock.proofs.Calls.{took_book}
use Rattle.book_lock.proofs.AtTurn.{takes_book}
use Rattle.book_lock.proofs.steps.take.Goals as goal

pub load-requires : goal.load-requires
load-requires c = (search rules, search rules, takes_book _ _ _ _ c.requires.turn c.requires.live)

pub exchange-requires : goal.exchange-requires
exchange-requires c =
    let took = c.load.ensures.2 in
    let at = ap (λ (m : Seated). m.1) took.is in
    (search rules, (Some took.book, at ∙ ap (λ (cs : List (ℕ × Option BookView)). (0, Some took.book) ∷ rest cs) (sym at)))

pub returns : goal.returns
returns c = record {
  here = search rules;
  taken = took_book _ _ _ _ _ _ c.requires.empty c.load.ensures.2 c.exchange.ensures.2 c.exchange.ensures.3 c.in-Some.is;
}
