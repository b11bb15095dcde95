use Rattle.std.proofs.Common.{rules, ◌∙◌, [], ap, sym, subst}
use Rattle.event_log.specs.Log.{Log, empty_log}
use Rattle.collector_core.specs.Places.{LiveView}
use Rattle.collector_core.specs.Standing.{BookView, Stands}
use Rattle.collector_core.proofs.Beginning.{new_book, stands_new}
use Rattle.collector_core.proofs.book.Book.new.Goals as goal

pub invariant_of-result : goal.invariant_of-result
invariant_of-result c =
    let start = stands_new (record { epoch = c.args.epoch; cap = c.args.cap; contents = c.args.base.now })
    (record { epoch = (c.requires.numbered, search rules); cap = (c.requires.some, c.requires.few); contents = c.octets_of-octets.ensures.contents }) (search rules) (search rules) in (
      new_book _ _ c.args.base.now _ (search rules) (search rules) c.octets_of-octets.ensures.octets (ap (λ (live : LiveView). live.next) c.in_ok-identified.ensures.records) (ap (λ (live : LiveView). live.records) c.in_ok-identified.ensures.records),
      (
        record { start = record { epoch = c.args.epoch; cap = c.args.cap; contents = c.args.base.now }; entries = [] },
        subst (λ (book : BookView). Stands book (record { start = record { epoch = c.args.epoch; cap = c.args.cap; contents = c.args.base.now }; entries = [] }))
            (ap (λ (live : LiveView). record { epoch = c.args.epoch; next = live.next; records = live.records; log = empty_log c.args.cap }) (sym c.in_ok-identified.ensures.records)
            ∙ ap (λ (log : Log). record { epoch = c.args.epoch; next = c.in_ok-identified.field-0.next; records = c.in_ok-identified.field-0.records; log = log }) (sym c.in_ok-new.ensures.empty))
            start,
      ),
    )

pub returns-clause-stands : goal.returns-clause-stands
unfolding invariant_of-result
returns-clause-stands c = (invariant_of-result c).1.1
