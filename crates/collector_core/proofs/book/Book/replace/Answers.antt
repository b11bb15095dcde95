use Rattle.std.proofs.Common.{◌+◌, ◌-◌, ◌^◌, ◌<◌, ◌∙◌, refl, sym, ap, subst}
use Rattle.collector_core.specs.declared.chronicle.Entry.TheVariants as entry
use Rattle.collector_core.specs.Book.{IsExchange}
use Rattle.collector_core.specs.Standing.{BookView, book_after, alteration}
use Rattle.collector_core.proofs.Changing.{put_at}
use Rattle.collector_core.proofs.Lives.{put_live, put_now}
use Rattle.collector_core.proofs.Keeping.{some_altered}
use Rattle.collector_core.proofs.book.Book.replace.Goals as goal

pub invariant_of-self-2 : goal.invariant_of-self-2
invariant_of-self-2 c =
    let exchange = subst (λ (book : BookView). IsExchange book.records c.args.id c.args.content.now c.args.octets) (sym c.self.view_is) c.requires.octets in
    let more = subst (λ (book : BookView). book.log.last < 2 ^ 32 - 1) (sym c.self.view_is) c.requires.last in
    let is = put_live _ _ c.args.id c.self.inside.records _ _ c.args.content.now c.self.invariant.0 exchange refl c.in_ok-content.ensures.put c.in_ok-content.ensures.next in
    let now = put_now (record { epoch = c.self.inside.epoch; next = c.self.inside.records.next; records = c.self.inside.records.records; log = c.self.inside.log }) _ _ _ _ _ c.args.content.now _ _ c.args.id
    c.self.invariant.0 refl c.in_ok-content.ensures.copy c.in_ok-content.ensures.put c.in_ok-content.ensures.next (ap (λ n. n + 1) c.last.ensures.last) c.push-oldest.ensures.pushed in (
      is,
      some_altered _ _ _ c.args.stamp.now c.args.content.now c.self.invariant.0 c.self.invariant.1 c.last.ensures.log c.requires.stamp c.requires.content is.fits c.args.id _ c.args.octets more
          (put_at c.args.id _ _ _ c.in_ok-content.ensures.put) exchange now,
    )

pub returns-clause-altered : goal.returns-clause-altered
returns-clause-altered c =
    put_now (record { epoch = c.self.inside.epoch; next = c.self.inside.records.next; records = c.self.inside.records.records; log = c.self.inside.log }) _ _ _ _ _ c.args.content.now _ _ c.args.id
    c.self.invariant.0 refl c.in_ok-content.ensures.copy c.in_ok-content.ensures.put c.in_ok-content.ensures.next (ap (λ n. n + 1) c.last.ensures.last) c.push-oldest.ensures.pushed
    ∙ ap (λ (book : BookView). book_after book (entry.Event (alteration book.log.last c.args.stamp.now c.args.id c.args.content.now))) c.self.view_is

pub returns-clause-fits : goal.returns-clause-fits
returns-clause-fits c = (invariant_of-self-2 c).0.fits
