use Rattle.std.proofs.Common.{rules, ◌≡◌, ◌+◌, ◌∙◌, None, refl, sym, ap, subst}
use Rattle.collector_core.specs.declared.chronicle.Entry.TheVariants as entry
use Rattle.collector_core.specs.Refusals.{create_refusal}
use Rattle.collector_core.specs.Standing.{BookView, book_after, creation}
use Rattle.collector_core.proofs.Lives.{add_live, add_now}
use Rattle.collector_core.proofs.Keeping.{some_created}
use Rattle.collector_core.proofs.book.Book.add.Goals as goal

pub invariant_of-self-2 : goal.invariant_of-self-2
invariant_of-self-2 c =
    let allowed = subst (λ (book : BookView). create_refusal book.log.last book.next book.records c.args.content.now ≡ None) (sym c.self.view_is) c.requires.allowed in
    let is = add_live _ _ _ c.self.inside.records _ _ c.args.content.now c.self.invariant.0 allowed refl c.octets.ensures.octets c.in_ok-content.ensures.added in
    let now = add_now (record { epoch = c.self.inside.epoch; next = c.self.inside.records.next; records = c.self.inside.records.records; log = c.self.inside.log }) _ _ _ _ _ c.args.content.now _ _ _ c.self.invariant.0 refl
    c.in_ok-content.ensures.copy c.in_ok-content.ensures.added (ap (λ n. n + 1) c.last.ensures.last) c.next-id.ensures.next c.push-oldest.ensures.pushed in
    (is, some_created _ _ _ c.args.stamp.now c.args.content.now c.self.invariant.0 c.self.invariant.1 c.last.ensures.log c.requires.stamp c.requires.content is.fits (search rules) allowed now)

pub returns-clause-added : goal.returns-clause-added
returns-clause-added c = (
  c.next-id.ensures.next ∙ ap (λ (book : BookView). book.next) c.self.view_is,
  add_now (record { epoch = c.self.inside.epoch; next = c.self.inside.records.next; records = c.self.inside.records.records; log = c.self.inside.log }) _ _ _ _ _ c.args.content.now _ _ _ c.self.invariant.0 refl
      c.in_ok-content.ensures.copy c.in_ok-content.ensures.added (ap (λ n. n + 1) c.last.ensures.last) c.next-id.ensures.next c.push-oldest.ensures.pushed
      ∙ ap (λ (book : BookView). book_after book (entry.Event (creation book.log.last book.next c.args.stamp.now c.args.content.now))) c.self.view_is,
)

pub returns-clause-fits : goal.returns-clause-fits
returns-clause-fits c = (invariant_of-self-2 c).0.fits
