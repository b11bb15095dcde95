use Rattle.std.proofs.Common.{◌≡◌, ◌+◌, ◌-◌, ◌^◌, ◌<◌, ◌∙◌, ℕ, List, Option, Some, sym, ap, subst}
use Rattle.swima_model.specs.declared.record.Record.{Record}
use Rattle.swima_model.specs.Live.{record_of}
use Rattle.swima_model.specs.Size.{records_octets}
use Rattle.collector_core.specs.Legal.{IsContent}
use Rattle.collector_core.specs.Places.{Takes}
use Rattle.collector_core.specs.Refusals.{others_than}
use Rattle.collector_core.specs.Standing.{BookView, IsDeletion, book_after}
use Rattle.collector_core.proofs.Changing.{taken_at}
use Rattle.collector_core.proofs.Lives.{take_live, take_now}
use Rattle.collector_core.proofs.Keeping.{some_deleted}
use Rattle.collector_core.proofs.book.Book.remove.Goals as goal

some_same : (a b : Record) → Some a ≡ Some b → a ≡ b
some_same a b e = cc

-- What was taken out is what was found.
took : (id : ℕ) (old new : List Record) (held : Option Record) (taken : Record) → Takes id old held new → held ≡ Some taken → Takes id old (Some taken) new
took id old new held taken takes is = subst (λ (o : Option Record). Takes id old o new) is takes

pub invariant_of-self : goal.invariant_of-self
invariant_of-self c =
    let more = subst (λ (book : BookView). book.log.last < 2 ^ 32 - 1) (sym c.self.view_is) c.requires.last in
    let counted = subst (λ (book : BookView). c.args.octets ≡ records_octets (others_than c.args.id book.records)) (sym c.self.view_is) c.requires.octets in
    let takes = took c.args.id c.self.inside.records.records _ _ _ c.take.ensures.others c.unwrap-subject.ensures in
    let is = take_live _ _ c.args.id c.self.inside.records _ _ c.self.invariant.0 takes c.take.ensures.next counted in
    let now = take_now (record { epoch = c.self.inside.epoch; next = c.self.inside.records.next; records = c.self.inside.records.records; log = c.self.inside.log }) _ _ _ _ _ _ c.args.id
    c.self.invariant.0 takes c.take.ensures.next (ap (λ n. n + 1) c.last.ensures.last) c.push-oldest.ensures.pushed in (
      is,
      some_deleted _ _ _ c.args.stamp.now c.self.invariant.0 c.self.invariant.1 c.last.ensures.log c.requires.stamp is.fits c.args.id _ more (taken_at c.args.id _ _ _ takes)
          (λ held found. subst (λ (r : Record). IsContent r.content) (some_same _ held (sym c.unwrap-subject.ensures ∙ c.take.ensures.taken ∙ found)) c.within_limits.ensures.content)
          now,
    )

pub returns-clause-removed : goal.returns-clause-removed
returns-clause-removed c =
    let takes = took c.args.id c.self.inside.records.records _ _ _ c.take.ensures.others c.unwrap-subject.ensures in
    let after = take_now (record { epoch = c.self.inside.epoch; next = c.self.inside.records.next; records = c.self.inside.records.records; log = c.self.inside.log }) _ _ _ _ _ _ c.args.id
    c.self.invariant.0 takes c.take.ensures.next (ap (λ n. n + 1) c.last.ensures.last) c.push-oldest.ensures.pushed in (
      after.0,
      subst (λ (book : BookView). IsDeletion book.log.last book.records c.args.stamp.now c.args.id after.0) c.self.view_is after.1,
      after.2 ∙ ap (λ (book : BookView). book_after book after.0) c.self.view_is,
    )

pub returns-clause-content : goal.returns-clause-content
returns-clause-content c held found =
    let here = ap (λ (book : BookView). record_of c.args.id book.records) c.self.view_is in
    subst (λ (r : Record). IsContent r.content) (some_same _ held (sym c.unwrap-subject.ensures ∙ c.take.ensures.taken ∙ here ∙ found)) c.within_limits.ensures.content

pub returns-clause-fits : goal.returns-clause-fits
returns-clause-fits c = (invariant_of-self c).0.fits
