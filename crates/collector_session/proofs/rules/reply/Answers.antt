use Rattle.std.proofs.Common.{ap, arith, subst}
use Rattle.pb_batch.specs.declared.kind.BatchKind.TheVariants as kinds
use Rattle.session_rules.specs.ServeRules.{writes_draft}
use Rattle.session_rules.specs.Serving.{Draft as Stand}
use Rattle.session_rules.proofs.Desking.{quietly_then, spoken_talked}
use Rattle.collector_session.specs.declared.draft.Draft.{Draft}
use Rattle.collector_session.specs.Drafting.{drafting}
use Rattle.collector_session.specs.Standing.{draft_of, notes_of, stand_of}
use Rattle.collector_session.proofs.Each.{Held, Lost}
use Rattle.collector_session.proofs.Judging.{sent_lives}
use Rattle.collector_session.proofs.Replying.{first_draft, quietly_lost}
use Rattle.collector_session.proofs.Results.{on_err, on_ok}
use Rattle.collector_session.proofs.Sizes.{batch_fits, first_fits}
use Rattle.collector_session.proofs.rules.reply.Goals as goal

pub answer_batch-requires : goal.answer_batch-requires
answer_batch-requires g c =
    let made = c.new-draft.ensures.made in
    record {
      batch = c.requires.batch;
      fits = first_fits c.new-draft.result (omega (arith, ap (λ (d : Draft). d.room) made, c.requires.max)) (ap (λ (d : Draft). d.attrs) made) (ap (λ (d : Draft). d.messages) made);
      empty = ap (λ (d : Draft). d.messages) made;
      none = ap (λ (d : Draft). d.attrs) made;
    }

pub returns-in_err-answer_batch-clause-talked : goal.returns-in_err-answer_batch-clause-talked
returns-in_err-answer_batch-clause-talked g c =
    let made = c.new-draft.ensures.made in
    let first = first_draft c.args.config.now c.args.standing.now.subs c.args.standing.now.numbered in
    on_err _ c.from_residual.result c.from_residual.ensures.0
    (quietly_lost g.D.Desk.stands g.D.Desk.went c.args.desk.now c.answer_batch.new.desk c.args.out.now (notes_of c.args.standing.now.record) (drafting c.args.config.now (draft_of first) c.args.messages.now) (λ (d : Stand). writes_draft (stand_of c.args.standing.now) d)
    (subst (λ (d : Draft). Lost g.D.Desk.stands g.D.Desk.went c.args.desk.now c.answer_batch.new.desk (drafting c.args.config.now (draft_of d) c.args.messages.now)) (rw c.replace-subs.ensures.value at made) c.in_err-answer_batch.ensures.drafted))

pub write_draft-requires-clause-batch : goal.write_draft-requires-clause-batch
write_draft-requires-clause-batch g c =
    let fits = c.in_ok-answer_batch.ensures.fits in
    batch_fits fits.0 kinds.Cdata c.answer_batch.new.draft fits.1 fits.2

pub returns-clause-talked : goal.returns-clause-talked
returns-clause-talked g c =
    let made = c.new-draft.ensures.made in
    let first = first_draft c.args.config.now c.args.standing.now.subs c.args.standing.now.numbered in
    quietly_then g.D.Desk.stands g.D.Desk.went g.met.D.Desk.stays g.met.D.Desk.follows g.met.D.Desk.carries c.args.desk.now c.answer_batch.new.desk c.answer_batch.new.desk c.args.out.now c.write_draft.new.out (notes_of c.args.standing.now.record)
    (drafting c.args.config.now (draft_of first) c.args.messages.now) (λ (d : Stand). writes_draft (stand_of c.args.standing.now) d) (draft_of c.answer_batch.new.draft) (stand_of c.write_draft.new.standing) (notes_of c.write_draft.new.standing.record)
    c.write_draft.result
    (subst (λ (d : Draft). Held g.D.Desk.stands g.D.Desk.went c.args.desk.now c.answer_batch.new.desk (drafting c.args.config.now (draft_of d) c.args.messages.now) (draft_of c.answer_batch.new.draft)) (rw c.replace-subs.ensures.value at made) c.in_ok-answer_batch.ensures.drafted)
    (spoken_talked g.D.Desk.stands g.D.Desk.went g.met.D.Desk.stays g.met.D.Desk.follows g.met.D.Desk.carries c.answer_batch.new.desk c.args.out.now c.write_draft.new.out (notes_of c.args.standing.now.record)
    (writes_draft (stand_of c.args.standing.now) (draft_of c.answer_batch.new.draft)) (stand_of c.write_draft.new.standing) (notes_of c.write_draft.new.standing.record) c.write_draft.result c.write_draft.ensures.spoken)

pub returns-clause-live : goal.returns-clause-live
returns-clause-live g c = on_ok c.write_draft.result (λ sent. rw sent (sent_lives c.args.standing.now.machine c.requires.client c.requires.may)) c.write_draft.ensures.machine
