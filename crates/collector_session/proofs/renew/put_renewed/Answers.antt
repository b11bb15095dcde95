use Rattle.std.proofs.Common.{◌≤◌, ◌∙◌, List, ap, inl, inr, refl, subst, sym, arith}
use Rattle.std.specs.Prelude.{OnOk}
use Rattle.swima_model.specs.declared.report.Point.{Point}
use Rattle.swima_model.specs.declared.report.Report.{Report}
use Rattle.swima_model.specs.Reports.{FitsAttribute}
use Rattle.swima_model.specs.Size.{report_size}
use Rattle.swima_subs.specs.declared.waiting.Waiting.{Waiting}
use Rattle.swima_subs.specs.Subscriptions.{reported}
use Rattle.collector_core.specs.declared.answer.Answer.{Answer}
use Rattle.session_rules.specs.Answering.{puts_report}
use Rattle.collector_session.specs.Answers.{IsTold}
use Rattle.collector_session.specs.Renewing.{Renewed}
use Rattle.collector_session.specs.Standing.{draft_of}
use Rattle.collector_session.proofs.Renewing.{report_renewed}
use Rattle.collector_session.proofs.Results.{on_ok}
use Rattle.collector_session.proofs.Sizes.{grown_after}
use Rattle.swima_model.proofs.Fulfils.{fulfilling_is_alike}
use Rattle.collector_session.proofs.renew.put_renewed.Goals as goal

pub put_report-requires : goal.put_report-requires
put_report-requires c =
    let told = subst (λ (a : Answer). IsTold c.args.draft.now.room a) c.in-Report.is c.requires.told in
    let alike = fulfilling_is_alike c.in-Report.report in
    record {
      fits = subst (λ (r : Report). FitsAttribute r) (sym c.fulfilling.ensures.report) (alike.1 told.0);
      room = subst (λ (r : Report). report_size r ≤ c.args.draft.now.room) (sym c.fulfilling.ensures.report) (omega (arith, alike.0.size, told.1));
    }

pub returns-in-Report-clause-renewed : goal.returns-in-Report-clause-renewed
returns-in-Report-clause-renewed c =
    let place = c.reported.ensures.reported ∙ ap (λ (p : Point). reported c.args.draft.now.subs c.args.id p) c.reach_of.ensures.reach in
    subst (λ (a : Answer). OnOk c.put_report.result (Renewed c.args.config.now (draft_of c.args.draft.now) c.args.id a (draft_of c.put_report.new.self))) (sym c.in-Report.is)
    (report_renewed c.args.config.now c.args.draft.now (record c.args.draft.now { subs = c.reported.new.self }) c.put_report.new.self c.args.id c.in-Report.report c.put_report.result
    (ap (λ (subs : List Waiting). record c.args.draft.now { subs = subs }) place)
    (on_ok c.put_report.result (λ put. put ∙ ap (λ (r : Report). puts_report (draft_of (record c.args.draft.now { subs = c.reported.new.self })) r) c.fulfilling.ensures.report) c.put_report.ensures.put))

pub returns-in-Report-clause-goes : goal.returns-in-Report-clause-goes
returns-in-Report-clause-goes c = on_ok c.put_report.result (λ subs. inr (inl (c.reach_of.result, subs ∙ c.reported.ensures.reported))) c.put_report.ensures.subs

pub returns-in-Report-clause-grown : goal.returns-in-Report-clause-grown
returns-in-Report-clause-grown c =
    on_ok c.put_report.result
    (λ grown. grown_after c.args.draft.now (record c.args.draft.now { subs = c.reported.new.self }) c.put_report.new.self c.reported.new.self c.args.draft.now.earlier refl grown) c.put_report.ensures.grown

pub returns-in-TooLarge-clause-renewed : goal.returns-in-TooLarge-clause-renewed
returns-in-TooLarge-clause-renewed c =
    subst (λ (a : Answer). OnOk c.put_late.result (Renewed c.args.config.now (draft_of c.args.draft.now) c.args.id a (draft_of c.put_late.new.draft))) (sym c.in-TooLarge.is) c.put_late.ensures.put
