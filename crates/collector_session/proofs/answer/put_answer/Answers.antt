use Rattle.session_rules.specs.Answering.{gives_up, keeps_place, reach_of}
use Rattle.collector_session.proofs.Answering.{large_so, report_so}
use Rattle.collector_session.proofs.Results.{on_ok}
use Rattle.collector_session.proofs.Sizes.{grown_after}
use Rattle.collector_session.proofs.answer.put_answer.Goals as goal

pub returns-in-Report-clause-answered : goal.returns-in-Report-clause-answered
returns-in-Report-clause-answered c =
    report_so c.args.draft.now c.keep_place.new.self c.put_report.new.self c.args.request.now c.args.reply.now c.in-Report.report c.put_report.result c.in-Report.is c.keep_place.ensures.kept c.put_report.ensures.put

pub returns-in-Report-clause-grown : goal.returns-in-Report-clause-grown
returns-in-Report-clause-grown c =
    on_ok c.put_report.result
    (λ grown. grown_after c.args.draft.now c.keep_place.new.self c.put_report.new.self (keeps_place c.args.request.now (reach_of c.in-Report.report) c.args.draft.now.subs) c.args.draft.now.earlier c.keep_place.ensures.kept grown)
    c.put_report.ensures.grown

pub returns-in-TooLarge-clause-answered : goal.returns-in-TooLarge-clause-answered
returns-in-TooLarge-clause-answered c =
    large_so c.args.draft.now c.give_up.new.self c.put_too_large.new.draft c.args.request.now c.args.reply.now c.in-TooLarge.size c.in-TooLarge.max c.put_too_large.result c.in-TooLarge.is c.give_up.ensures.ended
    c.put_too_large.ensures.put

pub returns-in-TooLarge-clause-grown : goal.returns-in-TooLarge-clause-grown
returns-in-TooLarge-clause-grown c =
    on_ok c.put_too_large.result
    (λ grown. grown_after c.args.draft.now c.give_up.new.self c.put_too_large.new.draft (gives_up c.args.request.now c.args.draft.now.subs) c.args.draft.now.earlier c.give_up.ensures.ended grown) c.put_too_large.ensures.grown
