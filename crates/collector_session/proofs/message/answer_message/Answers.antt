use Rattle.std.proofs.Common.{◌≤◌, ℕ, List, Option, ap, length, subst, sym}
use Rattle.std.specs.Prelude.{IfSome, Ok}
use Rattle.session_rules.specs.Answering.{answers_body}
use Rattle.session_rules.specs.Clauses.{Drafted}
use Rattle.session_rules.specs.Saying.{swima_body}
use Rattle.session_rules.proofs.Desking.{drafted_done}
use Rattle.collector_session.specs.Standing.{draft_of}
use Rattle.collector_session.proofs.Sizes.{none_closed}
use Rattle.collector_session.proofs.message.answer_message.Goals as goal

pub returns-in-None-clause-drafted : goal.returns-in-None-clause-drafted
returns-in-None-clause-drafted g c =
    drafted_done g.D.Desk.stands g.D.Desk.went g.met.D.Desk.stays g.met.D.Desk.follows g.met.D.Desk.carries {T = Unit {0}} {E = Unit {0}} c.args.desk.now (answers_body (draft_of c.args.draft.now) (swima_body c.args.message.now)) (draft_of c.args.draft.now)
    (Ok tt) (ap (λ (b : Option (List ℕ)). answers_body (draft_of c.args.draft.now) b) (sym c.in-None.ensures.body))

pub returns-in-None-clause-small : goal.returns-in-None-clause-small
returns-in-None-clause-small g c = none_closed c.args.draft.now c.requires.fits c.requires.none

pub answer_body-requires-clause-short : goal.answer_body-requires-clause-short
answer_body-requires-clause-short g c =
    subst (λ (b : List ℕ). length b ≤ 16777216) (sym c.as_slice.ensures.items) (subst (λ (b : Option (List ℕ)). IfSome b (λ body. length body ≤ 16777216)) (sym c.in-Some.ensures.body) c.requires.body)

pub returns-in-Some-clause-drafted : goal.returns-in-Some-clause-drafted
returns-in-Some-clause-drafted g c =
    subst (λ (b : Option (List ℕ)). Drafted g.D.Desk.stands g.D.Desk.went c.args.desk.now c.answer_body.new.desk (answers_body (draft_of c.args.draft.now) b) (draft_of c.answer_body.new.draft) c.answer_body.result)
    c.in-Some.ensures.body (rw c.as_slice.ensures.items at c.answer_body.ensures.drafted)
