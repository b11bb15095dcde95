use Rattle.std.proofs.Common.{Option, ◌∙◌, ap, subst}
use Rattle.pa_attrs.specs.declared.error.PaError.{PaError}
use Rattle.session_rules.specs.Answering.{answers_said}
use Rattle.session_rules.specs.Saying.{Refused}
use Rattle.collector_session.specs.Standing.{draft_of}
use Rattle.collector_session.specs.Words.{FewWords}
use Rattle.collector_session.proofs.Results.{on_ok}
use Rattle.collector_session.proofs.Sizes.{none_closed}
use Rattle.collector_session.proofs.message.answer_refused.Goals as goal

pub returns-in-None-clause-put : goal.returns-in-None-clause-put
returns-in-None-clause-put c = ap (λ (r : Option PaError). answers_said (draft_of c.args.draft.now) (Refused r)) c.in-None.is

pub returns-in-None-clause-small : goal.returns-in-None-clause-small
returns-in-None-clause-small c = none_closed c.args.draft.now c.requires.fits c.requires.none

pub put_refusal-requires-clause-vendor : goal.put_refusal-requires-clause-vendor
put_refusal-requires-clause-vendor c = (subst (λ (r : Option PaError). FewWords (Refused r)) c.in-Some.is c.requires.few).0

pub put_refusal-requires-clause-short : goal.put_refusal-requires-clause-short
put_refusal-requires-clause-short c = (subst (λ (r : Option PaError). FewWords (Refused r)) c.in-Some.is c.requires.few).1

pub returns-in-Some-clause-put : goal.returns-in-Some-clause-put
returns-in-Some-clause-put c = on_ok c.put_refusal.result (λ put. ap (λ (r : Option PaError). answers_said (draft_of c.args.draft.now) (Refused r)) c.in-Some.is ∙ put) c.put_refusal.ensures.put
