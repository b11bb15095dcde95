-- The Error that refuses a message is short.
use Rattle.std.proofs.Common.{[], refl}
use Rattle.session_rules.specs.Taking.{takes_message}
use Rattle.validator_session.specs.Drafting.{draft_of}
use Rattle.validator_session.proofs.Refusals.{short_error}
use Rattle.validator_session.proofs.Speaking.{failed, lost}
use Rattle.validator_session.proofs.take.take_message.Goals as goal

pub put_error-requires-clause-vendor : goal.put_error-requires-clause-vendor
put_error-requires-clause-vendor c = (short_error _ c.in-Refused-Some.error (rw c.in-Refused-Some.field-0-is at (rw c.in-Refused-Some.is at c.in_ok-words.ensures.said))).0

pub put_error-requires-clause-short : goal.put_error-requires-clause-short
put_error-requires-clause-short c = (short_error _ c.in-Refused-Some.error (rw c.in-Refused-Some.field-0-is at (rw c.in-Refused-Some.is at c.in_ok-words.ensures.said))).1

pub returns-in_err-words-clause-drafted : goal.returns-in_err-words-clause-drafted
returns-in_err-words-clause-drafted c =
    let d = draft_of c.args.draft.now c.args.notes.now c.args.mirror.now in
    failed [] [] d.notes (takes_message d c.args.message.now) d d.notes c.from_residual.result c.from_residual.ensures.0 (lost [] [] d.notes (takes_message d c.args.message.now) d.notes refl refl)
