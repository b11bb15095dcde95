-- A message with the Error fits.
use Rattle.std.proofs.Common.{[], ◌∷◌, ◌++◌, ◌∙◌, List, ap, arith, subst, sym}
use Rattle.pa_attrs.specs.declared.attr.Attr.{Attr}
use Rattle.pb_batch.specs.declared.batch.Message.{Message}
use Rattle.session_rules.specs.Messages.{pa_message}
use Rattle.session_rules.specs.Numbers.{next_number}
use Rattle.validator_session.specs.Sizes.{Fits}
use Rattle.validator_session.proofs.Sizes.{error_fits}
use Rattle.validator_session.proofs.take.Draft.put_error.Goals as goal

pub returns-clause-fits : goal.returns-clause-fits
returns-clause-fits c =
    let attrs = c.in_ok-push.ensures.appended ∙ ap (λ (xs : List Attr). xs ++ c.in_ok-error_attribute.field-0 ∷ []) c.new-attrs.ensures.empty ∙ ap (λ (attr : Attr). attr ∷ []) c.in_ok-error_attribute.ensures.attribute in
    let answers = c.in_ok-push-2.ensures.appended ∙ ap (λ (m : Message). c.args.self.now.answers ++ m ∷ []) (c.in_ok-write_words.ensures.message ∙ ap (λ (xs : List Attr). pa_message (next_number c.args.self.now.numbered) xs) attrs) in
    subst (λ (ms : List Message). Fits ms) (sym answers)
    (error_fits (next_number c.args.self.now.numbered) c.args.self.now.answers c.args.error.now c.requires.short (omega (arith, c.if-len-ge-MOST_ANSWERS.false, c.len.ensures.len)) c.requires.fits)
