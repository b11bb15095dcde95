use Rattle.std.proofs.Common.{◌∙◌, ap₂}
use Rattle.std.proofs.lemmas.Result.{IfOk-weaker}
use Rattle.clap.specs.Words.{with_rule}
use Rattle.command_options.proofs.follow.follow_command.Goals as goal

pub returns : goal.returns
returns c =
    let one = c.in_ok-arg.ensures.shape c.text_or.ensures.local ∙ ap₂ with_rule c.bare.ensures.app c.text_or.ensures.rule in
    let two = c.in_ok-arg-2.ensures.shape c.text_or-2.ensures.local ∙ ap₂ with_rule one c.text_or-2.ensures.rule in
    let three = c.in_ok-arg-3.ensures.shape c.number_or.ensures.local ∙ ap₂ with_rule two c.number_or.ensures.rule in
    let four = c.in_ok-arg-4.ensures.shape c.number_or-2.ensures.local ∙ ap₂ with_rule three c.number_or-2.ensures.rule in
    record { app = IfOk-weaker c.arg-5.result _ _ (λ r h. h.shape c.required_words.ensures.local ∙ ap₂ with_rule four c.required_words.ensures.rule) c.arg-5.ensures }
