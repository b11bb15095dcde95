use Rattle.std.proofs.Common.{◌∙◌, ap₂}
use Rattle.std.proofs.lemmas.Result.{IfOk-weaker}
use Rattle.clap.specs.Words.{with_rule}
use Rattle.command_options.proofs.collect.collect_command.Goals as goal

pub returns : goal.returns
returns c =
    let one = c.in_ok-arg.ensures.shape c.required_text.ensures.local ∙ ap₂ with_rule c.bare.ensures.app c.required_text.ensures.rule in
    let two = c.in_ok-arg-2.ensures.shape c.required_number.ensures.local ∙ ap₂ with_rule one c.required_number.ensures.rule in
    let three = c.in_ok-arg-3.ensures.shape c.number_or.ensures.local ∙ ap₂ with_rule two c.number_or.ensures.rule in
    let four = c.in_ok-arg-4.ensures.shape c.number_or-2.ensures.local ∙ ap₂ with_rule three c.number_or-2.ensures.rule in
    let five = c.in_ok-arg-5.ensures.shape c.number_or-3.ensures.local ∙ ap₂ with_rule four c.number_or-3.ensures.rule in
    let six = c.in_ok-arg-6.ensures.shape c.number_or-4.ensures.local ∙ ap₂ with_rule five c.number_or-4.ensures.rule in
    record { app = IfOk-weaker c.arg-7.result _ _ (λ r h. h.shape c.words.ensures.local ∙ ap₂ with_rule six c.words.ensures.rule) c.arg-7.ensures }
