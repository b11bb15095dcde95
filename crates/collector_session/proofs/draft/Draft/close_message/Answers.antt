use Rattle.std.proofs.Common.{[], ◌∷◌, ◌++◌, ◌∙◌, ap, refl}
use Rattle.pa_attrs.specs.declared.attr.Attr.{Attr}
use Rattle.pb_batch.specs.declared.batch.Message.{Message}
use Rattle.session_rules.specs.Messages.{pa_message}
use Rattle.session_rules.specs.Numbers.{next_number}
use Rattle.std.specs.Prelude.{List}
use Rattle.collector_session.proofs.Sizes.{some_closed}
use Rattle.collector_session.proofs.draft.Draft.close_message.Goals as goal

pub returns-clause-small : goal.returns-clause-small
returns-clause-small c =
    some_closed (next_number c.args.self.now.numbered) c.args.self.now
    (record c.args.self.now { attrs = c.replace-attrs.new.dest; messages = c.push.new.self; numbered = next_number c.args.self.now.numbered }) c.requires.count c.requires.fits (c.replace-attrs.ensures.after ∙ c.new.ensures.empty)
    (c.in_ok-push.ensures.appended
    ∙ ap (λ (m : Message). c.args.self.now.messages ++ m ∷ []) (c.in_ok-write_words.ensures.message ∙ ap (λ (attrs : List Attr). pa_message (next_number c.args.self.now.numbered) attrs) c.replace-attrs.ensures.value)) refl
