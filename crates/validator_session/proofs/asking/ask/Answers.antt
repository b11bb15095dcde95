-- A message with the request can be written.
use Rattle.std.proofs.Common.{[], ◌∷◌, ◌++◌, ◌∙◌, List, ap}
use Rattle.pa_attrs.specs.declared.attr.Attr.{Attr}
use Rattle.swima_request.specs.RequestForm.{written_request}
use Rattle.validator_session.specs.Standing.{stand_of}
use Rattle.validator_session.proofs.Sizes.{request_written}
use Rattle.validator_session.proofs.asking.ask.Goals as goal

pub write_words-requires : goal.write_words-requires
write_words-requires c = record {
  written = request_written c.args.config.now (stand_of c.args.standing.now c.args.mirror.now) _ c.in_ok-value.value _ (c.in_ok-value.ensures.octets ∙ ap written_request c.next_request-request.ensures.request)
      (c.in_ok-push.ensures.appended ∙ ap (λ (attrs : List Attr). attrs ++ c.attribute.result ∷ []) c.new-attrs.ensures.empty ∙ ap (λ (attr : Attr). attr ∷ []) c.attribute.ensures.attribute);
}
