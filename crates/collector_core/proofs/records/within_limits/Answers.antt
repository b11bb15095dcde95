use Rattle.std.proofs.Common.{rules, ◌∙◌, ap, subst}
use Rattle.swima_model.specs.declared.record.Content.{Content}
use Rattle.wire_base.specs.Layout.{AreOctets}
use Rattle.collector_core.proofs.records.within_limits.Goals as goal

pub returns : goal.returns
returns c = record {
  content = record {
    pen = search rules;
    kind = search rules;
    source = search rules;
    ident = search rules;
    locator = search rules;
    body = search rules;
    octets = (
      subst AreOctets (c.bytes.ensures.octets ∙ ap (λ (held : Content). held.ident) c.content.view_is) c.are_octets.ensures.octets,
      subst AreOctets (c.bytes-2.ensures.octets ∙ ap (λ (held : Content). held.locator) c.content.view_is) c.are_octets-2.ensures.octets,
      subst AreOctets (c.bytes-3.ensures.octets ∙ ap (λ (held : Content). held.body) c.content.view_is) c.are_octets-3.ensures.octets,
    );
  };
}
