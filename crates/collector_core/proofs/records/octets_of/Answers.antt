use Rattle.std.proofs.Common.{rules, ◌≡◌, ◌+◌, ◌∙◌, ◌∷◌, [], get_or, take, ap, subst, arith}
use Rattle.std.specs.List.{sum_by}
use Rattle.std.proofs.lemmas.List.{take_more}
use Rattle.std.proofs.lemmas.List.Sums.{sum_by-append}
use Rattle.std.proofs.lemmas.List.Elements.{All-more}
use Rattle.swima_model.specs.Size.{content_octets}
use Rattle.collector_core.specs.Legal.{IsContent}
use Rattle.collector_core.proofs.records.octets_of.Goals as goal

pub loop-content-preserved : goal.loop-content-preserved
loop-content-preserved c =
    let one : sum_by content_octets (take (c.loop-content.content-index + 1) c.args.contents.now) ≡ sum_by content_octets (take c.loop-content.content-index c.args.contents.now) + (0 + content_octets (get_or c.args.contents.now c.loop-content.content-index c.content-item.result)) =
    ap (sum_by content_octets) (take_more c.args.contents.now c.loop-content.content-index c.content-item.result (search rules))
    ∙ sum_by-append content_octets (take c.loop-content.content-index c.args.contents.now) (get_or c.args.contents.now c.loop-content.content-index c.content-item.result ∷ []) in
    record {
      octets = omega (arith, one, c.loop-content.invariant.octets, c.octets-octets.ensures.octets, ap content_octets c.content-item.is);
      within = omega (arith, c.loop-content.invariant.within, c.octets-octets.ensures.within);
      contents = All-more IsContent c.args.contents.now c.loop-content.content-index c.content-item.result (search rules) c.loop-content.invariant.contents (subst IsContent c.content-item.is c.within_limits.ensures.content);
    }
