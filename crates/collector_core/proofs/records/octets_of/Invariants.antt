use Rattle.std.proofs.Common.{◌≡◌, ◌*◌, ◌≤◌, take}
use Rattle.std.specs.Prelude.{All}
use Rattle.std.specs.List.{sum_by}
use Rattle.swima_model.specs.Size.{content_octets}
use Rattle.collector_core.specs.Legal.{IsContent}
use Rattle.collector_core.proofs.records.octets_of.Given as goal

abbrev pub invariant-loop-content : goal.invariant-loop-content
invariant-loop-content l = record {
  octets : l.octets ≡ sum_by content_octets (take l.content-index l.contents);
  within : l.octets ≤ 1179646 * l.content-index;
  contents : All IsContent (take l.content-index l.contents);
}
