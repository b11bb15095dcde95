use Rattle.std.proofs.Common.{rules, ◌+◌, ◌∙◌, ◌∷◌, [], ◌++◌, List, ap, sym}
use Rattle.swima_model.specs.declared.record.Content.{Content}
use Rattle.swima_model.specs.declared.record.Record.{Record}
use Rattle.collector_core.specs.Places.{LiveView}
use Rattle.collector_core.proofs.Beginning.{identified_more}
use Rattle.collector_core.proofs.records.identified.Goals as goal

abbrev and_one : LiveView → Content → LiveView
and_one live content = record { next = live.next + 1; records = live.records ++ record { id = live.next; content = content } ∷ [] }

pub loop-content-preserved : goal.loop-content-preserved
loop-content-preserved c =
    c.in_ok-push.ensures.appended
    ∙ ap (λ (x : Content). and_one c.loop-content.live x) c.in_ok-copy.ensures.equal
    ∙ ap (λ (live : LiveView). and_one live c.content-item.result) c.loop-content.invariant
    ∙ ap (λ (rs : List Record). record { next = c.loop-content.content-index + 1 + 1; records = rs }) (sym (identified_more c.args.contents.now c.loop-content.content-index c.content-item.result (search rules) c.content-item.is))
