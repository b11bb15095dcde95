use Rattle.std.proofs.Common.{◌∙◌, sym}
use Rattle.std.specs.Prelude.{Result, Ok, Err, IsOk, OnOk}
use Rattle.std.proofs.lemmas.Bool.{true≢false}
use Rattle.indexmap.proofs.CallerLemmas.{insert_entry-new}
use Rattle.collector_core.proofs.live.push_place.Goals as goal

ok_gives : {A E : Type 0} {P : Type 0} (result : Result A E) → IsOk result → OnOk result P → P
ok_gives (Ok a) ok given = given
ok_gives (Err e) ok given = absurd (true≢false (sym ok))

pub returns : goal.returns
returns c = record {
  appended = ok_gives c.insert.result (c.insert.ensures.succeeds c.requires.room) c.insert.ensures.entries ∙ insert_entry-new _ c.args.places.now c.args.id _ c.requires.new;
}
