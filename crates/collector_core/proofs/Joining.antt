-- Histories of legal chronicles, one after another.
use Rattle.std.proofs.Common.{List, [], ◌∷◌}
use Rattle.std.specs.Prelude.{All}
use Rattle.std.proofs.lemmas.List.Elements.{All-append, All-nil, All-head, All-tail}
use Rattle.swima_model.specs.History.{IsHonestEpoch}
use Rattle.collector_core.specs.Chronicle.{Chronicle, history}
use Rattle.collector_core.specs.Legal.{IsLegal}
use Rattle.collector_core.specs.Meaning.{histories, ChroniclesJoin}

all_honest : (chronicles : List Chronicle) → All IsLegal chronicles → All IsHonestEpoch (histories chronicles)
all_honest [] legal = All-nil IsHonestEpoch
all_honest (chronicle ∷ later) legal =
    All-append IsHonestEpoch (history chronicle) (histories later) (All-head IsLegal chronicle later legal).honest.epochs (all_honest later (All-tail IsLegal chronicle later legal))

pub chronicles_join : ChroniclesJoin
chronicles_join chronicles legal distinct = record { epochs = all_honest chronicles legal; distinct = distinct }
