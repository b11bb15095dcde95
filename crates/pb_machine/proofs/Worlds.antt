-- The worlds that are reached, of which there are 81: for the states of both ends, what may be on
-- its way to the client and to the server. The steps from each of them lead to others of them.
use Rattle.std.specs.Prelude.{List, [], ◌∷◌, ◌++◌, map}
use Rattle.pb_batch.specs.declared.kind.BatchKind.{BatchKind}
use Rattle.pb_batch.specs.declared.kind.BatchKind.TheVariants.{Cdata, Sdata, Outcome, Cretry, Sretry, Close}
use Rattle.pb_machine.specs.declared.machine.State.{State}
use Rattle.pb_machine.specs.declared.machine.State.TheVariants.{Init, ServerWorking, ClientWorking, Decided, End}
use Rattle.pb_machine.specs.World.{World}

-- The client is in the first state and the server in the second, with any of these pairs on its
-- way.
abbrev both : State → State → List (List BatchKind × List BatchKind) → List World
both client server ways = map (λ (way : List BatchKind × List BatchKind). record { client = client; server = server; to_client = way.0; to_server = way.1 }) ways

-- All of them.
unfoldable pub worlds : List World
worlds =
    both Init Init
    (([], [])
    ∷ [])
    ++ both Init End
    ((Close ∷ [], [])
    ∷ [])
    ++ both ServerWorking Init
    (([], Cdata ∷ [])
    ∷ [])
    ++ both ServerWorking ServerWorking
    (([], [])
    ∷ (Sretry ∷ [], [])
    ∷ [])
    ++ both ServerWorking ClientWorking
    (([], Cdata ∷ [])
    ∷ ([], Cretry ∷ [])
    ∷ (Sdata ∷ [], [])
    ∷ (Sretry ∷ [], Cretry ∷ [])
    ∷ (Outcome ∷ Sretry ∷ [], [])
    ∷ (Sretry ∷ Sdata ∷ [], [])
    ∷ (Sretry ∷ Outcome ∷ Sretry ∷ [], [])
    ∷ [])
    ++ both ServerWorking Decided
    (([], Cretry ∷ [])
    ∷ (Outcome ∷ [], [])
    ∷ (Sretry ∷ Outcome ∷ [], [])
    ∷ [])
    ++ both ServerWorking End
    ((Close ∷ [], [])
    ∷ (Close ∷ [], Cdata ∷ [])
    ∷ (Close ∷ [], Cretry ∷ [])
    ∷ (Sdata ∷ Close ∷ [], [])
    ∷ (Outcome ∷ Close ∷ [], [])
    ∷ (Sretry ∷ Close ∷ [], [])
    ∷ (Sretry ∷ Close ∷ [], Cretry ∷ [])
    ∷ (Outcome ∷ Sretry ∷ Close ∷ [], [])
    ∷ (Sretry ∷ Sdata ∷ Close ∷ [], [])
    ∷ (Sretry ∷ Outcome ∷ Close ∷ [], [])
    ∷ (Sretry ∷ Outcome ∷ Sretry ∷ Close ∷ [], [])
    ∷ [])
    ++ both ClientWorking ClientWorking
    (([], [])
    ∷ [])
    ++ both ClientWorking End
    ((Close ∷ [], [])
    ∷ [])
    ++ both Decided ClientWorking
    ((Sretry ∷ [], [])
    ∷ [])
    ++ both Decided Decided
    (([], [])
    ∷ [])
    ++ both Decided End
    ((Close ∷ [], [])
    ∷ (Sretry ∷ Close ∷ [], [])
    ∷ [])
    ++ both End Init
    (([], Close ∷ [])
    ∷ ([], Cdata ∷ Close ∷ [])
    ∷ [])
    ++ both End ServerWorking
    (([], Close ∷ [])
    ∷ (Sretry ∷ [], Close ∷ [])
    ∷ [])
    ++ both End ClientWorking
    (([], Close ∷ [])
    ∷ ([], Cdata ∷ Close ∷ [])
    ∷ ([], Cretry ∷ Close ∷ [])
    ∷ (Sdata ∷ [], Close ∷ [])
    ∷ (Sretry ∷ [], Close ∷ [])
    ∷ (Sretry ∷ [], Cretry ∷ Close ∷ [])
    ∷ (Outcome ∷ Sretry ∷ [], Close ∷ [])
    ∷ (Sretry ∷ Sdata ∷ [], Close ∷ [])
    ∷ (Sretry ∷ Outcome ∷ Sretry ∷ [], Close ∷ [])
    ∷ [])
    ++ both End Decided
    (([], Close ∷ [])
    ∷ ([], Cretry ∷ Close ∷ [])
    ∷ (Outcome ∷ [], Close ∷ [])
    ∷ (Sretry ∷ Outcome ∷ [], Close ∷ [])
    ∷ [])
    ++ both End End
    (([], [])
    ∷ ([], Cdata ∷ [])
    ∷ ([], Cretry ∷ [])
    ∷ ([], Close ∷ [])
    ∷ ([], Cdata ∷ Close ∷ [])
    ∷ ([], Cretry ∷ Close ∷ [])
    ∷ (Sdata ∷ [], [])
    ∷ (Outcome ∷ [], [])
    ∷ (Sretry ∷ [], [])
    ∷ (Close ∷ [], [])
    ∷ (Close ∷ [], Close ∷ [])
    ∷ (Close ∷ [], Cdata ∷ Close ∷ [])
    ∷ (Close ∷ [], Cretry ∷ Close ∷ [])
    ∷ (Sdata ∷ Close ∷ [], [])
    ∷ (Outcome ∷ Sretry ∷ [], [])
    ∷ (Outcome ∷ Close ∷ [], [])
    ∷ (Sretry ∷ Sdata ∷ [], [])
    ∷ (Sretry ∷ Outcome ∷ [], [])
    ∷ (Sretry ∷ Close ∷ [], [])
    ∷ (Sdata ∷ Close ∷ [], Close ∷ [])
    ∷ (Outcome ∷ Close ∷ [], Close ∷ [])
    ∷ (Sretry ∷ Close ∷ [], Close ∷ [])
    ∷ (Sretry ∷ Close ∷ [], Cretry ∷ Close ∷ [])
    ∷ (Outcome ∷ Sretry ∷ Close ∷ [], [])
    ∷ (Sretry ∷ Sdata ∷ Close ∷ [], [])
    ∷ (Sretry ∷ Outcome ∷ Sretry ∷ [], [])
    ∷ (Sretry ∷ Outcome ∷ Close ∷ [], [])
    ∷ (Outcome ∷ Sretry ∷ Close ∷ [], Close ∷ [])
    ∷ (Sretry ∷ Sdata ∷ Close ∷ [], Close ∷ [])
    ∷ (Sretry ∷ Outcome ∷ Close ∷ [], Close ∷ [])
    ∷ (Sretry ∷ Outcome ∷ Sretry ∷ Close ∷ [], [])
    ∷ (Sretry ∷ Outcome ∷ Sretry ∷ Close ∷ [], Close ∷ [])
    ∷ [])
