-- The stand that is put in is ready too.
use Rattle.std.proofs.Common.{◌∷◌, ◌+◌, ◌∙◌, [], List, ℕ, ap, length, length-append, subst, sym}
use Rattle.std.specs.List.{All}
use Rattle.std.proofs.lemmas.List.Elements.{All-push}
use Rattle.wire_base.specs.declared.outside.listen_door.ListenDoor.{ListenDoor}
use Rattle.session_pool.specs.Stands.{AreReady, IsReady}
use Rattle.session_pool.specs.declared.stand.Stand.{Stand}
use Rattle.swid.proofs.outside.stands_beside.Goals as goal

pub loop-preserved : goal.loop-preserved
loop-preserved g c = record {
  count = ap (λ (all : List (Stand (ListenDoor g.row.L.Denot))). length all) c.in_ok-push.ensures.items
      ∙ length-append c.loop.stands.items (c.beside.result ∷ []) ∙ ap (λ (count : ℕ). count + 1) c.loop.invariant.count;
  ready = subst (λ (all : List (Stand (ListenDoor g.row.L.Denot))). AreReady (λ (door : ListenDoor g.row.L.Denot). door.out) all) (sym c.in_ok-push.ensures.items)
      (All-push (λ (stand : Stand (ListenDoor g.row.L.Denot)). IsReady (λ (door : ListenDoor g.row.L.Denot). door.out) stand) c.loop.stands.items c.beside.result c.loop.invariant.ready c.beside.ensures.ready);
}
