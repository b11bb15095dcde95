use Rattle.std.proofs.Common.{◌≡◌, List, [], ◌∷◌, ◌++◌, Some, sym, ap, ◌∙◌, append_assoc}
use Rattle.source_set.specs.Keys.{Held}
use Rattle.source_set.specs.Sweeping.{seated}
use Rattle.source_set.specs.declared.seat.Seat.{Seat}
use Rattle.source_set.proofs.set.seated.Goals as goal

-- One more seat, for the next source.
one_more : {B : Type 0} (sources rest left : List B) (source : B) (keys : List Held) (seats now : List (Seat B)) → seats ++ seated rest ≡ seated sources → rest ≡ source ∷ left → keys ≡ []
    → now ≡ seats ++ record { source = Some source; keys = keys } ∷ [] → now ++ seated left ≡ seated sources
one_more {B} sources rest left source keys seats now so-far next none is =
    ap (λ (ss : List (Seat B)). ss ++ seated left) is ∙ append_assoc seats (record { source = Some source; keys = keys } ∷ []) (seated left)
    ∙ ap (λ (ks : List Held). seats ++ record { source = Some source; keys = ks } ∷ seated left) none
    ∙ ap (λ (ss : List B). seats ++ seated ss) (sym next) ∙ so-far

pub loop-source-preserved : goal.loop-source-preserved
loop-source-preserved g c =
    one_more c.args.sources.items c.loop-source.source-iterator.rest.items c.next.new.self.rest.items c.in-Some.source c.new.result c.loop-source.seats.items c.push.new.self.items
    c.loop-source.invariant c.in-Some.ensures.steps.0 c.new.ensures.none c.in_ok-push.ensures.items
