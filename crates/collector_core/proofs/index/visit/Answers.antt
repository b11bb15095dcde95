use Rattle.std.proofs.Common.{◌≡◌, ◌∙◌, Bool, not, true, false, refl, sym}
use Rattle.std.proofs.lemmas.Bool.{false≢true}
use Rattle.collector_core.proofs.Gathered.{put_is, visited_again, visited_new}
use Rattle.collector_core.proofs.index.visit.Goals as goal

was_there : (there added : Bool) → added ≡ not there → added ≡ false → there ≡ true
was_there true added is none = refl
was_there false added is none = absurd (false≢true (sym none ∙ is))

pub returns-then-not-is_new-clause-found : goal.returns-then-not-is_new-clause-found
returns-then-not-is_new-clause-found c =
    visited_again c.digest-sum.result c.args.index.now c.args.digests.now c.insert.new.self c.args.ids.now (put_is c.digest-sum.result c.args.digests.now c.insert.new.self c.in_ok-is_new.ensures.updates)
    (was_there _ _ c.in_ok-is_new.ensures.added c.if-not-is_new.true)

pub returns-clause-found : goal.returns-clause-found
returns-clause-found c =
    visited_new c.digest-sum.result c.args.index.now c.args.digests.now c.insert.new.self c.args.ids.now c.gather.new.ids
    (put_is c.digest-sum.result c.args.digests.now c.insert.new.self c.in_ok-is_new.ensures.updates) c.in_ok-gather.ensures.kept c.in_ok-gather.ensures.gathered
