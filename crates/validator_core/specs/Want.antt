-- What a mirror wants of its collector next (RFC 8412, section 3.7.3): an inventory, or the events
-- after those that it has followed.
use Rattle.std.specs.Prelude.{◌≡◌, ◌==◌, ◌+◌, ◌⊎◌, ℕ, Bool, true, false, Option, Some, None, if◌then◌else◌}
use Rattle.swima_model.specs.declared.report.Point.{Point}
use Rattle.validator_core.specs.declared.mirror.want.Want.{Want}
use Rattle.validator_core.specs.declared.mirror.want.Want.TheVariants as wanted
use Rattle.validator_core.specs.Held.{Held}

-- The last event identifier that an epoch can have.
abbrev pub LAST_EID : ℕ
LAST_EID = 4294967295

-- At a point, by the mark: an inventory where the mark is set, and else the events after the
-- point's, if there can be any.
abbrev pub want_at : Option Point → Bool → Want
want_at None off = wanted.Full
want_at (Some point) true = wanted.Full
want_at (Some point) false = if point.eid == LAST_EID then wanted.Spent else wanted.EventsFrom (point.eid + 1)

-- What a mirror wants next.
abbrev pub want : Held → Want
want mirror = want_at mirror.point mirror.off

-- The mirror has no point, or its mark is set.
abbrev pub LacksInventory : Held → Type 0
LacksInventory mirror = (mirror.point ≡ None) ⊎ (mirror.off ≡ true)
