-- A tally of what is live after some events: what it takes to judge the next.
use Rattle.std.specs.Prelude.{◌≡◌, ◌≤◌, ◌^◌, ℕ, List, [], ◌∷◌, ◌++◌, Option, Some, None, length, if◌then◌else◌}
use Rattle.std.specs.BTreeMap.{get}
use Rattle.std.specs.List.Sorted.{IsStrictlyIncreasing}
use Rattle.std.specs.Option.{option_copied}
use Rattle.std.specs.Ordering.{nat_cmp}
use Rattle.swima_model.specs.declared.event.Event.{Event}
use Rattle.swima_model.specs.declared.record.Record.{Record}
use Rattle.swima_model.specs.InOrder.{ids}
use Rattle.swima_model.specs.Live.{last_mention, live}
use Rattle.swima_model.specs.Size.{is_large, records_octets}
use Rattle.validator_core.specs.declared.mirror.Taken.{Taken}
use Rattle.validator_core.specs.declared.mirror.Taken.TheVariants as taken
use Rattle.validator_core.specs.declared.tally.Tally.{Tally}
use Rattle.validator_core.specs.Following.{misfit}

-- The tally is of these records, in order of identifier, and these events: it has the last mention
-- of each record, and counts what is live.
pub record IsTally (base : List Record) (before : List Event) (tally : Tally) : Type 0 where
  pub rising : IsStrictlyIncreasing (ids base)
  pub records : tally.records.now ≡ base
  pub mentions : (id : ℕ) → option_copied (get nat_cmp tally.mentions id) ≡ last_mention id before
  pub count : tally.count ≡ length (live base before)
  pub octets : tally.octet_count ≡ records_octets (live base before)

-- What is said where that many records, or that many octets of them, are too many.
abbrev pub too_many : ℕ → ℕ → Option Taken
too_many count octets = if is_large count octets then Some (taken.Large count octets) else None

-- Few enough to be counted in 64 bits with one more.
abbrev pub AreFew : Tally → Type 0
AreFew tally = (tally.count ≤ 65536) × (tally.octet_count ≤ 2 ^ 40)

-- What was said of an event after those before it, over a tally of what is live there, is its
-- misfit; and where that is nothing, the tally is of what is live after it.
abbrev pub Follows : List Record → List Event → Event → Option Taken → Tally → Type 0
Follows base before event said after = (said ≡ misfit base before event) × (said ≡ None → IsTally base (before ++ event ∷ []) after)
