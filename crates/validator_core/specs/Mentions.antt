-- What events say of the records that they mention (RFC 8412, section 3.7).
use Rattle.std.specs.Prelude.{◌≡◌, ℕ, List, reverse}
use Rattle.std.specs.BTreeSet.{contains}
use Rattle.std.specs.Ordering.{nat_cmp}
use Rattle.swima_model.specs.declared.event.Event.{Event}
use Rattle.swima_model.specs.Live.{is_mentioned, last_mentions}
use Rattle.validator_core.specs.declared.mentions.Mentions.{Mentions}
use Rattle.validator_core.specs.Gone.{AreGone}

-- They are the identifiers that the events mention, those of them that are gone, and what the last
-- mentions of the others say, the last first.
pub record AreOf (events : List Event) (mentions : Mentions) : Type 0 where
  pub ids : (id : ℕ) → contains nat_cmp mentions.ids id ≡ is_mentioned id events
  pub gone : AreGone events mentions.gone
  pub last : mentions.last.items ≡ reverse (last_mentions events)
