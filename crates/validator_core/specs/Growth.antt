-- A history that grows, by events and by epochs (RFC 8412, section 3.7.1), keeps what was said of
-- it.
use Rattle.std.specs.Prelude.{◌<◌, List, [], ◌∷◌, ◌++◌, length}
use Rattle.std.specs.List.{AllByRecursion}
use Rattle.swima_model.specs.declared.event.Event.{Event}
use Rattle.swima_model.specs.declared.report.Report.{Report}
use Rattle.swima_model.specs.declared.report.Report.TheVariants.{Inventory, Events}
use Rattle.swima_model.specs.History.{Epoch, History, IsHonest, Answers}
use Rattle.validator_core.specs.Held.{Held}
use Rattle.validator_core.specs.Right.{IsRight}

-- A history grows by events after those of its last epoch, and by epochs after its last.
pub data Grows : History → History → Type 0 where
  by_events : (front : List Epoch) (last : Epoch) (more : List Event)
      → Grows (front ++ last ∷ []) (front ++ record last { events = last.events ++ more } ∷ [])
  by_epochs : (history : History) (later : List Epoch) → Grows history (history ++ later)

-- The event identifiers of the events that it grows by are above the number of those that their
-- epoch had.
abbrev pub AreLater : {before after : History} → Grows before after → Type 0
AreLater (by_events front last more) = AllByRecursion (λ (e : Event). length last.events < e.eid) more
AreLater (by_epochs history later) = Unit {0}

-- Each mirror that was right over the history still is, however it grows.
abbrev pub GrowthKeepsRight : Type 0
GrowthKeepsRight = (before after : History) → Grows before after → (mirror : Held) → IsRight before mirror → IsRight after mirror

-- What a report asks of the growth: an inventory nothing, and events that the new ones are later.
abbrev pub Asks : {before after : History} → Grows before after → Report → Type 0
Asks grows (Inventory kind fulfil id point records) = Unit {0}
Asks grows (Events kind fulfil id point consulted events) = AreLater grows

-- Each report that answered from the history still does, where that is so.
abbrev pub GrowthKeepsAnswers : Type 0
GrowthKeepsAnswers = (before after : History) (grows : Grows before after) (report : Report)
    → Asks grows report → Answers before report → Answers after report

-- It is so of all reports where the history is honest then.
abbrev pub HonestGrowthIsLater : Type 0
HonestGrowthIsLater = (before after : History) (grows : Grows before after) → IsHonest after → AreLater grows
