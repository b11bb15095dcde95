-- What is done about a subscription of an earlier batch.
use Rattle.std.specs.Prelude.{◌≡◌, ◌==◌, ◌⊎◌, ℕ, List, [], Some, Result, Ok, Err, if◌then◌else◌}
use Rattle.swima_model.specs.declared.report.Point.{Point}
use Rattle.swima_subs.specs.declared.waiting.Waiting.{Waiting}
use Rattle.swima_subs.specs.Subscriptions.{ended, reported}
use Rattle.pa_attrs.specs.declared.error_code.PaErrorCode.TheVariants as code
use Rattle.collector_core.specs.declared.answer.Answer.{Answer}
use Rattle.collector_core.specs.declared.answer.Answer.TheVariants as answer
use Rattle.collector_core.specs.declared.chronicle.Mark.{Mark}
use Rattle.collector_core.specs.Chronicle.{Chronicle}
use Rattle.session_talk.specs.Talk.{Talk}
use Rattle.session_talk.specs.Course.{Gives, Breaks}
use Rattle.session_rules.specs.declared.config.ServeConfig.{ServeConfig}
use Rattle.session_rules.specs.Answering.{puts_error, renewed}
use Rattle.session_rules.specs.Clauses.{Talks}
use Rattle.session_rules.specs.Questions.{Question, Reply, at_places}
use Rattle.session_rules.specs.Serving.{Draft}

-- The subscription of the ID stays as it was, was fulfilled up to a point, or is ended.
abbrev pub GoesOn : ℕ → List Waiting → List Waiting → Type 0
GoesOn id before after = (after ≡ before) ⊎ (((point : Point) × (after ≡ reported before id point)) ⊎ (after ≡ ended before id))

-- A report is too large: that ends the subscription where there was all room of a batch.
abbrev pub late : ℕ → Draft → ℕ → ℕ → Draft
late room d id most = if d.room == room then puts_error (record d { subs = ended d.subs id }) code.SwimaResponseTooLargeError id (Some most) else d

-- The desk's answer was put for the subscription of the ID. It was not that memory ran out.
abbrev pub Renewed : ServeConfig → Draft → ℕ → Answer → Draft → Type 0
Renewed c before id (answer.Report report) after = after ≡ renewed c before id (answer.Report report)
Renewed c before id (answer.TooLarge size most) after = after ≡ renewed c before id (answer.TooLarge size most)
Renewed c before id answer.Memory after = ⊥

module _ {D : Type 0} (stands : D → Chronicle → Type 0) (went : D → List Mark → D → Type 0) where
  -- The talk came to the value, or broke off since memory ran out.
  abbrev pub Finds : {A E : Type 0} → D → D → Talk Question Reply (Unit {0}) A → Result A E → Type 0
  Finds old new talk (Ok value) = Talks stands went old new [] [] (λ chronicle places out. Gives (at_places chronicle) talk places out value)
  Finds old new talk (Err error) = Talks stands went old new [] [] (λ chronicle places out. Breaks (at_places chronicle) tt talk places out tt)
