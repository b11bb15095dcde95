-- The numbers of what events do (RFC 8412, section 5.8, "Action").
use Rattle.std.specs.Prelude.{◌==◌, ℕ, [], ◌∷◌, Option, find}
use Rattle.swima_model.specs.declared.event.Action.{Action}
use Rattle.swima_model.specs.declared.event.Action.TheVariants.{Creation, Deletion, Alteration}

-- The number of an action.
abbrev pub action_number : Action → ℕ
action_number Creation = 1
action_number Deletion = 2
action_number Alteration = 3

-- The action that has the number.
abbrev pub action_of : ℕ → Option Action
action_of number = find (λ action. action_number action == number) (Creation ∷ Deletion ∷ Alteration ∷ [])
