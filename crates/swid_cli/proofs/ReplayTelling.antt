-- What `replay` reports of octets.
use Rattle.std.proofs.Common.{◌≡◌, inl, inr, Bool, List, ℕ, length, take, sym, subst, subst₂, ◌∙◌}
use Rattle.std.proofs.lemmas.Bool.{cases_lt, lt-ltb}
use Rattle.command_text.specs.declared.ending.Ending.TheVariants as ending
use Rattle.session_script.specs.Replay.{PlaysScript, ReplayTells, SCRIPT_OCTETS}
use Rattle.session_script.specs.Script.{split_once}
use Rattle.session_script.proofs.ReplayTelling.{script_refuses}
use Rattle.swid_cli.proofs.Telling.{IsSound, IsWide}

never : ending.Refused ≡ ending.Whole → ⊥
never e = absurd cc

pub replay_sound : IsSound SCRIPT_OCTETS ReplayTells
replay_sound octets text how tells whole = elim (cases_lt SCRIPT_OCTETS (length octets)) [
  | inl over ↦ absurd (never (
      sym (script_refuses (split_once 10 (take SCRIPT_OCTETS octets)) (record { text = text; ending = how })
      (subst (λ (b : Bool). PlaysScript b (split_once 10 (take SCRIPT_OCTETS octets)) (record { text = text; ending = how })) (lt-ltb SCRIPT_OCTETS (length octets) over) tells)) ∙ whole))
  | inr within ↦ within
]

pub replay_wide : IsWide SCRIPT_OCTETS ReplayTells
replay_wide held octets text how over more same tells =
    subst₂ (λ (b : Bool) (o : List ℕ). PlaysScript b (split_once 10 o) (record { text = text; ending = how }))
    (lt-ltb SCRIPT_OCTETS (length held) over ∙ sym (lt-ltb SCRIPT_OCTETS (length octets) more)) same tells
