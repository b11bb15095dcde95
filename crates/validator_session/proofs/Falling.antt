-- A core may take fewer turns after each that it takes.
use Rattle.std.proofs.Common.{◌≡◌, ℕ, ◌+◌, ◌*◌, ◌≤◌, ◌<◌, sym, ap, subst, ◌∙◌, arith}
use Rattle.std.specs.Prelude.{◌-◌}
use Rattle.session_rules.specs.declared.config.FollowConfig.{FollowConfig}
use Rattle.validator_session.specs.declared.inner.Inner.{Inner as Core}
use Rattle.validator_session.specs.Core.{received_of, weight}

-- An idle turn more.
pub idle_less : (old new : Core) → new.end.config ≡ old.end.config → received_of new ≡ received_of old → new.quiet ≡ old.quiet + 1 → new.quiet < new.end.config.idle → weight new < weight old
idle_less old new config received quiet calm =
    let idle : ℕ = old.end.config.idle in
    let octets : ℕ = (idle + 1) * (old.end.config.octets - received_of old) in
    let less : idle - (old.quiet + 1) < idle - old.quiet = omega (arith, calm, quiet, ap (λ (k : FollowConfig). k.idle) config) in
    let after : octets + (idle - (old.quiet + 1)) < octets + (idle - old.quiet) = omega (arith, less) in
    subst (λ (n : ℕ). n < weight old) (sym (
    ap (λ (k : FollowConfig). (k.idle + 1) * (k.octets - received_of new) + (k.idle - new.quiet)) config
    ∙ ap (λ (n : ℕ). (idle + 1) * (old.end.config.octets - n) + (idle - new.quiet)) received
    ∙ ap (λ (n : ℕ). octets + (idle - n)) quiet)) after

-- A piece of octets.
pub piece_less : (old new : Core) (used : ℕ) → new.end.config ≡ old.end.config → received_of new ≡ received_of old + used → new.quiet ≡ 0 → 0 < used → received_of new ≤ new.end.config.octets → old.quiet < old.end.config.idle → weight new < weight old
piece_less old new used config received quiet some room calm =
    let idle : ℕ = old.end.config.idle in
    let left : ℕ = old.end.config.octets - received_of new in
    let all : old.end.config.octets - received_of old ≡ left + used = omega (arith, received, room, ap (λ (k : FollowConfig). k.octets) config) in
    let less : (idle + 1) * left + (idle - 0) < (idle + 1) * (left + used) + (idle - old.quiet) = grind (arith, some, calm) in
    subst (λ (n : ℕ). n < weight old) (sym (
    ap (λ (k : FollowConfig). (k.idle + 1) * (k.octets - received_of new) + (k.idle - new.quiet)) config
    ∙ ap (λ (n : ℕ). (idle + 1) * left + (idle - n)) quiet))
    (subst (λ (n : ℕ). (idle + 1) * left + (idle - 0) < (idle + 1) * n + (idle - old.quiet)) (sym all) less)
