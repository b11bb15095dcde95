-- A mirror for each address so far.
use Rattle.std.proofs.Common.{◌≡◌, map, take}
use Rattle.clap.specs.Words.{Text}
use Rattle.validator_core.specs.Held.{empty_mirror}
use Rattle.swid_run.proofs.follow.new_mirrors.Given as goal

abbrev pub invariant-loop-address : goal.invariant-loop-address
invariant-loop-address l = l.mirrors.items ≡ map (λ (address : Text). empty_mirror l.options.kind) (take l._address-index l._address-items)
