use Rattle.std.proofs.Common.{◌≡◌, ◌*◌, ◌+◌, ◌%◌, ◌^◌, take, fold}
use Rattle.collector_core.proofs.identifier_hash.IdentifierHasherHasher.write.Given as goal

abbrev pub invariant-loop-octet : goal.invariant-loop-octet
invariant-loop-octet l = l.self.read ≡ fold (λ n octet. (n * 256 % 2 ^ 32 + octet) % 2 ^ 32) l.initial.self.read (take l.octet-index l.octets)
