-- What is true of a call that went well, or did not.
use Rattle.std.specs.Result.{IsErr}
use Rattle.std.specs.Prelude.{MatchResult, OnOk, Result, Ok, Err}

pub on_ok : {T E P Q : Type 0} (result : Result T E) → (P → Q) → OnOk result P → OnOk result Q
on_ok (Ok done) so p = so p
on_ok (Err error) so p = tt

pub on_err : {T E Q : Type 0} (P : Type 0) (result : Result T E) → IsErr result → Q → MatchResult result (λ _. P) (λ _. Q)
on_err P (Ok done) is q = absurd cc
on_err P (Err error) is q = q

pub not_ok : {T E : Type 0} (P : Type 0) (result : Result T E) → IsErr result → OnOk result P
not_ok P (Ok done) is = absurd cc
not_ok P (Err error) is = tt
