-- The batch that reports a fault can be written.
use Rattle.std.proofs.Common.{ℕ, ◌≤◌, Bool, true, false, cond, eqb, [], ◌∷◌, length, inl, inr, arith}
use Rattle.std.proofs.lemmas.List.Elements.{All-cons, All-nil}
use Rattle.pb_batch.specs.declared.batch.Message.TheVariants.{Error}
use Rattle.pb_batch.specs.declared.fault.PbFault.{PbFault}
use Rattle.pb_batch.specs.Form.{IsMessage, VERSION}
use Rattle.pb_batch.specs.Written.{IsBatch, IsTold, error_info, fault_batch_of}
use Rattle.wire_base.specs.Numbers.{octets_of}
use Rattle.wire_base.proofs.Spelled.{length-octets_of}

-- It is reported with 4 octets at most.
choice_short : (none version : Bool) (f : PbFault) → length (cond none [] (cond version (f.version ∷ VERSION ∷ VERSION ∷ 0 ∷ []) (octets_of 4 f.offset))) ≤ 4
choice_short true version f = omega arith
choice_short false true f = omega arith
choice_short false false f = omega (arith, length-octets_of 4 f.offset)

info_short : (f : PbFault) → length (error_info f) ≤ 4
info_short f = choice_short (eqb f.code 0) (eqb f.code 4) f

-- The codes are small.
told_small : (code : ℕ) → IsTold code → code ≤ 4
told_small code told = elim told [ inl is ↦ omega (arith, is) | inr more ↦ elim more [ inl is ↦ omega (arith, is) | inr more ↦ elim more [ inl is ↦ omega (arith, is) | inr is ↦ omega (arith, is) ] ] ]

pub fault_is_batch : (s : Bool) (f : PbFault) → IsTold f.code → IsBatch (fault_batch_of s f)
fault_is_batch s f told =
    let small = told_small f.code told in
    let short = info_short f in
    let first : IsMessage (Error true 0 f.code (error_info f)) = (omega arith, omega (arith, small)) in
    record {
      valid = All-cons IsMessage (Error true 0 f.code (error_info f)) [] first (All-nil IsMessage);
      few = omega arith;
      short = omega (arith, short);
    }
