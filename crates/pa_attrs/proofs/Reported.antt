-- The Error that reports a fault has its code, and is short.
use Rattle.std.proofs.Common.{◌≡◌, ℕ, ◌-◌, ◌≤◌, ◌⊎◌, inl, inr, Bool, true, false, cond, List, [], ◌∷◌, Some, length, take, refl, sym, subst, arith, length-append, length-take}
use Rattle.std.specs.Prelude.{nat_lt, ◌==◌, ◌||◌, not, replicate, slice_index}
use Rattle.std.proofs.lemmas.List.{length-replicate}
use Rattle.pa_attrs.specs.declared.fault.AttrFault.{AttrFault}
use Rattle.pa_attrs.specs.declared.fault.PaFault.{PaFault}
use Rattle.pa_attrs.specs.declared.header.Header.{Header}
use Rattle.pa_attrs.specs.ErrorForm.{error_of, invalid_error, unsupported_error, version_error, written_error}
use Rattle.pa_attrs.specs.Faults.{first_shown, is_refused, message_rows, row}
use Rattle.pa_attrs.specs.FirstFault.{IsFault}
use Rattle.pa_attrs.specs.Header.{header_of}
use Rattle.pa_attrs.specs.Laws.{FaultIsReported, IsReported}
use Rattle.pa_attrs.specs.MessageReading.{Broken, fault_of, first_octets, first_told, value_fault}
use Rattle.pa_attrs.specs.Numbers.{HEADER, NO_TYPE, NO_VENDOR}
use Rattle.pa_attrs.proofs.ErrorLengths.{length-invalid, length-unsupported, length-version, written_error_is_counted}
use Rattle.pa_attrs.proofs.FirstFaults.{fault_is_first}

-- ---- a fault of one of the three codes, with its octets

abbrev IsCode : ℕ → Type 0
IsCode code = (code ≡ 1) ⊎ ((code ≡ 2) ⊎ (code ≡ 3))

has_code : (fault : PaFault) → IsCode fault.code → (error_of fault).code ≡ fault.code
has_code fault is = by_code fault.code is
  where
    by_code : (code : ℕ) → IsCode code → (error_of (record fault { code = code })).code ≡ code
    by_code code (inl e) = subst (λ (n : ℕ). (error_of (record fault { code = n })).code ≡ n) (sym e) refl
    by_code code (inr (inl e)) = subst (λ (n : ℕ). (error_of (record fault { code = n })).code ≡ n) (sym e) refl
    by_code code (inr (inr e)) = subst (λ (n : ℕ). (error_of (record fault { code = n })).code ≡ n) (sym e) refl

is_short : (fault : PaFault) → length fault.header ≡ 8 → length fault.first ≡ 8 → length (written_error (error_of fault)) ≤ 24
is_short fault header first =
    let info = few (fault.code == 2) (fault.code == 3) in
    omega (arith, written_error_is_counted (error_of fault), info)
  where
    few : (version unsupported : Bool)
        → length (cond version (version_error fault.header) (cond unsupported (unsupported_error fault.header fault.first) (invalid_error fault.header fault.offset))).info ≤ 16
    few true unsupported = omega (arith, length-version fault.header, header)
    few false true = omega (arith, length-unsupported fault.header fault.first, header, first)
    few false false = omega (arith, length-invalid fault.header fault.offset, header)

length-first_octets : (octets : List ℕ) → length (first_octets octets) ≡ 8
length-first_octets octets =
    let zero : ℕ = 0 in
    omega (arith, length-append (take 8 octets) (replicate (8 - length octets) zero), length-take 8 octets, length-replicate (8 - length octets) zero)

length-first_told : (code : ℕ) (octets : List ℕ) → length (first_told code octets) ≡ 8
length-first_told code octets = by_test (code == 3)
  where
    by_test : (b : Bool) → length (cond b (first_octets octets) (replicate 8 0)) ≡ 8
    by_test true = length-first_octets octets
    by_test false = refl

-- ---- the faults of a message

start_code : (short other : Bool) (shown : AttrFault) → first_shown (row short 1 0 ∷ row other 2 0 ∷ []) ≡ Some shown → IsCode shown.code
start_code true other shown e = let code : shown.code ≡ 1 = cc in inl code
start_code false true shown e = let code : shown.code ≡ 2 = cc in inr (inl code)
start_code false false shown e = absurd cc

attr_code : (a b c d e f : Bool) (shown : AttrFault) → first_shown (row a 1 0 ∷ row b 1 0 ∷ row c 3 0 ∷ row d 1 1 ∷ row e 1 4 ∷ row f 1 8 ∷ []) ≡ Some shown → IsCode shown.code
attr_code true b c d e f shown is = let code : shown.code ≡ 1 = cc in inl code
attr_code false true c d e f shown is = let code : shown.code ≡ 1 = cc in inl code
attr_code false false true d e f shown is = let code : shown.code ≡ 3 = cc in inr (inr code)
attr_code false false false true e f shown is = let code : shown.code ≡ 1 = cc in inl code
attr_code false false false false true f shown is = let code : shown.code ≡ 1 = cc in inl code
attr_code false false false false false true shown is = let code : shown.code ≡ 1 = cc in inl code
attr_code false false false false false false shown is = absurd cc

rows_code : (supported : List ℕ) (room : ℕ) (octets : List ℕ) (h : Header) (shown : AttrFault) → first_shown (message_rows supported room octets h) ≡ Some shown → IsCode shown.code
rows_code supported room octets h shown is =
    attr_code (room == 0) (nat_lt (length octets) HEADER) (is_refused supported h) (h.vendor == NO_VENDOR) (h.kind == NO_TYPE) (nat_lt h.length HEADER || nat_lt (length octets) h.length) shown is

reported_as : (octets : List ℕ) (answer : Bool) (broken : Broken) (fault : PaFault) → fault ≡ fault_of octets answer broken → IsCode broken.fault.code → IsReported fault
reported_as octets answer broken fault is code =
    subst IsReported (sym is) (record {
      code = has_code (fault_of octets answer broken) code;
      short = is_short (fault_of octets answer broken) (length-first_octets octets) (length-first_told broken.fault.code broken.octets);
    })

reported_by : (supported octets : List ℕ) (fault : PaFault) → IsFault supported octets fault → IsReported fault
reported_by supported octets fault (inl header) =
    reported_as octets true (record { at = 0; octets = octets; fault = header.shown }) fault header.is (start_code (nat_lt (length octets) 8) (not (slice_index octets 0 == 1)) header.shown header.row)
reported_by supported octets fault (inr attrs) =
    reported_as octets _ attrs.broken fault attrs.is (rows_code supported (64 - length attrs.before) attrs.broken.octets (header_of attrs.broken.octets) attrs.broken.fault attrs.first.row)

pub fault_is_reported : FaultIsReported
fault_is_reported = record {
  message = λ supported octets fault e. reported_by supported octets fault ((fault_is_first supported octets fault).0 e);
  value = λ octets attrs offset. record { code = refl; short = is_short (value_fault octets attrs offset) (length-first_octets octets) refl };
}
