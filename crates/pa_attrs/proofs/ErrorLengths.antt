-- How many octets are written of an Error.
use Rattle.std.proofs.Common.{◌≡◌, ℕ, ◌+◌, ◌≤◌, List, [], ◌∷◌, ◌++◌, Option, Some, None, length, arith, length-append}
use Rattle.wire_base.specs.Numbers.{octets_of}
use Rattle.wire_base.specs.Written.{written}
use Rattle.wire_base.proofs.Spelled.{length-octets_of}
use Rattle.pa_attrs.specs.ErrorForm.{invalid_fields, request_fields, swima_error, unsupported_fields, version_fields}
use Rattle.pa_attrs.specs.Laws.{SwimaErrorIsShort, WrittenErrorIsCounted}

pub written_error_is_counted : WrittenErrorIsCounted
unfolding written
written_error_is_counted error =
    let vendor : List ℕ = octets_of 3 error.vendor in
    let code : List ℕ = octets_of 4 error.code in
    omega (
      arith,
      length-append vendor (code ++ (error.info ++ [])),
      length-append code (error.info ++ []),
      length-append error.info [],
      length-octets_of 3 error.vendor,
      length-octets_of 4 error.code,
    )

-- ---- the information

length-request : (id : ℕ) (most : Option ℕ) → length (written (request_fields id most)) ≤ 8
unfolding written
length-request id None = omega (arith, length-append (octets_of 4 id) [], length-octets_of 4 id)
length-request id (Some most) = omega (arith, length-append (octets_of 4 id) (octets_of 4 most ++ []), length-append (octets_of 4 most) [], length-octets_of 4 id, length-octets_of 4 most)

pub swima_error_is_short : SwimaErrorIsShort
swima_error_is_short code id most = omega (arith, written_error_is_counted (swima_error code id most), length-request id most)

pub length-invalid : (header : List ℕ) (offset : ℕ) → length (written (invalid_fields header offset)) ≡ length header + 4
unfolding written
length-invalid header offset = omega (arith, length-append header (octets_of 4 offset ++ []), length-append (octets_of 4 offset) [], length-octets_of 4 offset)

pub length-version : (header : List ℕ) → length (written (version_fields header)) ≡ length header + 4
unfolding written octets_of
length-version header = omega (arith, length-append header (1 ∷ 1 ∷ 0 ∷ 0 ∷ []))

pub length-unsupported : (header first : List ℕ) → length (written (unsupported_fields header first)) ≡ length header + length first
unfolding written
length-unsupported header first = omega (arith, length-append header (first ++ []), length-append first [])
