-- How many octets are written of subscriptions.
use Rattle.std.proofs.Common.{◌≡◌, ℕ, ◌+◌, ◌<◌, ◌^◌, List, [], ◌∷◌, length, ◌∙◌, arith}
use Rattle.std.specs.List.{AllByRecursion, sum_by}
use Rattle.std.proofs.lemmas.List.Sums.{sum_by-cons}
use Rattle.wire_base.specs.Numbers.{octets_of}
use Rattle.wire_base.specs.Written.{written}
use Rattle.wire_base.proofs.WrittenLaws.{length-form}
use Rattle.swima_request.specs.declared.request.Request.{Request}
use Rattle.swima_request.specs.RequestForm.{request_fields, request_octets}
use Rattle.swima_request.specs.StatusForm.{status_fields}
use Rattle.swima_request.specs.StatusLaws.{CountsFit, FormIsCounted, WrittenIsCounted}
use Rattle.swima_request.proofs.Each.{fewest_of_each, length-each}
use Rattle.swima_request.proofs.Writing as request

pub written_is_counted : WrittenIsCounted
unfolding written octets_of
written_is_counted requests = omega (arith, length-each request_fields request_octets request.written_is_counted requests)

pub form_is_counted : FormIsCounted
form_is_counted requests octets form = length-form (status_fields requests) octets form ∙ written_is_counted requests

-- Requests have less than `most` octets together, so each of them has fewer targets than that.
each_within : (most : ℕ) (requests : List Request) → sum_by request_octets requests < most → AllByRecursion (λ (request : Request). length request.targets < most) requests
each_within most [] within = tt
each_within most (first ∷ others) within =
    let both : sum_by request_octets (first ∷ others) ≡ request_octets first + sum_by request_octets others = sum_by-cons request_octets first others in
    (omega (arith, within, both, request.targets_counted first), each_within most others (omega (arith, within, both)))

pub counts_fit : CountsFit
counts_fit requests within = (
  omega (arith, within, fewest_of_each request_octets 12 (λ r. omega (arith, request.targets_counted r)) requests),
  each_within (2 ^ 24) requests (omega (arith, within)),
)
