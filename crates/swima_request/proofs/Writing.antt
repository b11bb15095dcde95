-- What is written of a request, and how much.
use Rattle.std.proofs.Common.{◌≡◌, ℕ, ◌+◌, ◌*◌, ◌<◌, ◌≤◌, ◌^◌, Bool, true, false, List, [], ◌∷◌, length, refl, ◌∙◌, arith, length-append}
use Rattle.std.specs.List.{flat_map}
use Rattle.wire_base.specs.Layout.{AreFlags}
use Rattle.wire_base.specs.Numbers.{octets_of}
use Rattle.wire_base.specs.Written.{Fit, flags_octet, written}
use Rattle.wire_base.proofs.WrittenLaws.{length-form}
use Rattle.swima_model.specs.declared.report.Kind.{Kind}
use Rattle.swima_model.specs.declared.report.Kind.TheVariants as kind
use Rattle.swima_request.specs.declared.request.Request.{Request}
use Rattle.swima_request.specs.Laws.{FormIsCounted, HasRoom, WrittenIsCounted}
use Rattle.swima_request.specs.RequestForm.{RequestForm, is_ids, request_fields, request_octets, target_fields}
use Rattle.swima_request.proofs.Each.{fewest_of_each, fit_each, length-each}

-- ---- room

-- The octet that is written of flags has them.
flags_fit : (clear subscribe : Bool) (k : Kind) → AreFlags (flags_octet ((128, clear) ∷ (64, subscribe) ∷ (32, is_ids k) ∷ [])) ((128, clear) ∷ (64, subscribe) ∷ (32, is_ids k) ∷ [])
flags_fit true true kind.Ids = (refl, (refl, (refl, tt)))
flags_fit true true kind.Full = (refl, (refl, (refl, tt)))
flags_fit true false kind.Ids = (refl, (refl, (refl, tt)))
flags_fit true false kind.Full = (refl, (refl, (refl, tt)))
flags_fit false true kind.Ids = (refl, (refl, (refl, tt)))
flags_fit false true kind.Full = (refl, (refl, (refl, tt)))
flags_fit false false kind.Ids = (refl, (refl, (refl, tt)))
flags_fit false false kind.Full = (refl, (refl, (refl, tt)))

-- Where the numbers and the targets of a request have room, its fields do.
pub fields_fit : (r : Request) → length r.targets < 2 ^ 24 → r.id < 2 ^ 32 → r.earliest < 2 ^ 32 → Fit (flat_map target_fields r.targets) → Fit (request_fields r)
fields_fit r count id earliest targets = (flags_fit r.clear r.subscribe r.kind, (count, (id, (earliest, targets))))

pub request_fits : (request : Request) → HasRoom request → Fit (request_fields request)
request_fits request room =
    fields_fit request room.count room.id room.earliest (fit_each target_fields (λ (target : List ℕ). length target < 2 ^ 16) (λ target within. (within, tt)) request.targets room.targets)

-- ---- how many octets are written

-- A target has its length and its octets.
length-target : (target : List ℕ) → length (written (target_fields target)) ≡ 2 + length target
unfolding written octets_of
length-target target = omega (arith, length-append target [])

pub written_is_counted : WrittenIsCounted
unfolding written octets_of
written_is_counted request = omega (arith, length-each target_fields (λ (target : List ℕ). 2 + length target) length-target request.targets)

-- So has each form of it, whatever the flags without a name are.
pub form_is_counted : FormIsCounted
form_is_counted request octets form = length-form (request_fields request) octets form ∙ written_is_counted request

-- ---- counts

-- A request that octets carry has a count of targets that three octets hold.
pub count_within : (request : Request) (octets : List ℕ) → RequestForm request octets → length request.targets < 2 ^ 24
count_within request octets (flags, rest, is, flag, (count, others, at, number, after)) = number.0

-- A request has 12 octets, and 2 for each target, at least.
pub targets_counted : (r : Request) → 12 + 2 * length r.targets ≤ request_octets r
targets_counted r = omega (arith, fewest_of_each (λ (target : List ℕ). 2 + length target) 2 (λ target. omega arith) r.targets)
