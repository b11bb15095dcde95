-- The reader of requests says a fault exactly where it is the first one.
use Rattle.std.proofs.Common.{◌≡◌, ℕ, Bool, List, [], ◌∷◌, ◌++◌, length, refl, sym, ap, ◌∙◌}
use Rattle.std.specs.List.{flat_map}
use Rattle.wire_base.specs.Layout.{is_set}
use Rattle.wire_base.proofs.Exact.{Anything, Nothing, counted_exact}
use Rattle.wire_base.proofs.Blocks.{all_any}
use Rattle.wire_base.proofs.Faults.{ExactFaults, Alike, last_part}
use Rattle.wire_base.proofs.FieldFaults.{set_of, counted_start, value_faults, then_number, then_flags, alike_lists, last_several, gives, ends}
use Rattle.wire_base.proofs.FormOrFault.{reads_first_fault, one_of_two, none_is_a_front}
use Rattle.swima_request.specs.declared.request.Request.{Request}
use Rattle.swima_request.specs.Laws.{AreOneOfTwo, FaultIsFirst, NoFormIsAFront}
use Rattle.swima_request.specs.RequestForm.{CLEAR, SUBSCRIBE, IDENTIFIERS_ONLY, is_ids, kind_of, read_fields, read_request, request_fields, target_fields}
use Rattle.swima_request.proofs.RequestLaws.{fields_exact, flag_back, kind_back, reading_is_form, request_is}

-- ---- the faults

-- The flags of a request, of which three are named.
abbrev flags_of : Request → List (ℕ × Bool)
flags_of r = (CLEAR, r.clear) ∷ (SUBSCRIBE, r.subscribe) ∷ (IDENTIFIERS_ONLY, is_ids r.kind) ∷ []

target_alike : Alike target_fields (λ target. Unit {0})
target_alike one other more most so also e = cc

pub fields_faults : ExactFaults read_fields request_fields (λ r. Unit {0}) Anything
unfolding read_fields
fields_faults = then_flags (λ one other. refl) λ flags. then_number λ count. then_number λ id. then_number λ earliest.
    last_several (λ r. r.targets) (counted_exact 2) (value_faults (counted_exact 2) (counted_start 2) [] tt) target_alike (λ r h. assumption (h, all_any r.targets)) λ targets known.
    gives _ (record { clear = is_set flags CLEAR; subscribe = is_set flags SUBSCRIBE; kind = kind_of (is_set flags IDENTIFIERS_ONLY); id = id; earliest = earliest; targets = targets })
    (assumption (refl, known, flag_back (is_set flags IDENTIFIERS_ONLY)))

pub request_alike : Alike request_fields (λ r. Unit {0})
request_alike one other more most so also e =
    let count : length one.targets ≡ length other.targets = cc in
    let tails : flat_map target_fields one.targets ++ more ≡ flat_map target_fields other.targets ++ most = cc in
    let targets : one.targets ≡ other.targets = alike_lists target_fields target_alike one.targets other.targets more most count (all_any one.targets) (all_any other.targets) tails in
    let flags : flags_of one ≡ flags_of other = cc in
    let set : one.clear ∷ one.subscribe ∷ is_ids one.kind ∷ [] ≡ other.clear ∷ other.subscribe ∷ is_ids other.kind ∷ [] = ap set_of flags in
    let ids : is_ids one.kind ≡ is_ids other.kind = cc in
    let kinds : one.kind ≡ other.kind = sym (kind_back one.kind) ∙ ap kind_of ids ∙ kind_back other.kind in
    cc (request_is one, request_is other)

request_faults : ExactFaults read_request request_fields (λ r. Unit {0}) Nothing
unfolding read_request
request_faults = last_part (λ r. r) fields_exact fields_faults request_alike (λ r h. tt) λ request any. ends _ request (refl, tt)

-- ---- the laws

pub fault_is_first : FaultIsFirst
fault_is_first = reads_first_fault request_faults

pub form_or_fault : AreOneOfTwo
form_or_fault = one_of_two read_request reading_is_form fault_is_first

pub no_form_is_a_front : NoFormIsAFront
no_form_is_a_front = none_is_a_front request_alike (λ request octets form. (form, tt)) form_or_fault
