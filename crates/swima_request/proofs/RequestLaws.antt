-- A request's layout, and the reader of it, say the same.
use Rattle.std.proofs.Common.{◌≡◌, Bool, true, false, refl, subst}
use Rattle.wire_base.specs.Layout.{Form, is_set}
use Rattle.wire_base.proofs.Exact.{Exact, Anything, Nothing, counted_exact}
use Rattle.wire_base.proofs.Blocks.{then_number, then_flags, last_part, last_several, all_any, gives, ends, whole_forth, whole_back}
use Rattle.wire_base.proofs.WrittenLaws.{written_form}
use Rattle.swima_model.specs.declared.report.Kind.{Kind}
use Rattle.swima_model.specs.declared.report.Kind.TheVariants as kind
use Rattle.swima_request.specs.declared.request.Request.{Request}
use Rattle.swima_request.specs.RequestForm.{CLEAR, SUBSCRIBE, IDENTIFIERS_ONLY, is_ids, kind_of, read_fields, read_request, request_fields, written_request}
use Rattle.swima_request.specs.Laws.{ReadingIsForm, WrittenIsRead}
use Rattle.swima_request.proofs.Writing.{request_fits}

-- A request is made of its parts.
pub request_is : (r : Request) → r ≡ record { clear = r.clear; subscribe = r.subscribe; kind = r.kind; id = r.id; earliest = r.earliest; targets = r.targets }
request_is r = refl

-- The kind and its flag are each other's.
pub kind_back : (k : Kind) → kind_of (is_ids k) ≡ k
kind_back kind.Ids = refl
kind_back kind.Full = refl

pub flag_back : (ids_only : Bool) → ids_only ≡ is_ids (kind_of ids_only)
flag_back true = refl
flag_back false = refl

-- The fields of a request, whatever follows.
pub fields_exact : Exact read_fields (λ r. r) request_fields (λ r. Unit {0}) Anything
unfolding read_fields
fields_exact = then_flags λ flags. then_number λ count. then_number λ id. then_number λ earliest.
    last_several (λ r. r.targets) (counted_exact 2) (λ r h. assumption (h, all_any r.targets)) λ targets known.
    gives (record { clear = is_set flags CLEAR; subscribe = is_set flags SUBSCRIBE; kind = kind_of (is_set flags IDENTIFIERS_ONLY); id = id; earliest = earliest; targets = targets }) refl
    (assumption (refl, known, flag_back (is_set flags IDENTIFIERS_ONLY))) (λ r h. cc (request_is r, kind_back r.kind))

-- A request, after which nothing is left.
request_exact : Exact read_request (λ r. r) request_fields (λ r. Unit {0}) Nothing
unfolding read_request
request_exact = last_part (λ r. r) fields_exact (λ r h. tt) λ request any. ends request refl (refl, tt) (λ r h. h.0)

-- A request is read of octets exactly where they have its form.
pub reading_is_form : ReadingIsForm
reading_is_form base octets request are = (
  λ read. let f = whole_forth request_exact base octets request are read in subst (λ (r : Request). Form (request_fields r) octets) f.1 f.2,
  λ form. whole_back request_exact base octets request form tt,
)

-- What is written of a request is read back.
pub written_is_read : WrittenIsRead
written_is_read base request room =
    whole_back request_exact base (written_request request) request (written_form (request_fields request) (request_fits request room)) tt
