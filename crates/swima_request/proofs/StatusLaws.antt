-- Subscriptions: their layout, and the reader of it, say the same, and a fault is the first one.
use Rattle.std.proofs.Common.{◌≡◌, ◌++◌, List, length, refl, subst}
use Rattle.std.specs.List.{flat_map}
use Rattle.wire_base.specs.Layout.{Form}
use Rattle.wire_base.specs.Written.{Fit}
use Rattle.wire_base.proofs.Blocks as blocks
use Rattle.wire_base.proofs.Exact.{Exact, Nothing}
use Rattle.wire_base.proofs.FieldFaults as faults
use Rattle.wire_base.proofs.Faults.{ExactFaults, Alike}
use Rattle.wire_base.proofs.FormOrFault.{reads_first_fault, one_of_two, none_is_a_front}
use Rattle.wire_base.proofs.WrittenLaws.{written_form}
use Rattle.swima_request.specs.declared.request.Request.{Request}
use Rattle.swima_request.specs.Laws.{HasRoom}
use Rattle.swima_request.specs.RequestForm.{request_fields}
use Rattle.swima_request.specs.StatusForm.{read_status, status_fields, written_status}
use Rattle.swima_request.specs.StatusLaws.{AreOneOfTwo, FaultIsFirst, NoFormIsAFront, ReadingIsForm, WrittenIsRead}
use Rattle.swima_request.proofs.Each.{fit_each}
use Rattle.swima_request.proofs.FaultLaws.{fields_faults, request_alike}
use Rattle.swima_request.proofs.RequestLaws.{fields_exact}
use Rattle.swima_request.proofs.Writing.{request_fits}

-- ---- reading

status_exact : Exact read_status (λ rs. rs) status_fields (λ rs. Unit {0}) Nothing
unfolding read_status
status_exact = blocks.then_flags λ flags. blocks.then_number λ count.
    blocks.last_several (λ rs. rs) fields_exact (λ rs h. assumption (h, blocks.all_any rs)) λ requests known.
    blocks.ends requests refl (assumption (refl, known)) (λ rs h. h.0)

status_faults : ExactFaults read_status status_fields (λ rs. Unit {0}) Nothing
unfolding read_status
status_faults = faults.then_flags (λ one other. refl) λ flags. faults.then_number λ count.
    faults.last_several (λ rs. rs) fields_exact fields_faults request_alike (λ rs h. assumption (h, blocks.all_any rs)) λ requests known.
    faults.ends _ requests (assumption (refl, known))

status_alike : Alike status_fields (λ rs. Unit {0})
status_alike one other more most so also e =
    let count : length one ≡ length other = cc in
    let tails : flat_map request_fields one ++ more ≡ flat_map request_fields other ++ most = cc in
    faults.alike_lists request_fields request_alike one other more most count (blocks.all_any one) (blocks.all_any other) tails

-- ---- the laws

pub reading_is_form : ReadingIsForm
reading_is_form base octets requests are = (
  λ read. let f = blocks.whole_forth status_exact base octets requests are read in subst (λ (rs : List Request). Form (status_fields rs) octets) f.1 f.2,
  λ form. blocks.whole_back status_exact base octets requests form tt,
)

pub fault_is_first : FaultIsFirst
fault_is_first = reads_first_fault status_faults

pub form_or_fault : AreOneOfTwo
form_or_fault = one_of_two read_status reading_is_form fault_is_first

pub no_form_is_a_front : NoFormIsAFront
no_form_is_a_front = none_is_a_front status_alike (λ requests octets form. (form, tt)) form_or_fault

-- What is written of subscriptions is read back.
pub written_is_read : WrittenIsRead
written_is_read base requests room =
    let fit : Fit (status_fields requests) = (tt, (room.count, fit_each request_fields HasRoom request_fits requests room.each)) in
    blocks.whole_back status_exact base (written_status requests) requests (written_form (status_fields requests) fit) tt
