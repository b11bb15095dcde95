-- Each fault of a batch is of a code that is reported.
use Rattle.std.proofs.Common.{◌≡◌, ℕ, ◌+◌, zero, suc, Bool, true, false, cond, eqb, List, [], ◌∷◌, ◌++◌, Option, Some, None, Result, Ok, Err, ◌⊎◌, inl, inr, refl, ap, subst, length, drop}
use Rattle.std.specs.Prelude.{nat_lt, slice_range}
use Rattle.std.specs.List.{AllByRecursion}
use Rattle.wire_base.specs.FaultTable.{Row, first_shown, unless}
use Rattle.wire_base.specs.Feeding.{Front as FrontOf, More, Bad, after_header, valued}
use Rattle.pb_batch.specs.declared.batch.Batch.{Batch}
use Rattle.pb_batch.specs.declared.batch.Message.{Message}
use Rattle.pb_batch.specs.declared.fault.PbFault.{PbFault}
use Rattle.pb_batch.specs.Faults.{header_rows, head_rows, kind_in, length_in, message_rows, type_in, value_rows, vendor_in}
use Rattle.pb_batch.specs.Form.{BATCH_MESSAGES, HEADER_OCTETS}
use Rattle.pb_batch.specs.Front.{batch_of, batches, front_of, header_in, header_of, message_of, message_then, messages_of}
use Rattle.pb_batch.specs.Types.{ietf_type}
use Rattle.pb_batch.specs.Written.{IsTold}

-- ---- rows

abbrev IsRowTold : Row PbFault → Type 0
IsRowTold row = IsTold row.fault.code

abbrev AreTold : List (Row PbFault) → Type 0
AreTold rows = AllByRecursion IsRowTold rows

invalid : IsTold 1
invalid = inr (inl refl)

unsupported : IsTold 3
unsupported = inr (inr (inl refl))

version : IsTold 4
version = inr (inr (inr refl))

told_append : (rows later : List (Row PbFault)) → AreTold rows → AreTold later → AreTold (rows ++ later)
told_append [] later told more = more
told_append (row ∷ rows) later told more = (told.0, told_append rows later told.1 more)

header_told : (from_server : Bool) (octets : List ℕ) → AreTold (header_rows from_server octets)
header_told from_server octets = (version, (invalid, (invalid, (invalid, tt))))

-- What is true of both is true of either.
either : {A : Type 0} (P : A → Type 0) (test : Bool) (x y : A) → P x → P y → P (cond test x y)
either P true x y first second = first
either P false x y first second = second

-- The type of a message is one of five, each named here by a number of its own.
value_told : (kind place : ℕ) (rest : List ℕ) → AreTold (value_rows (ietf_type kind) place rest)
value_told kind place rest =
    either (λ type. AreTold (value_rows type place rest)) (eqb kind 1) (ietf_type 1) (cond (eqb kind 2) (ietf_type 2) (cond (eqb kind 3) (ietf_type 3) (cond (eqb kind 5) (ietf_type 5) (ietf_type 0)))) (invalid, (invalid, tt))
    (either (λ type. AreTold (value_rows type place rest)) (eqb kind 2) (ietf_type 2) (cond (eqb kind 3) (ietf_type 3) (cond (eqb kind 5) (ietf_type 5) (ietf_type 0))) (invalid, tt)
    (either (λ type. AreTold (value_rows type place rest)) (eqb kind 3) (ietf_type 3) (cond (eqb kind 5) (ietf_type 5) (ietf_type 0)) (invalid, tt)
    (either (λ type. AreTold (value_rows type place rest)) (eqb kind 5) (ietf_type 5) (ietf_type 0) tt tt)))

values_told : (place : ℕ) (rest : List ℕ) → AreTold (value_rows (type_in rest) place rest)
values_told place rest =
    either (λ type. AreTold (value_rows type place rest)) (eqb (vendor_in rest) 0) (ietf_type (kind_in rest)) (ietf_type 0) (value_told (kind_in rest) place rest) tt

message_told : (left place : ℕ) (rest : List ℕ) → AreTold (message_rows left place rest)
message_told left place rest =
    told_append (head_rows left place rest) (value_rows (type_in rest) place rest) (invalid, (invalid, (unsupported, (invalid, (invalid, (invalid, tt)))))) (values_told place rest)

-- The first that shows is reported.
shown_by : (row : Row PbFault) (later : Option PbFault) (fault : PbFault) (test : Bool) → IsRowTold row → (later ≡ Some fault → IsTold fault.code) → cond test (Some row.fault) later ≡ Some fault → IsTold fault.code
shown_by row later fault true told rest is = let same : row.fault ≡ fault = cc in subst (λ (f : PbFault). IsTold f.code) same told
shown_by row later fault false told rest is = rest is

shown_told : (rows : List (Row PbFault)) (fault : PbFault) → AreTold rows → first_shown rows ≡ Some fault → IsTold fault.code
shown_told [] fault told shows = absurd cc
shown_told (row ∷ rows) fault told shows = shown_by row (first_shown rows) fault row.shows told.0 (shown_told rows fault told.1) shows

-- ---- messages

then_bad : (shown : Option PbFault) (message : Message) (others : Result (List Message) PbFault) (fault : PbFault) → message_then shown message others ≡ Err fault → (shown ≡ Some fault) ⊎ (others ≡ Err fault)
then_bad None message (Ok messages) fault is = absurd cc
then_bad None message (Err other) fault is = inr is
then_bad (Some other) message others fault is = inl (let same : other ≡ fault = cc in ap (λ (f : PbFault). Some f) same)

unless_empty : (test : Bool) (others : Result (List Message) PbFault) (fault : PbFault) → cond test (Ok []) others ≡ Err fault → others ≡ Err fault
unless_empty true others fault is = absurd cc
unless_empty false others fault is = is

messages_told : (left place : ℕ) (rest : List ℕ) (fault : PbFault) → messages_of left place rest ≡ Err fault → IsTold fault.code
unfolding messages_of
messages_told zero place rest fault is =
    elim (then_bad (first_shown (message_rows zero place rest)) (message_of rest) (Ok []) fault (unless_empty (eqb (length rest) 0) (message_then (first_shown (message_rows zero place rest)) (message_of rest) (Ok [])) fault is)) [
      | inl shows ↦ shown_told (message_rows zero place rest) fault (message_told zero place rest) shows
      | inr later ↦ absurd cc
    ]
messages_told (suc left) place rest fault is =
    let others : Result (List Message) PbFault = messages_of left (place + length_in rest) (drop (length_in rest) rest) in
    elim (then_bad (first_shown (message_rows (suc left) place rest)) (message_of rest) others fault (unless_empty (eqb (length rest) 0) (message_then (first_shown (message_rows (suc left) place rest)) (message_of rest) others) fault is)) [
      | inl shows ↦ shown_told (message_rows (suc left) place rest) fault (message_told (suc left) place rest) shows
      | inr later ↦ messages_told left (place + length_in rest) (drop (length_in rest) rest) fault later
    ]

-- ---- a batch

batch_told : (from_server : Bool) (header : _) (len place : ℕ) (rest : List ℕ) (messages : Result (List Message) PbFault) (fault : PbFault) → messages_of BATCH_MESSAGES place rest ≡ messages
    → valued len (batch_of from_server header messages) ≡ Bad fault → IsTold fault.code
batch_told from_server header len place rest (Ok messages) fault is bad = absurd cc
batch_told from_server header len place rest (Err other) fault is bad =
    let same : other ≡ fault = cc in subst (λ (f : PbFault). IsTold f.code) same (messages_told BATCH_MESSAGES place rest other is)

unless_more : (test : Bool) (front : FrontOf Batch PbFault) (fault : PbFault) → cond test More front ≡ Bad fault → front ≡ Bad fault
unless_more true front fault is = absurd cc
unless_more false front fault is = is

header_front_told : (from_server : Bool) (octets : List ℕ) (shown : Option PbFault) (fault : PbFault) → first_shown (header_rows from_server octets) ≡ shown
    → after_header (batches from_server) octets (unless shown (header_in octets)) ≡ Bad fault → IsTold fault.code
header_front_told from_server octets (Some other) fault is bad =
    let same : other ≡ fault = cc in subst (λ (f : PbFault). IsTold f.code) same (shown_told (header_rows from_server octets) other (header_told from_server octets) is)
header_front_told from_server octets None fault is bad =
    let header = header_in octets in
    let rest : List ℕ = slice_range octets HEADER_OCTETS header.length in
    batch_told from_server header header.length HEADER_OCTETS rest (messages_of BATCH_MESSAGES HEADER_OCTETS rest) fault refl
    (unless_more (nat_lt (length octets) header.length) (valued header.length (batch_of from_server header (messages_of BATCH_MESSAGES HEADER_OCTETS rest))) fault bad)

pub bad_is_told : (from_server : Bool) (octets : List ℕ) (fault : PbFault) → front_of from_server octets ≡ Bad fault → IsTold fault.code
unfolding front_of
bad_is_told from_server octets fault bad =
    header_front_told from_server octets (first_shown (header_rows from_server octets)) fault refl
    (unless_more (nat_lt (length octets) 8) (after_header (batches from_server) octets (header_of from_server octets)) fault bad)
