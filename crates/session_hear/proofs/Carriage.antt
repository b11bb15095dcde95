-- What is heard of written batches.
use Rattle.std.proofs.Common.{◌≡◌, ℕ, ◌+◌, ◌≤◌, ◌<◌, Bool, List, [], ◌∷◌, ◌++◌, length, take, drop, inl, inr, refl, sym, ap, subst, subst₂, ◌∙◌, append_assoc, append-nil, arith, length-append, take-append-drop}
use Rattle.std.proofs.lemmas.Bool.{cases_lt, eq-eqb}
use Rattle.std.proofs.lemmas.List.{take-append-le, drop-append-le, take_at, drop_at, nil_from_length}
use Rattle.wire_base.specs.Feeding.{More, Bad, Whole}
use Rattle.wire_base.specs.Turns.{Turn, Octet, Idle, Ended}
use Rattle.pb_batch.specs.declared.batch.Batch.{Batch}
use Rattle.pb_batch.specs.Front.{Front, front_of}
use Rattle.pb_batch.specs.Written.{IsBatch, written}
use Rattle.pb_batch.proofs.FrontLaws.{written_front}
use Rattle.pb_batch.proofs.Fronts.{front_none, whole_more, bad_more, whole_within}
use Rattle.session_hear.specs.Step.{Step, Came, Faulty, Quiet, Spent, Cut}
use Rattle.session_hear.specs.Hearing.{Hears, Deaf, Heard, heard_then, hear_front, heard_octets, settle, heard_from}
use Rattle.session_hear.specs.Carriage.{written_all, AreOf, octets_of_turns, IsOpen, came, AreWell, IsPartOf, WholeIn, Carries}
use Rattle.session_hear.proofs.Hearing.{hears_more, hears_whole}
use Rattle.session_hear.proofs.Limits.{spent_if, settle_below}

-- ---- octets

-- What is written of a batch is found, whatever follows.
found : (server : Bool) (batch : Batch) (more : List ℕ) → IsBatch batch → batch.from_server ≡ server → front_of server (written batch ++ more) ≡ Whole batch (length (written batch))
found server batch more is of = subst (λ (s : Bool). front_of s (written batch ++ more) ≡ Whole batch (length (written batch))) of (written_front batch more is)

-- Fewer octets than a batch has are none yet.
part_by : (server : Bool) (batch : Batch) (part rest : List ℕ) (front : Front) → front_of server part ≡ front → front_of server (part ++ rest) ≡ Whole batch (length (written batch)) → length part < length (written batch) → front_of server part ≡ More
part_by server batch part rest More is whole short = is
part_by server batch part rest (Bad fault) is whole short = let same : Bad fault ≡ Whole batch (length (written batch)) = sym (bad_more server part rest fault is) ∙ whole in absurd cc
part_by server batch part rest (Whole other len) is whole short =
    let same : Whole other len ≡ Whole batch (length (written batch)) = sym (whole_more server part rest other len is) ∙ whole in
    let one : len ≡ length (written batch) = cc in
    absurd (omega (arith, one, short, (whole_within server part other len is).1))

-- The steps of batches that came, and octets that are held after them.
pub record Carried (server : Bool) (quiet count : ℕ) (octets : List ℕ) (batches : List Batch) : Type 0 where
  pub whole : List Batch
  pub in_octets : WholeIn octets batches whole
  pub comes : came (heard_octets server (Hears [] quiet count) octets).0 ≡ whole
  pub well : AreWell (heard_octets server (Hears [] quiet count) octets).0

-- Octets that are held alone.
none_comes : (server : Bool) (quiet count : ℕ) (octets : List ℕ) → front_of server octets ≡ More
    → (heard_octets server (Hears [] quiet count) octets).0 ≡ []
none_comes server quiet count [] more = refl
none_comes server quiet count (octet ∷ octets) more = ap (λ (h : Heard). h.0) (hears_more server [] quiet count octet octets more)

held_alone : (server : Bool) (quiet count : ℕ) (octets : List ℕ) (batches : List Batch) → front_of server octets ≡ More → IsPartOf octets batches → Carried server quiet count octets batches
held_alone server quiet count octets batches more part =
    let none : (heard_octets server (Hears [] quiet count) octets).0 ≡ [] = none_comes server quiet count octets more in
    record {
      whole = [];
      in_octets = record { later = batches; part = octets; split = refl; joined = refl; torn = part };
      comes = ap came none;
      well = subst (λ (steps : List Step). AreWell steps) (sym none) tt;
    }

-- A batch, and what is heard after it.
after_one : (server : Bool) (quiet count : ℕ) (batch : Batch) (batches : List Batch) (octets more : List ℕ) → octets ≡ written batch ++ more → IsBatch batch → batch.from_server ≡ server
    → Carried server 0 (count + length (written batch)) more batches → Carried server quiet count octets (batch ∷ batches)
after_one server quiet count batch batches octets more is can of later =
    let len : ℕ = length (written batch) in
    let rest : Heard = heard_octets server (Hears [] 0 (count + len)) more in
    let dropped : drop len octets ≡ more = ap (drop len) is ∙ drop_at (written batch) more len refl in
    let plus : len ≡ 0 + len = omega arith in
    let heard_so : heard_octets server (Hears [] quiet count) octets ≡ (Came batch ∷ rest.0, rest.1) =
    hears_whole server [] quiet count octets batch len (front_none server) (ap (λ (o : List ℕ). front_of server o) is ∙ found server batch more can of ∙ ap (λ (n : ℕ). Whole batch n) plus)
    ∙ ap (λ (o : List ℕ). heard_then (Came batch ∷ [], Hears [] 0 (count + len)) (λ g. heard_octets server g o)) dropped in
    record {
      whole = batch ∷ later.whole;
      in_octets = record {
        later = later.in_octets.later;
        part = later.in_octets.part;
        split = ap (λ (bs : List Batch). batch ∷ bs) later.in_octets.split;
        joined = is ∙ ap (λ (o : List ℕ). written batch ++ o) later.in_octets.joined ∙ sym (append_assoc (written batch) (written_all later.whole) later.in_octets.part);
        torn = later.in_octets.torn;
      };
      comes = ap (λ (h : Heard). came h.0) heard_so ∙ ap (λ (bs : List Batch). batch ∷ bs) later.comes;
      well = subst (λ (h : Heard). AreWell h.0) (sym heard_so) later.well;
    }

-- A list of which nothing is left has no items.
first_nil : (xs ys : List ℕ) → xs ++ ys ≡ [] → xs ≡ []
first_nil xs ys none = nil_from_length xs (omega (arith, length-append xs ys, ap (λ (o : List ℕ). length o) none))

pub carried : (server : Bool) (quiet count : ℕ) (batches : List Batch) (octets rest : List ℕ) → AreOf server batches → octets ++ rest ≡ written_all batches → Carried server quiet count octets batches
carried server quiet count [] octets rest are joins =
    let none : octets ≡ [] = first_nil octets rest joins in
    held_alone server quiet count octets [] (ap (λ (o : List ℕ). front_of server o) none ∙ front_none server) none
carried server quiet count (batch ∷ batches) octets rest are joins =
    elim (cases_lt (length octets) (length (written batch))) [
      | inl short ↦ held_alone server quiet count octets (batch ∷ batches)
          (part_by server batch octets rest (front_of server octets) refl (ap (λ (o : List ℕ). front_of server o) joins ∙ found server batch (written_all batches) are.0 are.1) short) short
      | inr long ↦
          let len : ℕ = length (written batch) in
          let front_is : take len octets ≡ written batch = sym (take-append-le len octets rest long) ∙ ap (take len) joins ∙ take_at (written batch) (written_all batches) len refl in
          let after_is : drop len octets ++ rest ≡ written_all batches = sym (drop-append-le len octets rest long) ∙ ap (drop len) joins ∙ drop_at (written batch) (written_all batches) len refl in
          after_one server quiet count batch batches octets (drop len octets) (sym (take-append-drop len octets) ∙ ap (λ (o : List ℕ). o ++ drop len octets) front_is) are.0 are.1
          (carried server 0 (count + len) batches (drop len octets) rest are.2 after_is)
    ]

-- ---- turns

-- Steps that differ in idle turns alone: the same batches came, and where the one have no fault the
-- others have none.
pub record Alike (one other : List Step) : Type 0 where
  pub comes : came one ≡ came other
  pub well : AreWell other → AreWell one

came_append : (one other : List Step) → came (one ++ other) ≡ came one ++ came other
came_append [] other = refl
came_append (Came batch ∷ one) other = ap (λ (bs : List Batch). batch ∷ bs) (came_append one other)
came_append (Faulty fault ∷ one) other = came_append one other
came_append (Quiet turns ∷ one) other = came_append one other
came_append (Spent ∷ one) other = came_append one other
came_append (Cut have ∷ one) other = came_append one other

well_append : (one other : List Step) → AreWell one → AreWell other → AreWell (one ++ other)
well_append [] other first second = second
well_append (Came batch ∷ one) other first second = well_append one other first second
well_append (Faulty fault ∷ one) other first second = absurd first
well_append (Quiet turns ∷ one) other first second = well_append one other first second
well_append (Spent ∷ one) other first second = well_append one other first second
well_append (Cut have ∷ one) other first second = well_append one other first second

well_parts : (one other : List Step) → AreWell (one ++ other) → AreWell one × AreWell other
well_parts [] other both = (tt, both)
well_parts (Came batch ∷ one) other both = well_parts one other both
well_parts (Faulty fault ∷ one) other both = absurd both
well_parts (Quiet turns ∷ one) other both = well_parts one other both
well_parts (Spent ∷ one) other both = well_parts one other both
well_parts (Cut have ∷ one) other both = well_parts one other both

alike_append : (first one other : List Step) → Alike one other → Alike (first ++ one) (first ++ other)
alike_append first one other alike = record {
  comes = came_append first one ∙ ap (λ (bs : List Batch). came first ++ bs) alike.comes ∙ sym (came_append first other);
  well = λ well. let p = well_parts first other well in well_append first one p.0 (alike.well p.1);
}

-- An end that hears nothing more.
deaf_from : (server : Bool) (limit : ℕ) (turns : List Turn) → (heard_from server limit Deaf turns).0 ≡ []
deaf_from server limit [] = refl
deaf_from server limit (Octet octet ∷ turns) = deaf_from server limit turns
deaf_from server limit (Idle ∷ turns) = deaf_from server limit turns
deaf_from server limit (Ended ∷ turns) = deaf_from server limit turns

deaf_octets : (server : Bool) (octets : List ℕ) → (heard_octets server Deaf octets).0 ≡ []
deaf_octets server [] = refl
deaf_octets server (octet ∷ octets) = deaf_octets server octets

-- The last octet of the limit, and what is heard after it.
at_limit : (server : Bool) (limit : ℕ) (first : List Step) (held : List ℕ) (count : ℕ) (turns : List Turn) → count ≡ limit
    → (heard_then (settle limit (first, Hears held 0 count)) (λ g. heard_from server limit g turns)).0 ≡ first ++ Spent ∷ []
at_limit server limit first held count turns is =
    let settled : settle limit (first, Hears held 0 count) ≡ (first ++ Spent ∷ [], Deaf) = ap (λ (b : Bool). spent_if b first (Hears held 0 count)) (eq-eqb count limit is) in
    ap (λ (h : Heard). (heard_then h (λ g. heard_from server limit g turns)).0) settled
    ∙ ap (λ (steps : List Step). (first ++ Spent ∷ []) ++ steps) (deaf_from server limit turns)
    ∙ append-nil (first ++ Spent ∷ [])

spent_alike : (first : List Step) → Alike (first ++ Spent ∷ []) (first ++ [])
spent_alike first = alike_append first (Spent ∷ []) [] (record { comes = refl; well = λ well. tt })

-- The steps of an octet, and those of the turns after it.
alike_next : (server : Bool) (limit : ℕ) (first : List Step) (held : List ℕ) (count quiet other : ℕ) (turns : List Turn) → count + length (octets_of_turns turns) ≤ limit
    → (count < limit → Alike (heard_from server limit (Hears held 0 count) turns).0 (heard_octets server (Hears held quiet other) (octets_of_turns turns)).0)
    → Alike (heard_then (settle limit (first, Hears held 0 count)) (λ g. heard_from server limit g turns)).0 (first ++ (heard_octets server (Hears held quiet other) (octets_of_turns turns)).0)
alike_next server limit first held count quiet other turns within later =
    elim (cases_lt count limit) [
      | inl below ↦ subst (λ (h : Heard). Alike (heard_then h (λ g. heard_from server limit g turns)).0 (first ++ (heard_octets server (Hears held quiet other) (octets_of_turns turns)).0))
          (sym (settle_below limit first held 0 count below))
          (alike_append first (heard_from server limit (Hears held 0 count) turns).0 (heard_octets server (Hears held quiet other) (octets_of_turns turns)).0 (later below))
      | inr above ↦
          let none : octets_of_turns turns ≡ [] = nil_from_length (octets_of_turns turns) (omega (arith, within, above)) in
          subst₂ (λ (one two : List Step). Alike one (first ++ two)) (sym (at_limit server limit first held count turns (omega (arith, within, above))))
          (sym (ap (λ (o : List ℕ). (heard_octets server (Hears held quiet other) o).0) none)) (spent_alike first)
    ]

alike_front : (server : Bool) (limit : ℕ) (held : List ℕ) (count other : ℕ) (turns : List Turn) (front : Front) → count + length (octets_of_turns turns) ≤ limit
    → ((next : List ℕ) → count < limit → Alike (heard_from server limit (Hears next 0 count) turns).0 (heard_octets server (Hears next 0 other) (octets_of_turns turns)).0)
    → Alike (heard_then (settle limit (hear_front held count front)) (λ g. heard_from server limit g turns)).0 (heard_then (hear_front held other front) (λ g. heard_octets server g (octets_of_turns turns))).0
alike_front server limit held count other turns More within later = alike_next server limit [] held count 0 other turns within (later held)
alike_front server limit held count other turns (Bad fault) within later =
    record { comes = ap came (deaf_from server limit turns) ∙ sym (ap came (deaf_octets server (octets_of_turns turns))); well = λ well. absurd well }
alike_front server limit held count other turns (Whole batch len) within later = alike_next server limit (Came batch ∷ []) [] count 0 other turns within (later [])

-- Idle turns do not alter the batches.
pub alike : (server : Bool) (limit : ℕ) (held : List ℕ) (quiet count silent other : ℕ) (turns : List Turn) → IsOpen turns → count < limit → count + length (octets_of_turns turns) ≤ limit
    → Alike (heard_from server limit (Hears held quiet count) turns).0 (heard_octets server (Hears held silent other) (octets_of_turns turns)).0
alike server limit held quiet count silent other [] unclosed below within = record { comes = refl; well = λ well. well }
alike server limit held quiet count silent other (Octet octet ∷ turns) unclosed below within =
    let less : count + 1 + length (octets_of_turns turns) ≤ limit = omega (arith, within) in
    alike_front server limit (held ++ octet ∷ []) (count + 1) (other + 1) turns (front_of server (held ++ octet ∷ [])) less
    (λ next under. alike server limit next 0 (count + 1) 0 (other + 1) turns unclosed under less)
alike server limit held quiet count silent other (Idle ∷ turns) unclosed below within =
    let rest = alike server limit held (quiet + 1) count silent other turns unclosed below within in
    record { comes = rest.comes; well = rest.well }
alike server limit held quiet count silent other (Ended ∷ turns) unclosed below within = absurd unclosed

-- ---- what is heard of written batches

pub carries : Carries
carries server limit batches turns rest are unclosed some within joins =
    let octets : List ℕ = octets_of_turns turns in
    let c = carried server 0 0 batches octets rest are joins in
    let less : 0 + length octets ≤ limit = omega (arith, within) in
    let same = alike server limit [] 0 0 0 0 turns unclosed some less in
    (subst (λ (whole : List Batch). WholeIn octets batches whole) (sym (same.comes ∙ c.comes)) c.in_octets, same.well c.well)
