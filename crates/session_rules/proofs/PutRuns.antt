-- What is put into messages one after another, and where subscriptions are placed then.
use Rattle.std.proofs.Common.{◌≡◌, ℕ, ◌<◌, ◌^◌, Bool, true, false, cond, List, [], ◌∷◌, ◌++◌, Option, Some, None, take, zero, suc, refl, sym, ap, subst, ◌∙◌, append_assoc, append-nil}
use Rattle.std.specs.Prelude.{◌==◌, fold, not, map}
use Rattle.std.specs.List.{AllByRecursion}
use Rattle.std.proofs.lemmas.Bool.{or_parts, or_from, cond-false, eqb-true, eqb-false}
use Rattle.swima_model.specs.declared.report.Point.{Point}
use Rattle.swima_model.specs.declared.report.Report.{Report}
use Rattle.swima_request.specs.declared.request.Request.{Request}
use Rattle.swima_subs.specs.declared.waiting.Waiting.{Waiting}
use Rattle.swima_subs.specs.Subscriptions.{AreDifferent, ended, fulfilled_to, has_id, is_held, reported}
use Rattle.collector_core.specs.Chronicle.{Chronicle}
use Rattle.session_rules.specs.Answering.{reach_of}
use Rattle.session_rules.specs.SubRuns.{ArePut, Filled, IsPlaced, IsPut, Put, Sent, Sends, SendsFault, Reported, all_octets, all_puts, last_after, last_for, puts_of, sent_octets}

-- ---- one more

puts_append : (messages : List Filled) (filled : Filled) → puts_of (messages ++ filled ∷ []) ≡ puts_of messages ++ filled.puts
puts_append [] filled = append-nil filled.puts
puts_append (one ∷ later) filled = ap (λ (ps : List Put). one.puts ++ ps) (puts_append later filled) ∙ sym (append_assoc one.puts (puts_of later) filled.puts)

-- The puts that were open are those of the message that is closed.
pub puts_closed : (before : List Put) (messages : List Filled) (filled : Filled) → before ++ (puts_of messages ++ filled.puts) ≡ before ++ (puts_of (messages ++ filled ∷ []) ++ [])
puts_closed before messages filled =
    ap (λ (ps : List Put). before ++ ps) (sym (puts_append messages filled) ∙ sym (append-nil (puts_of (messages ++ filled ∷ []))))

pub octets_append : (sent : List Sent) (one : Sent) → all_octets (sent ++ one ∷ []) ≡ all_octets sent ++ sent_octets one
octets_append [] one = append-nil (sent_octets one)
octets_append (first ∷ later) one = ap (λ (os : List ℕ). sent_octets first ++ os) (octets_append later one) ∙ sym (append_assoc (sent_octets first) (all_octets later) (sent_octets one))

pub all_append : (sent others : List Sent) → all_puts (sent ++ others) ≡ all_puts sent ++ all_puts others
all_append [] others = refl
all_append (Sends kind messages ∷ later) others = ap (λ (ps : List Put). puts_of messages ++ ps) (all_append later others) ∙ sym (append_assoc (puts_of messages) (all_puts later) (all_puts others))
all_append (SendsFault fault ∷ later) others = all_append later others

put_after : (chronicle : Chronicle) (earlier puts : List Put) (put : Put) → ArePut chronicle earlier puts → IsPut chronicle (earlier ++ puts) put → ArePut chronicle earlier (puts ++ put ∷ [])
put_after chronicle earlier [] put are is = (subst (λ (ps : List Put). IsPut chronicle ps put) (append-nil earlier) is, tt)
put_after chronicle earlier (first ∷ later) put are is = (
  are.0,
  put_after chronicle (earlier ++ first ∷ []) later put are.1 (subst (λ (ps : List Put). IsPut chronicle ps put) (sym (append_assoc earlier (first ∷ []) later)) is),
)

pub put_more : (chronicle : Chronicle) (puts : List Put) (put : Put) → ArePut chronicle [] puts → IsPut chronicle puts put → ArePut chronicle [] (puts ++ put ∷ [])
put_more chronicle puts put are is = put_after chronicle [] puts put are is

last_from : (id : ℕ) (last : Option Reported) (puts : List Put) (put : Put) → fold (last_after id) last (puts ++ put ∷ []) ≡ last_after id (fold (last_after id) last puts) put
last_from id last [] put = refl
last_from id last (first ∷ later) put = last_from id (last_after id last first) later put

pub last_more : (id : ℕ) (puts : List Put) (put : Put) → last_for id (puts ++ put ∷ []) ≡ last_after id (last_for id puts) put
last_more id puts put = last_from id None puts put

pub none_put : {X Y : Type 0} (f : X → Y) (xs : List X) → map f xs ≡ [] → xs ≡ []
none_put f [] none = refl
none_put f (x ∷ xs) none = absurd cc

-- ---- subscriptions

-- It is placed, at an event identifier of four octets.
abbrev pub Placed : List Put → Waiting → Type 0
Placed puts held = (place : Point) → held.place ≡ Some place → (last : Report) × (last_for held.request.id puts ≡ Some (held.request, last)) × (reach_of last ≡ place) × (place.eid < 2 ^ 32)

pub are_placed : (puts : List Put) (subs : List Waiting) → AllByRecursion (Placed puts) subs → AllByRecursion (IsPlaced puts) subs
are_placed puts [] all = tt
are_placed puts (held ∷ later) all = (λ place is. let there = all.0 place is in (there.0, there.1, there.2), are_placed puts later all.1)

-- One that has the ID is of this request.
abbrev pub IsOf : Request → Waiting → Type 0
IsOf request held = has_id request.id held ≡ true → held.request ≡ request

all_or : {X : Type 0} (P Q : X → Type 0) (xs : List X) → ((x : X) → P x → Q x) → AllByRecursion P xs → AllByRecursion Q xs
all_or P Q [] so all = tt
all_or P Q (x ∷ xs) so all = (so x all.0, all_or P Q xs so all.1)

pub all_taken : {X : Type 0} (P : X → Type 0) (n : ℕ) (xs : List X) → AllByRecursion P xs → AllByRecursion P (take n xs)
all_taken P zero xs all = tt
all_taken P (suc n) [] all = tt
all_taken P (suc n) (x ∷ xs) all = (all.0, all_taken P n xs all.1)

pub all_pushed : {X : Type 0} (P : X → Type 0) (xs : List X) (x : X) → AllByRecursion P xs → P x → AllByRecursion P (xs ++ x ∷ [])
all_pushed P [] x all so = (so, tt)
all_pushed P (y ∷ ys) x all so = (all.0, all_pushed P ys x all.1 so)

pub all_ended : (P : Waiting → Type 0) (id : ℕ) (subs : List Waiting) → AllByRecursion P subs → AllByRecursion P (ended subs id)
all_ended P id [] all = tt
all_ended P id (held ∷ later) all = by_test (not (has_id id held)) (all_ended P id later all.1)
  where
    by_test : (b : Bool) → AllByRecursion P (ended later id) → AllByRecursion P (cond b (held ∷ ended later id) (ended later id))
    by_test true rest = (all.0, rest)
    by_test false rest = rest

-- What was put is of no subscription.
pub placed_on : (puts : List Put) (put : Put) (subs : List Waiting) → ((id : ℕ) (last : Option Reported) → last_after id last put ≡ last) → AllByRecursion (Placed puts) subs → AllByRecursion (Placed (puts ++ put ∷ [])) subs
placed_on puts put subs other all = all_or (Placed puts) (Placed (puts ++ put ∷ [])) subs (λ held placed place is. let there = placed place is in (there.0, last_more held.request.id puts put ∙ other held.request.id (last_for held.request.id puts) ∙ there.1, there.2, there.3)) all

-- What was put is a report for the subscription of a request.
module _ (puts : List Put) (put : Put) (request : Request) (report : Report) (after : (id : ℕ) (last : Option Reported) → last_after id last put ≡ cond (id == request.id) (Some (request, report)) last) where
  last_other : (id : ℕ) → (id == request.id) ≡ false → last_for id (puts ++ put ∷ []) ≡ last_for id puts
  last_other id other = last_more id puts put ∙ after id (last_for id puts) ∙ cond-false (id == request.id) (Some (request, report)) (last_for id puts) other

  last_same : (id : ℕ) → (id == request.id) ≡ true → last_for id (puts ++ put ∷ []) ≡ Some (request, report)
  last_same id same = last_more id puts put ∙ after id (last_for id puts) ∙ ap (λ (b : Bool). cond b (Some (request, report)) (last_for id puts)) same

  other_placed : (held : Waiting) → has_id request.id held ≡ false → Placed puts held → Placed (puts ++ put ∷ []) held
  other_placed held other placed place is = let there = placed place is in (there.0, last_other held.request.id other ∙ there.1, there.2, there.3)

  one_placed : (held : Waiting) → (reach_of report).eid < 2 ^ 32 → IsOf request held → Placed puts held → Placed (puts ++ put ∷ []) (fulfilled_to request.id (reach_of report) held)
  one_placed held below of placed = by_test (has_id request.id held) refl
    where
      by_test : (b : Bool) → has_id request.id held ≡ b → Placed (puts ++ put ∷ []) (cond b (record held { place = Some (reach_of report) }) held)
      by_test true same = λ place is. (report, last_same held.request.id same ∙ ap (λ (r : Request). Some (r, report)) (sym (of same)), some_is place is, subst (λ (p : Point). p.eid < 2 ^ 32) (some_is place is) below)
        where
          some_is : (place : Point) → Some (reach_of report) ≡ Some place → reach_of report ≡ place
          some_is place is = cc
      by_test false other = other_placed held other placed

  pub placed_reported : (subs : List Waiting) → (reach_of report).eid < 2 ^ 32 → AllByRecursion (IsOf request) subs → AllByRecursion (Placed puts) subs → AllByRecursion (Placed (puts ++ put ∷ [])) (reported subs request.id (reach_of report))
  placed_reported [] below of all = tt
  placed_reported (held ∷ later) below of all = (one_placed held below of.0 all.0, placed_reported later below of.1 all.1)

  -- Those that have other IDs stay where they are.
  pub others_placed : (subs : List Waiting) → is_held request.id subs ≡ false → AllByRecursion (Placed puts) subs → AllByRecursion (Placed (puts ++ put ∷ [])) subs
  others_placed [] none all = tt
  others_placed (held ∷ later) none all =
      let parts = or_parts (has_id request.id held) (is_held request.id later) none in
      (other_placed held parts.0 all.0, others_placed later parts.1 all.1)

-- ---- different IDs

not_both : (b : Bool) → b ≡ true → b ≡ false → ⊥
not_both true is other = absurd cc
not_both false is other = absurd cc

pub none_of : (request : Request) (subs : List Waiting) → is_held request.id subs ≡ false → AllByRecursion (IsOf request) subs
none_of request [] none = tt
none_of request (held ∷ later) none =
    let parts = or_parts (has_id request.id held) (is_held request.id later) none in
    (λ same. absurd (not_both (has_id request.id held) same parts.0), none_of request later parts.1)

-- Each of the items is the only one of its ID.
abbrev pub OnlyOnes : List Waiting → List Waiting → Type 0
OnlyOnes items subs = AllByRecursion (λ (item : Waiting). AllByRecursion (IsOf item.request) subs) items

only_more : (held : Waiting) (items subs : List Waiting) → is_held held.request.id items ≡ false → OnlyOnes items subs → OnlyOnes items (held ∷ subs)
only_more held [] subs none only = tt
only_more held (item ∷ later) subs none only =
    let parts = or_parts (has_id held.request.id item) (is_held held.request.id later) none in
    ((λ same. absurd (eqb-false item.request.id held.request.id parts.0 (sym (eqb-true held.request.id item.request.id same))), only.0), only_more held later subs parts.1 only.1)

pub only_ones : (subs : List Waiting) → AreDifferent subs → OnlyOnes subs subs
only_ones [] different = tt
only_ones (held ∷ later) different = (
  ((λ same. refl), none_of held.request later different.0),
  only_more held later later different.0 (only_ones later different.1),
)

only_reported_one : (request : Request) (id : ℕ) (point : Point) (held : Waiting) → IsOf request held → IsOf request (fulfilled_to id point held)
only_reported_one request id point held of = by_test (has_id id held)
  where
    by_test : (b : Bool) → IsOf request (cond b (record held { place = Some point }) held)
    by_test true = of
    by_test false = of

of_reported : (request : Request) (id : ℕ) (point : Point) (subs : List Waiting) → AllByRecursion (IsOf request) subs → AllByRecursion (IsOf request) (reported subs id point)
of_reported request id point [] of = tt
of_reported request id point (held ∷ later) of = (only_reported_one request id point held of.0, of_reported request id point later of.1)

pub only_reported : (items subs : List Waiting) (id : ℕ) (point : Point) → OnlyOnes items subs → OnlyOnes items (reported subs id point)
only_reported items subs id point only =
    all_or (λ (item : Waiting). AllByRecursion (IsOf item.request) subs) (λ (item : Waiting). AllByRecursion (IsOf item.request) (reported subs id point)) items (λ item of. of_reported item.request id point subs of) only

pub only_ended : (items subs : List Waiting) (id : ℕ) → OnlyOnes items subs → OnlyOnes items (ended subs id)
only_ended items subs id only =
    all_or (λ (item : Waiting). AllByRecursion (IsOf item.request) subs) (λ (item : Waiting). AllByRecursion (IsOf item.request) (ended subs id)) items (λ item of. all_ended (IsOf item.request) id subs of) only

held_taken : (id n : ℕ) (subs : List Waiting) → is_held id subs ≡ false → is_held id (take n subs) ≡ false
held_taken id zero subs none = refl
held_taken id (suc n) [] none = refl
held_taken id (suc n) (held ∷ later) none =
    let parts = or_parts (has_id id held) (is_held id later) none in
    or_from (has_id id held) (is_held id (take n later)) parts.0 (held_taken id n later parts.1)

pub different_taken : (n : ℕ) (subs : List Waiting) → AreDifferent subs → AreDifferent (take n subs)
different_taken zero subs different = tt
different_taken (suc n) [] different = tt
different_taken (suc n) (held ∷ later) different = (held_taken held.request.id n later different.0, different_taken n later different.1)
