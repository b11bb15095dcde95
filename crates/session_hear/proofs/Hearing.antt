-- What a piece of octets makes, by what the octets that were held and the piece, joined, begin
-- with.
use Rattle.std.proofs.Common.{◌≡◌, ℕ, ◌+◌, zero, suc, Bool, List, [], ◌∷◌, ◌++◌, length, drop, refl, sym, ap, ◌∙◌, append_assoc, append-nil, arith, length-append}
use Rattle.wire_base.specs.Turns.{Turn}
use Rattle.pb_batch.specs.declared.batch.Batch.{Batch}
use Rattle.pb_batch.specs.declared.fault.PbFault.{PbFault}
use Rattle.wire_base.specs.Feeding.{More, Bad, Whole}
use Rattle.pb_batch.specs.Front.{Front, front_of}
use Rattle.pb_batch.proofs.Fronts.{whole_more, bad_more, whole_longer, whole_within}
use Rattle.session_hear.specs.Step.{Step, Came, Faulty}
use Rattle.session_hear.specs.Hearing.{Hearing, Hears, Deaf, Heard, heard_then, hear_front, hear_turn, heard_from, hear_octet, heard_octets}

-- ---- some turns and then others

-- What is heard after two things that were heard.
heard_assoc : (first : Heard) (second third : Hearing → Heard) → heard_then (heard_then first second) third ≡ heard_then first (λ g. heard_then (second g) third)
heard_assoc first second third = ap (λ (steps : List Step). (steps, (third (second first.1).1).1)) (append_assoc first.0 (second first.1).0 (third (second first.1).1).0)

-- Some turns and then others.
pub heard_append : (server : Bool) (limit : ℕ) (hearing : Hearing) (turns later : List Turn)
    → heard_from server limit hearing (turns ++ later) ≡ heard_then (heard_from server limit hearing turns) (λ g. heard_from server limit g later)
heard_append server limit hearing [] later = refl
heard_append server limit hearing (turn ∷ turns) later =
    let first : Heard = hear_turn server limit hearing turn in
    ap (λ (h : Heard). (first.0 ++ h.0, h.1)) (heard_append server limit first.1 turns later)
    ∙ sym (heard_assoc first (λ g. heard_from server limit g turns) (λ g. heard_from server limit g later))

-- Some octets and then others.
pub octets_append : (server : Bool) (hearing : Hearing) (octets later : List ℕ)
    → heard_octets server hearing (octets ++ later) ≡ heard_then (heard_octets server hearing octets) (λ g. heard_octets server g later)
octets_append server hearing [] later = refl
octets_append server hearing (octet ∷ octets) later =
    let first : Heard = hear_octet server hearing octet in
    ap (λ (h : Heard). (first.0 ++ h.0, h.1)) (octets_append server first.1 octets later)
    ∙ sym (heard_assoc first (λ g. heard_octets server g octets) (λ g. heard_octets server g later))

-- An end that hears nothing more hears none of the octets.
pub deaf_octets : (server : Bool) (octets : List ℕ) → heard_octets server Deaf octets ≡ ([], Deaf)
deaf_octets server [] = refl
deaf_octets server (octet ∷ octets) = deaf_octets server octets

-- ---- a piece of octets

-- One octet more, after those that are held.
one_more : (held : List ℕ) (octet : ℕ) (octets : List ℕ) → (held ++ octet ∷ []) ++ octets ≡ held ++ octet ∷ octets
one_more held octet octets = append_assoc held (octet ∷ []) octets

one_longer : (held : List ℕ) (octet : ℕ) → length (held ++ octet ∷ []) ≡ length held + 1
one_longer held octet = length-append held (octet ∷ [])

-- The first octet of a piece, by what the octets begin with then.
first_octet : (server : Bool) (held : List ℕ) (quiet count octet : ℕ) (octets : List ℕ) (front : Front) → front_of server (held ++ octet ∷ []) ≡ front
    → heard_octets server (Hears held quiet count) (octet ∷ octets) ≡ heard_then (hear_front (held ++ octet ∷ []) (count + 1) front) (λ g. heard_octets server g octets)
first_octet server held quiet count octet octets front is =
    ap (λ (f : Front). heard_then (hear_front (held ++ octet ∷ []) (count + 1) f) (λ g. heard_octets server g octets)) is

-- Octets that are no batch yet were none before.
more_before_by : (server : Bool) (xs ys : List ℕ) (front : Front) → front_of server xs ≡ front → front_of server (xs ++ ys) ≡ More → front_of server xs ≡ More
more_before_by server xs ys More is more = is
more_before_by server xs ys (Bad fault) is more = let same : Bad fault ≡ More = sym (bad_more server xs ys fault is) ∙ more in absurd cc
more_before_by server xs ys (Whole batch len) is more = let same : Whole batch len ≡ More = sym (whole_more server xs ys batch len is) ∙ more in absurd cc

pub more_before : (server : Bool) (xs ys : List ℕ) → front_of server (xs ++ ys) ≡ More → front_of server xs ≡ More
more_before server xs ys more = more_before_by server xs ys (front_of server xs) refl more

-- Octets that are no batch yet are held, and nothing is heard.
pub hears_more : (server : Bool) (held : List ℕ) (quiet count octet : ℕ) (octets : List ℕ) → front_of server (held ++ octet ∷ octets) ≡ More
    → heard_octets server (Hears held quiet count) (octet ∷ octets) ≡ ([], Hears (held ++ octet ∷ octets) 0 (count + length (octet ∷ octets)))
hears_more server held quiet count octet [] more = first_octet server held quiet count octet [] More more
hears_more server held quiet count octet (next ∷ octets) more =
    let longer : front_of server ((held ++ octet ∷ []) ++ next ∷ octets) ≡ More = ap (λ (o : List ℕ). front_of server o) (one_more held octet (next ∷ octets)) ∙ more in
    let total : count + 1 + length (next ∷ octets) ≡ count + length (octet ∷ next ∷ octets) = omega arith in
    first_octet server held quiet count octet (next ∷ octets) More (more_before server (held ++ octet ∷ []) (next ∷ octets) longer)
    ∙ hears_more server (held ++ octet ∷ []) 0 (count + 1) next octets longer
    ∙ ap (λ (o : List ℕ). ([], Hears o 0 (count + 1 + length (next ∷ octets)))) (one_more held octet (next ∷ octets))
    ∙ ap (λ (n : ℕ). ([], Hears (held ++ octet ∷ next ∷ octets) 0 n)) total

-- A fault is heard, and nothing after it.
hears_bad_by : (server : Bool) (held : List ℕ) (quiet count octet : ℕ) (octets : List ℕ) (fault : PbFault) (front : Front) → front_of server (held ++ octet ∷ []) ≡ front
    → (front_of server (held ++ octet ∷ []) ≡ More → heard_octets server (Hears (held ++ octet ∷ []) 0 (count + 1)) octets ≡ (Faulty fault ∷ [], Deaf))
    → front_of server ((held ++ octet ∷ []) ++ octets) ≡ Bad fault
    → heard_octets server (Hears held quiet count) (octet ∷ octets) ≡ (Faulty fault ∷ [], Deaf)
hears_bad_by server held quiet count octet octets fault More is later bad = first_octet server held quiet count octet octets More is ∙ later is
hears_bad_by server held quiet count octet octets fault (Bad other) is later bad =
    let same : Bad other ≡ Bad fault = sym (bad_more server (held ++ octet ∷ []) octets other is) ∙ bad in
    let one : other ≡ fault = cc in
    first_octet server held quiet count octet octets (Bad other) is
    ∙ ap (λ (h : Heard). (Faulty other ∷ h.0, h.1)) (deaf_octets server octets)
    ∙ ap (λ (f : PbFault). (Faulty f ∷ [], Deaf)) one
hears_bad_by server held quiet count octet octets fault (Whole batch len) is later bad =
    let same : Whole batch len ≡ Bad fault = sym (whole_more server (held ++ octet ∷ []) octets batch len is) ∙ bad in absurd cc

pub hears_bad : (server : Bool) (held : List ℕ) (quiet count : ℕ) (octets : List ℕ) (fault : PbFault) → front_of server held ≡ More → front_of server (held ++ octets) ≡ Bad fault
    → heard_octets server (Hears held quiet count) octets ≡ (Faulty fault ∷ [], Deaf)
hears_bad server held quiet count [] fault more bad =
    let same : More ≡ Bad fault = sym more ∙ ap (λ (o : List ℕ). front_of server o) (sym (append-nil held)) ∙ bad in absurd cc
hears_bad server held quiet count (octet ∷ octets) fault more bad =
    let longer : front_of server ((held ++ octet ∷ []) ++ octets) ≡ Bad fault = ap (λ (o : List ℕ). front_of server o) (one_more held octet octets) ∙ bad in
    hears_bad_by server held quiet count octet octets fault (front_of server (held ++ octet ∷ [])) refl
    (λ is. hears_bad server (held ++ octet ∷ []) 0 (count + 1) octets fault is longer) longer

-- A batch is heard, and then what the octets after it make.
abbrev after_batch : Bool → Batch → ℕ → List ℕ → Heard
after_batch server batch count rest = heard_then (Came batch ∷ [], Hears [] 0 count) (λ g. heard_octets server g rest)

hears_whole_by : (server : Bool) (held : List ℕ) (quiet count octet : ℕ) (octets : List ℕ) (batch : Batch) (used : ℕ) (front : Front) → front_of server (held ++ octet ∷ []) ≡ front
    → (front_of server (held ++ octet ∷ []) ≡ More → heard_octets server (Hears (held ++ octet ∷ []) 0 (count + 1)) octets ≡ after_batch server batch (count + 1 + used) (drop used octets))
    → front_of server held ≡ More
    → front_of server ((held ++ octet ∷ []) ++ octets) ≡ Whole batch (length held + suc used)
    → heard_octets server (Hears held quiet count) (octet ∷ octets) ≡ after_batch server batch (count + suc used) (drop used octets)
hears_whole_by server held quiet count octet octets batch used More is later more whole =
    let total : count + 1 + used ≡ count + suc used = omega arith in
    first_octet server held quiet count octet octets More is ∙ later is ∙ ap (λ (n : ℕ). after_batch server batch n (drop used octets)) total
hears_whole_by server held quiet count octet octets batch used (Bad fault) is later more whole =
    let same : Bad fault ≡ Whole batch (length held + suc used) = sym (bad_more server (held ++ octet ∷ []) octets fault is) ∙ whole in absurd cc
hears_whole_by server held quiet count octet octets batch used (Whole other len) is later more whole =
    let same : Whole other len ≡ Whole batch (length held + suc used) = sym (whole_more server (held ++ octet ∷ []) octets other len is) ∙ whole in
    let one : other ≡ batch = cc in
    let length_is : len ≡ length held + suc used = cc in
    let none : used ≡ 0 = omega (arith, length_is, (whole_within server (held ++ octet ∷ []) other len is).1, one_longer held octet) in
    first_octet server held quiet count octet octets (Whole other len) is
    ∙ ap (λ (b : Batch). after_batch server b (count + 1) octets) one
    ∙ ap (λ (n : ℕ). after_batch server batch (count + suc n) (drop n octets)) (sym none)

pub hears_whole : (server : Bool) (held : List ℕ) (quiet count : ℕ) (octets : List ℕ) (batch : Batch) (used : ℕ) → front_of server held ≡ More
    → front_of server (held ++ octets) ≡ Whole batch (length held + used)
    → heard_octets server (Hears held quiet count) octets ≡ after_batch server batch (count + used) (drop used octets)
hears_whole server held quiet count [] batch used more whole =
    let same : More ≡ Whole batch (length held + used) = sym more ∙ ap (λ (o : List ℕ). front_of server o) (sym (append-nil held)) ∙ whole in absurd cc
hears_whole server held quiet count (octet ∷ octets) batch zero more whole =
    let longer = whole_longer server held (octet ∷ octets) batch (length held + 0) more whole in absurd (omega (arith, longer))
hears_whole server held quiet count (octet ∷ octets) batch (suc used) more whole =
    let joined : front_of server ((held ++ octet ∷ []) ++ octets) ≡ Whole batch (length held + suc used) = ap (λ (o : List ℕ). front_of server o) (one_more held octet octets) ∙ whole in
    let counted : length held + suc used ≡ length (held ++ octet ∷ []) + used = omega (arith, one_longer held octet) in
    hears_whole_by server held quiet count octet octets batch used (front_of server (held ++ octet ∷ [])) refl
    (λ is. hears_whole server (held ++ octet ∷ []) 0 (count + 1) octets batch used is (joined ∙ ap (λ (n : ℕ). Whole batch n) counted)) more joined
