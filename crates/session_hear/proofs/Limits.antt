-- A piece of octets within the limit: what its turns make is what its octets make, settled once at
-- the end.
use Rattle.std.proofs.Common.{◌≡◌, ℕ, ◌+◌, ◌≤◌, ◌<◌, Bool, true, false, cond, eqb, List, [], ◌∷◌, ◌++◌, length, refl, sym, ap, ◌∙◌, append_assoc, append-nil, arith, ne_eqb}
use Rattle.wire_base.specs.Turns.{turns_of}
use Rattle.wire_base.specs.Feeding.{More, Bad, Whole}
use Rattle.pb_batch.specs.Front.{Front, front_of}
use Rattle.session_hear.specs.Step.{Step, Came, Faulty, Spent}
use Rattle.session_hear.specs.Hearing.{Hearing, Hears, Deaf, Heard, heard_then, hear_front, settle_at, settle, heard_from, heard_octets}

-- ---- settling

-- Below the limit nothing is settled.
pub settle_below : (limit : ℕ) (steps : List Step) (held : List ℕ) (quiet count : ℕ) → count < limit → settle limit (steps, Hears held quiet count) ≡ (steps, Hears held quiet count)
settle_below limit steps held quiet count below =
    ap (λ (b : Bool). cond b (steps ++ Spent ∷ [], Deaf) (steps, Hears held quiet count)) (ne_eqb count limit (λ same. absurd (omega (arith, below, same))))

-- The last octet was taken, or not.
abbrev pub spent_if : Bool → List Step → Hearing → Heard
spent_if is_last steps hearing = cond is_last (steps ++ Spent ∷ [], Deaf) (steps, hearing)

-- Steps before what is settled stay before it.
spent_after : (is_last : Bool) (first steps : List Step) (hearing : Hearing)
    → spent_if is_last (first ++ steps) hearing ≡ (first ++ (spent_if is_last steps hearing).0, (spent_if is_last steps hearing).1)
spent_after true first steps hearing = ap (λ (s : List Step). (s, Deaf)) (append_assoc first steps (Spent ∷ []))
spent_after false first steps hearing = refl

settle_after : (limit : ℕ) (first steps : List Step) (hearing : Hearing) → settle_at limit (first ++ steps) hearing ≡ (first ++ (settle_at limit steps hearing).0, (settle_at limit steps hearing).1)
settle_after limit first steps Deaf = refl
settle_after limit first steps (Hears held quiet count) = spent_after (eqb count limit) first steps (Hears held quiet count)

-- ---- a piece

-- An end that hears nothing more hears none of the turns.
pub deaf_turns : (server : Bool) (limit : ℕ) (octets : List ℕ) → heard_from server limit Deaf (turns_of octets) ≡ ([], Deaf)
deaf_turns server limit [] = refl
deaf_turns server limit (octet ∷ octets) = deaf_turns server limit octets

deaf_octets : (server : Bool) (octets : List ℕ) → heard_octets server Deaf octets ≡ ([], Deaf)
deaf_octets server [] = refl
deaf_octets server (octet ∷ octets) = deaf_octets server octets

-- What the octets of a piece make, settled once.
abbrev Settles : Bool → ℕ → Hearing → List ℕ → Type 0
Settles server limit hearing octets = heard_from server limit hearing (turns_of octets) ≡ settle limit (heard_octets server hearing octets)

-- After an octet that is the last of the limit there is none.
settles_next : (server : Bool) (limit : ℕ) (steps : List Step) (held : List ℕ) (count : ℕ) (octets : List ℕ) → count + length octets ≤ limit
    → (count < limit → Settles server limit (Hears held 0 count) octets)
    → heard_then (settle limit (steps, Hears held 0 count)) (λ g. heard_from server limit g (turns_of octets))
    ≡ settle limit (heard_then (steps, Hears held 0 count) (λ g. heard_octets server g octets))
settles_next server limit steps held count [] within later =
    ap (λ (s : List Step). (s, (settle limit (steps, Hears held 0 count)).1)) (append-nil (settle limit (steps, Hears held 0 count)).0)
    ∙ ap (λ (s : List Step). settle limit (s, Hears held 0 count)) (sym (append-nil steps))
settles_next server limit steps held count (octet ∷ octets) within later =
    let below : count < limit = omega (arith, within) in
    let rest : Heard = heard_octets server (Hears held 0 count) (octet ∷ octets) in
    ap (λ (h : Heard). heard_then h (λ g. heard_from server limit g (turns_of (octet ∷ octets)))) (settle_below limit steps held 0 count below)
    ∙ ap (λ (h : Heard). (steps ++ h.0, h.1)) (later below)
    ∙ sym (settle_after limit steps rest.0 rest.1)

settles_front : (server : Bool) (limit : ℕ) (held : List ℕ) (count : ℕ) (octets : List ℕ) (front : Front) → count + length octets ≤ limit
    → (count < limit → Settles server limit (Hears held 0 count) octets) → (count < limit → Settles server limit (Hears [] 0 count) octets)
    → heard_then (settle limit (hear_front held count front)) (λ g. heard_from server limit g (turns_of octets))
    ≡ settle limit (heard_then (hear_front held count front) (λ g. heard_octets server g octets))
settles_front server limit held count octets More within more whole = settles_next server limit [] held count octets within more
settles_front server limit held count octets (Bad fault) within more whole =
    ap (λ (h : Heard). (Faulty fault ∷ h.0, h.1)) (deaf_turns server limit octets)
    ∙ ap (λ (h : Heard). settle limit (Faulty fault ∷ h.0, h.1)) (sym (deaf_octets server octets))
settles_front server limit held count octets (Whole batch len) within more whole = settles_next server limit (Came batch ∷ []) [] count octets within whole

-- The turns of a piece that the limit allows.
pub settles : (server : Bool) (limit : ℕ) (held : List ℕ) (quiet count : ℕ) (octets : List ℕ) → count < limit → count + length octets ≤ limit
    → heard_from server limit (Hears held quiet count) (turns_of octets) ≡ settle limit (heard_octets server (Hears held quiet count) octets)
settles server limit held quiet count [] below within = sym (settle_below limit [] held quiet count below)
settles server limit held quiet count (octet ∷ octets) below within =
    let next : count + 1 + length octets ≤ limit = omega (arith, within) in
    settles_front server limit (held ++ octet ∷ []) (count + 1) octets (front_of server (held ++ octet ∷ [])) next
    (λ less. settles server limit (held ++ octet ∷ []) 0 (count + 1) octets less next)
    (λ less. settles server limit [] 0 (count + 1) octets less next)
