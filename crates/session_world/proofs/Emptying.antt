-- Rounds are made until nothing waits: each carries an octet at least, and ends take no more than
-- their limits allow.
use Rattle.std.proofs.Common.{◌≡◌, ◌+◌, ◌-◌, ◌<◌, ◌≤◌, ◌&&◌, ℕ, zero, suc, Bool, true, false, cond, List, [], ◌∷◌, ◌++◌, Option, Some, None, length, drop, take, refl, sym, ap, ap₂, subst, ◌∙◌, append-nil, length-take, arith}
use Rattle.wire_base.specs.Turns.{Turn, turns_of}
use Rattle.collector_core.specs.Chronicle.{Chronicle}
use Rattle.validator_core.specs.Held.{Held}
use Rattle.session_hear.specs.Hearing.{octets_in}
use Rattle.session_rules.specs.declared.end.SessionEnd.{SessionEnd}
use Rattle.session_rules.specs.Transcripts.{follow_mirror}
use Rattle.session_rules.proofs.Limit.{follows_below, serves_below}
use Rattle.collector_session.proofs.Coring.{octets_more, octets_of_piece}
use Rattle.session_world.specs.declared.terms.Terms.{Terms}
use Rattle.session_world.specs.Lines.{MOST_ROUNDS, Told, all_down, all_up, follows_by, is_none, is_quiet, round, rounds, runs, serves_by, used}
use Rattle.session_world.specs.Meaning.{NothingWaitsAfterRuns}
use Rattle.session_world.specs.World.{Joined, MOST, World, collector_end, down_waits, follow_config, following, serve_config, serving, unless_over, up_waits, validator_end, waits_down, waits_up}
use Rattle.session_world.proofs.Collecting.{world_of}
use Rattle.session_world.proofs.Rounds.{most_rounds}

-- ---- what the ends may still take

abbrev left_in : Option Joined → ℕ
left_in None = 0
left_in (Some j) = (MOST - octets_in j.up) + (MOST - octets_in j.down)

abbrev left : World → ℕ
left w = left_in w.joined

left_most : (joined : Option Joined) → left_in joined ≤ 8589934590
left_most None = omega arith
left_most (Some j) = omega arith

-- Of a piece that is not empty some octet is used, where the limit leaves one.
used_some : (turns : List Turn) (octet : ℕ) (octets : List ℕ) → octets_in turns < MOST → 0 < octets_in (turns_of (used turns (octet ∷ octets)))
used_some turns octet octets below =
    let count : length (octet ∷ octets) ≡ length octets + 1 = omega arith in
    omega (arith, below, count, octets_of_piece (used turns (octet ∷ octets)), length-take (MOST - octets_in turns) (octet ∷ octets))

-- Octets wait only for an end that is not over.
unless_some : (by : Option SessionEnd) (octets : List ℕ) (octet : ℕ) (more : List ℕ) → unless_over by octets ≡ octet ∷ more → by ≡ None
unless_some None octets octet more is = refl
unless_some (Some end) octets octet more is = absurd cc

-- ---- one way

module _ (terms : Terms) (chronicle : Chronicle) (mirror : Held) (j : Joined) where
  -- What they may still take does not grow.
  follows_left : (by : Option SessionEnd) (turns : List Turn) (piece : List ℕ) → left (follows_by by (world_of terms chronicle mirror j) j turns piece).0 ≤ left_in (Some j)
  follows_left None turns piece = omega (arith, octets_more j.up turns)
  follows_left (Some end) turns piece = omega arith

  serves_left : (by : Option SessionEnd) (turns : List Turn) (piece : List ℕ) → left (serves_by by (world_of terms chronicle mirror j) j turns piece).0 ≤ left_in (Some j)
  serves_left None turns piece = omega (arith, octets_more j.down turns)
  serves_left (Some end) turns piece = omega arith

  -- It falls with an octet.
  follows_less : (by : Option SessionEnd) (turns : List Turn) (piece : List ℕ) → by ≡ None → octets_in j.up < MOST → 0 < octets_in turns → left (follows_by by (world_of terms chronicle mirror j) j turns piece).0 < left_in (Some j)
  follows_less None turns piece none below some = omega (arith, below, some, octets_more j.up turns)
  follows_less (Some end) turns piece none below some = absurd cc

  serves_less : (by : Option SessionEnd) (turns : List Turn) (piece : List ℕ) → by ≡ None → octets_in j.down < MOST → 0 < octets_in turns → left (serves_by by (world_of terms chronicle mirror j) j turns piece).0 < left_in (Some j)
  serves_less None turns piece none below some = omega (arith, below, some, octets_more j.down turns)
  serves_less (Some end) turns piece none below some = absurd cc

  up_less : (octet : ℕ) (octets : List ℕ) → up_waits (world_of terms chronicle mirror j) j ≡ octet ∷ octets → left (all_up (world_of terms chronicle mirror j)).0 < left_in (Some j)
  up_less octet octets is =
      let live : validator_end j ≡ None = unless_some (validator_end j) (drop (length j.carried_up) (serving (world_of terms chronicle mirror j) j).0) octet octets is in
      let below : octets_in j.up < MOST = follows_below j.opened (follow_config j.subscribe) j.up (omega arith) live in
      follows_less (validator_end j) (turns_of (used j.up (up_waits (world_of terms chronicle mirror j) j))) (up_waits (world_of terms chronicle mirror j) j) live below
      (subst (λ (os : List ℕ). 0 < octets_in (turns_of (used j.up os))) (sym is) (used_some j.up octet octets below))

  down_less : (octet : ℕ) (octets : List ℕ) → down_waits (world_of terms chronicle mirror j) j ≡ octet ∷ octets → left (all_down (world_of terms chronicle mirror j)).0 < left_in (Some j)
  down_less octet octets is =
      let live : collector_end (world_of terms chronicle mirror j) j ≡ None = unless_some (collector_end (world_of terms chronicle mirror j) j) (drop (length j.carried_down) (following j).0) octet octets is in
      let below : octets_in j.down < MOST = serves_below chronicle (serve_config terms) j.down j.places (omega arith) live in
      serves_less (collector_end (world_of terms chronicle mirror j) j) (turns_of (used j.down (down_waits (world_of terms chronicle mirror j) j))) (down_waits (world_of terms chronicle mirror j) j) live below
      (subst (λ (os : List ℕ). 0 < octets_in (turns_of (used j.down os))) (sym is) (used_some j.down octet octets below))

  -- Where nothing is carried the session stays.
  follows_same : (by : Option SessionEnd) (turns : List Turn) (piece : List ℕ) → turns ≡ [] → piece ≡ [] → (held : Held) × ((follows_by by (world_of terms chronicle mirror j) j turns piece).0 ≡ world_of terms chronicle held j)
  follows_same None turns piece no_turns no_piece = (
    follow_mirror (following (record j { up = j.up ++ turns; carried_up = j.carried_up ++ piece })),
    ap (λ (k : Joined). world_of terms chronicle (follow_mirror (following (record j { up = j.up ++ turns; carried_up = j.carried_up ++ piece }))) k)
        (ap₂ (λ (ts : List Turn) (os : List ℕ). record j { up = j.up ++ ts; carried_up = j.carried_up ++ os }) no_turns no_piece
        ∙ ap₂ (λ (ts : List Turn) (os : List ℕ). record j { up = ts; carried_up = os }) (append-nil j.up) (append-nil j.carried_up)),
  )
  follows_same (Some end) turns piece no_turns no_piece = (mirror, refl)

-- ---- a round

down_left : (w : World) → left (all_down w).0 ≤ left w
down_left w = by_joined w.terms w.chronicle w.mirror w.joined
  where
    by_joined : (terms : Terms) (chronicle : Chronicle) (mirror : Held) (joined : Option Joined)
        → left (all_down (record { terms = terms; chronicle = chronicle; mirror = mirror; joined = joined })).0 ≤ left_in joined
    by_joined terms chronicle mirror None = omega arith
    by_joined terms chronicle mirror (Some j) =
        serves_left terms chronicle mirror j (collector_end (world_of terms chronicle mirror j) j) (turns_of (used j.down (down_waits (world_of terms chronicle mirror j) j))) (down_waits (world_of terms chronicle mirror j) j)

take_none : (n : ℕ) → take {A = ℕ} n [] ≡ []
take_none zero = refl
take_none (suc n) = refl

session_less : (terms : Terms) (chronicle : Chronicle) (mirror : Held) (j : Joined) (up down : List ℕ) → up_waits (world_of terms chronicle mirror j) j ≡ up → down_waits (world_of terms chronicle mirror j) j ≡ down
    → (is_none up && is_none down) ≡ false → left (round (world_of terms chronicle mirror j)).0 < left_in (Some j)
session_less terms chronicle mirror j (octet ∷ octets) down up_is down_is some =
    let less : left (all_up (world_of terms chronicle mirror j)).0 < left_in (Some j) = up_less terms chronicle mirror j octet octets up_is in
    let rest : left (all_down (all_up (world_of terms chronicle mirror j)).0).0 ≤ left (all_up (world_of terms chronicle mirror j)).0 = down_left (all_up (world_of terms chronicle mirror j)).0 in
    omega (arith, less, rest)
session_less terms chronicle mirror j [] (octet ∷ octets) up_is down_is some =
    let same = follows_same terms chronicle mirror j (validator_end j) (turns_of (used j.up (up_waits (world_of terms chronicle mirror j) j))) (up_waits (world_of terms chronicle mirror j) j)
    (ap (λ (os : List ℕ). turns_of (used j.up os)) up_is ∙ ap (λ (os : List ℕ). turns_of os) (take_none (MOST - octets_in j.up))) up_is in
    subst (λ (w : World). left (all_down w).0 < left_in (Some j)) (sym same.1) (down_less terms chronicle same.0 j octet octets down_is)
session_less terms chronicle mirror j [] [] up_is down_is some = absurd cc

round_less : (w : World) → is_quiet w ≡ false → left (round w).0 < left w
round_less w = by_joined w.terms w.chronicle w.mirror w.joined
  where
    by_joined : (terms : Terms) (chronicle : Chronicle) (mirror : Held) (joined : Option Joined) → is_quiet (record { terms = terms; chronicle = chronicle; mirror = mirror; joined = joined }) ≡ false
        → left (round (record { terms = terms; chronicle = chronicle; mirror = mirror; joined = joined })).0 < left_in joined
    by_joined terms chronicle mirror None some = absurd cc
    by_joined terms chronicle mirror (Some j) some =
        session_less terms chronicle mirror j (up_waits (world_of terms chronicle mirror j) j) (down_waits (world_of terms chronicle mirror j) j) refl refl some

-- ---- rounds

quiet_next : (w : World) (n : ℕ) (quiet : Bool) → is_quiet w ≡ quiet → (is_quiet w ≡ false → is_quiet (rounds n (round w).0).0 ≡ true)
    → is_quiet (cond {A = Told} quiet (w, []) ((rounds n (round w).0).0, (round w).1 ++ (rounds n (round w).0).1)).0 ≡ true
quiet_next w n true is next = is
quiet_next w n false is next = next is

quiet_last : (w : World) (quiet : Bool) → is_quiet w ≡ quiet → left w ≤ 0 → is_quiet w ≡ true
quiet_last w true is most = is
quiet_last w false is most = absurd (omega (arith, most, round_less w is))

rounds_quiet : (n : ℕ) (w : World) → left w ≤ n → is_quiet (rounds n w).0 ≡ true
rounds_quiet zero w most = quiet_last w (is_quiet w) refl most
rounds_quiet (suc n) w most = quiet_next w n (is_quiet w) refl (λ some. rounds_quiet n (round w).0 (omega (arith, most, round_less w some)))

none_waits : (octets : List ℕ) → is_none octets ≡ true → octets ≡ []
none_waits [] is = refl
none_waits (octet ∷ octets) is = absurd cc

both_wait : (up down : List ℕ) → (is_none up && is_none down) ≡ true → (up ≡ []) × (down ≡ [])
both_wait [] down is = (refl, none_waits down is)
both_wait (octet ∷ octets) down is = absurd cc

pub nothing_waits_after_runs : NothingWaitsAfterRuns
nothing_waits_after_runs w =
    both_wait (waits_up (runs w).0) (waits_down (runs w).0) (rounds_quiet MOST_ROUNDS w (omega (arith, most_rounds, left_most w.joined)))
