-- Entries after a chronicle, and places in it.
use Rattle.std.proofs.Common.{◌≡◌, ℕ, ◌+◌, ◌≤◌, List, [], ◌∷◌, ◌++◌, length, take, refl, sym, ap, ◌∙◌, append_assoc, arith, length-append, take_all}
use Rattle.std.specs.Prelude.{map}
use Rattle.std.proofs.lemmas.List.{length-map, take_at}
use Rattle.collector_core.specs.declared.chronicle.Entry.{Entry}
use Rattle.collector_core.specs.declared.chronicle.Mark.{Mark}
use Rattle.collector_core.specs.BookDesk.{entries_append}
use Rattle.collector_core.specs.Chronicle.{Chronicle, extended, front}
use Rattle.collector_core.specs.Desks.{AreOthers, Rise, Within, behind, entries}

-- ---- entries

pub others_append : (xs ys : List Mark) → AreOthers xs → AreOthers ys → AreOthers (xs ++ ys)
others_append [] ys one two = two
others_append (x ∷ xs) ys one two = (one.0, others_append xs ys one.1 two)

-- ---- places

-- The chronicle with the first of further entries is a prefix of that with all.
pub front_behind : (chronicle : Chronicle) (xs ys : List Mark) → front (extended chronicle (entries (xs ++ ys))) (length chronicle.entries + length xs) ≡ extended chronicle (entries xs)
front_behind chronicle xs ys =
    let all : chronicle.entries ++ entries (xs ++ ys) ≡ (chronicle.entries ++ entries xs) ++ entries ys = ap (λ (zs : List Entry). chronicle.entries ++ zs) (entries_append xs ys) ∙ sym (append_assoc chronicle.entries (entries xs) (entries ys)) in
    let long : length (chronicle.entries ++ entries xs) ≡ length chronicle.entries + length xs = omega (arith, length-append chronicle.entries (entries xs), length-map xs (λ (m : Mark). m.entry)) in
    ap (λ (zs : List Entry). record { start = chronicle.start; entries = zs })
    (ap (take (length chronicle.entries + length xs)) all ∙ take_at (chronicle.entries ++ entries xs) (entries ys) (length chronicle.entries + length xs) long)

-- All of it.
pub front_whole : (chronicle : Chronicle) (xs : List Mark) → front (extended chronicle (entries xs)) (length chronicle.entries + length xs) ≡ extended chronicle (entries xs)
front_whole chronicle xs =
    ap (λ (zs : List Entry). record { start = chronicle.start; entries = zs })
    (take_all (length chronicle.entries + length xs) (chronicle.entries ++ entries xs) (omega (arith, length-append chronicle.entries (entries xs), length-map xs (λ (m : Mark). m.entry))))

-- Places that rise may have a lower bound below and a higher one above.
pub rise_between : (low lower high higher : ℕ) (places : List ℕ) → lower ≤ low → high ≤ higher → Rise low high places → Rise lower higher places
rise_between low lower high higher [] below above rise = tt
rise_between low lower high higher (p ∷ ps) below above rise = (omega (arith, below, rise.0), omega (arith, above, rise.1), rise_between p p high higher ps (omega arith) above rise.2)

-- Places that rise still do that many further on.
pub rise_on : (more low high lower : ℕ) (places : List ℕ) → lower ≤ more + low → Rise low high places → Rise lower (more + high) (map (λ (p : ℕ). more + p) places)
rise_on more low high lower [] below rise = tt
rise_on more low high lower (p ∷ ps) below rise = (omega (arith, below, rise.0), omega (arith, rise.1), rise_on more p high (more + p) ps (omega arith) rise.2)

-- Further places after places that rise.
pub rise_join : (low high more : ℕ) (places further : List ℕ) → low ≤ high → Rise low high places → Rise 0 more further → Rise low (high + more) (places ++ map (λ (p : ℕ). high + p) further)
rise_join low high more [] further within rise on = rise_on high 0 more low further (omega (arith, within)) on
rise_join low high more (p ∷ ps) further within rise on = (rise.0, omega (arith, rise.1), rise_join p high more ps further rise.1 rise.2 on)

pub within_more : (most more : ℕ) (places : List ℕ) → most ≤ more → Within most places → Within more places
within_more most more [] above within = tt
within_more most more (p ∷ ps) above within = (omega (arith, above, within.0), within_more most more ps above within.1)

pub within_append : (most : ℕ) (places further : List ℕ) → Within most places → Within most further → Within most (places ++ further)
within_append most [] further one two = two
within_append most (p ∷ ps) further one two = (one.0, within_append most ps further one.1 two)

-- Steps that rise over further entries lie within the longer chronicle.
pub behind_within : (chronicle : Chronicle) (xs : List Mark) (low : ℕ) (steps : List ℕ) → Rise low (length xs) steps → Within (length (extended chronicle (entries xs)).entries) (behind chronicle steps)
behind_within chronicle xs low [] rise = tt
behind_within chronicle xs low (q ∷ qs) rise = (
  omega (arith, rise.1, length-append chronicle.entries (entries xs), length-map xs (λ (m : Mark). m.entry)),
  behind_within chronicle xs q qs rise.2,
)

-- Steps after a longer chronicle.
pub behind_more : (chronicle : Chronicle) (xs : List Mark) (steps : List ℕ) → behind (extended chronicle (entries xs)) steps ≡ behind chronicle (map (λ (q : ℕ). length xs + q) steps)
behind_more chronicle xs [] = refl
behind_more chronicle xs (q ∷ qs) =
    let here : length (chronicle.entries ++ entries xs) + q ≡ length chronicle.entries + (length xs + q) = omega (arith, length-append chronicle.entries (entries xs), length-map xs (λ (m : Mark). m.entry)) in
    ap (λ (p : ℕ). p ∷ behind (extended chronicle (entries xs)) qs) here ∙ ap (λ (ps : List ℕ). (length chronicle.entries + (length xs + q)) ∷ ps) (behind_more chronicle xs qs)
