-- What octets begin with, where the first of them were searched and a window after these is.
use Rattle.std.proofs.Common.{◌≡◌, ℕ, ◌+◌, ◌-◌, ◌<◌, ◌≤◌, min, List, ◌++◌, length, take, drop, sym, ap, ◌∙◌, arith, length-append, length-drop, length-take, take_all, Some, None, subst}
use Rattle.std.proofs.lemmas.List.{drop-append-le, drop-drop, take-append-drop}
use Rattle.memchr.specs.Find.{IsFirstByte, is_byte}
use Rattle.source_lines.specs.Lines.{IsUnfinished, MOST_OCTETS, before_feed}
use Rattle.source_lines.proofs.Feeds.{feed_found, feed_missed, feed_more, feed_open, feed_past, feed_short}

-- The octets after those that were searched are the window and others.
pub parts : (held : List ℕ) (s m : ℕ) → s ≤ before_feed held → before_feed held ≡ s + before_feed (take m (drop s held) ++ drop m (drop s held))
parts held s m past = feed_past s held past ∙ ap (λ (octets : List ℕ). s + before_feed octets) (sym (take-append-drop m (drop s held)))

window_short : (held : List ℕ) (s m : ℕ) → length (take m (drop s held)) ≤ length (drop s held)
window_short held s m =
    let all = ap (λ (octets : List ℕ). length octets) (take-append-drop m (drop s held)) in
    omega (arith, all, length-append (take m (drop s held)) (drop m (drop s held)))

-- A line feed is in the window.
pub front_line : (held : List ℕ) (s m count : ℕ) → s ≤ before_feed held → s ≤ length held → before_feed (take m (drop s held)) ≡ count → count < length (take m (drop s held))
    → (s + count ≡ before_feed held) × (s + count < length held)
front_line held s m count past within is less =
    let short = feed_short (take m (drop s held)) (drop m (drop s held)) (omega (arith, is, less)) in
    (omega (arith, parts held s m past, short, is), omega (arith, less, window_short held s m, length-drop s held, within))

-- None is, and there are too many octets.
pub front_long : (held : List ℕ) (s m : ℕ) → s ≤ before_feed held → before_feed (take m (drop s held)) ≡ length (take m (drop s held)) → MOST_OCTETS < s + length (take m (drop s held))
    → MOST_OCTETS < before_feed held
front_long held s m past none long =
    let on = feed_open (take m (drop s held)) (drop m (drop s held)) none in
    omega (arith, parts held s m past, on, long)

-- None is, and the window is all there is.
pub front_more : (held : List ℕ) (s m : ℕ) → s ≤ before_feed held → s ≤ length held → length (drop s held) ≤ m → before_feed (take m (drop s held)) ≡ length (take m (drop s held))
    → s + length (take m (drop s held)) ≤ MOST_OCTETS → IsUnfinished held
front_more held s m past within all none short =
    let whole = take_all m (drop s held) all in
    let open_end = ap before_feed (sym whole) ∙ none ∙ ap (λ (octets : List ℕ). length octets) whole in
    let size = ap (λ (octets : List ℕ). length octets) whole in
    record {
      short = omega (arith, short, size, length-drop s held, within);
      open_end = omega (arith, feed_past s held past, open_end, length-drop s held, within);
    }

-- ---- octets of which some are done, and others were searched

module _ (items slice fresh window : List ℕ) (place searched m : ℕ) (below : place ≤ searched) (within : searched ≤ length items)
    (past : searched ≤ place + before_feed (drop place items)) (few : searched ≤ place + 4194304) (is-slice : slice ≡ items) (is-fresh : fresh ≡ drop searched slice) (is-window : window ≡ take m fresh)
    (is-most : m ≡ min (length fresh) (4194305 - (searched - place))) where
  seen : fresh ≡ drop (searched - place) (drop place items)
  seen =
      let sum : place + (searched - place) ≡ searched = omega (arith, below) in
      is-fresh ∙ ap (λ (octets : List ℕ). drop searched octets) is-slice ∙ ap (λ (n : ℕ). drop n items) (sym sum) ∙ sym (drop-drop (searched - place) place items)

  looked : window ≡ take m (drop (searched - place) (drop place items))
  looked = is-window ∙ ap (λ (octets : List ℕ). take m octets) seen

  sizes : length window ≡ min m (length fresh)
  sizes = ap (λ (octets : List ℕ). length octets) is-window ∙ length-take m fresh

  left : length fresh ≡ length items - searched
  left = ap (λ (octets : List ℕ). length octets) (is-fresh ∙ ap (λ (octets : List ℕ). drop searched octets) is-slice) ∙ length-drop searched items

  pub line_in : (count : ℕ) (held : List ℕ) → drop place items ≡ held → IsFirstByte (is_byte 10) window (Some count)
      → ((searched - place) + count ≡ before_feed held) × ((searched - place) + count < length held) × ((searched - place) + count ≤ MOST_OCTETS)
  line_in count held is found =
      let first = feed_found window count found in
      let at : before_feed (take m (drop (searched - place) (drop place items))) ≡ count = ap before_feed (sym looked) ∙ first.0 in
      let less : count < length (take m (drop (searched - place) (drop place items))) = subst (λ (octets : List ℕ). count < length octets) looked first.1 in
      let line = front_line (drop place items) (searched - place) m count (omega (arith, past)) (omega (arith, within, length-drop place items)) at less in (
        subst (λ (octets : List ℕ). (searched - place) + count ≡ before_feed octets) is line.0,
        subst (λ (octets : List ℕ). (searched - place) + count < length octets) is line.1,
        omega (arith, first.1, sizes, is-most, few),
      )

  pub long_in : (held : List ℕ) → drop place items ≡ held → IsFirstByte (is_byte 10) window None → 4194304 < (searched - place) + length window → MOST_OCTETS < before_feed held
  long_in held is none long =
      let open_end = feed_missed window none in
      subst (λ (octets : List ℕ). MOST_OCTETS < before_feed octets) is
      (front_long (drop place items) (searched - place) m (omega (arith, past)) (subst (λ (octets : List ℕ). before_feed octets ≡ length octets) looked open_end)
      (subst (λ (octets : List ℕ). MOST_OCTETS < (searched - place) + length octets) looked long))

  pub more_in : (held : List ℕ) → drop place items ≡ held → IsFirstByte (is_byte 10) window None → (searched - place) + length window ≤ 4194304 → IsUnfinished held
  more_in held is none short =
      let open_end = feed_missed window none in
      let all : length (drop (searched - place) (drop place items)) ≤ m = omega (arith, ap (λ (octets : List ℕ). length octets) seen, sizes, is-most, short) in
      subst IsUnfinished is
      (front_more (drop place items) (searched - place) m (omega (arith, past)) (omega (arith, within, length-drop place items)) all
      (subst (λ (octets : List ℕ). before_feed octets ≡ length octets) looked open_end)
      (subst (λ (octets : List ℕ). (searched - place) + length octets ≤ MOST_OCTETS) looked short))

  -- The window was searched too.
  pub searched_more : IsFirstByte (is_byte 10) window None → (searched - place) + length window ≤ 4194304
      → (place ≤ searched + length window) × (searched + length window ≤ length items) × (searched + length window ≤ place + before_feed (drop place items)) × (searched + length window ≤ place + 4194304)
  searched_more none short =
      let open_end = feed_missed window none in
      let on =
      feed_open (take m (drop (searched - place) (drop place items))) (drop m (drop (searched - place) (drop place items)))
      (subst (λ (octets : List ℕ). before_feed octets ≡ length octets) looked open_end) in
      let size = ap (λ (octets : List ℕ). length octets) looked in
      (omega (arith, below), omega (arith, sizes, left, within), omega (arith, parts (drop place items) (searched - place) m (omega (arith, past)), on, size, below), omega (arith, short, below))

-- More octets at the end change nothing of those that were searched.
pub put_more : (items piece more : List ℕ) (place searched : ℕ) → more ≡ items ++ piece → place ≤ searched → searched ≤ length items → searched ≤ place + before_feed (drop place items)
    → searched ≤ place + 4194304
    → (place ≤ searched) × (searched ≤ length more) × (searched ≤ place + before_feed (drop place more)) × (searched ≤ place + 4194304)
put_more items piece more place searched is below within past few =
    let rest : drop place more ≡ drop place items ++ piece = ap (λ (octets : List ℕ). drop place octets) is ∙ drop-append-le place items piece (omega (arith, below, within)) in
    let on = feed_more (drop place items) piece in (
      below,
      omega (arith, within, ap (λ (octets : List ℕ). length octets) is, length-append items piece),
      omega (arith, past, on, ap before_feed rest),
      few,
    )
