-- Sources that are asked in order, and where that ends.
use Rattle.std.proofs.Common.{◌≡◌, inl, inr, ℕ, suc, ◌+◌, ◌<◌, ◌≤◌, List, [], ◌∷◌, ◌++◌, Option, None, Some, Result, Ok, Err, drop, get_or, length, set, take, refl, sym, ap, ◌∙◌, subst, arith, append_assoc}
use Rattle.std.proofs.lemmas.List.{append-nil, drop-drop, drop-set-lt, drop_all, drop_more, length-set, set_split, take_all, take_more_set}
use Rattle.collector_core.specs.declared.chronicle.Mark.{Mark}
use Rattle.collector_core.specs.Chronicle.{Chronicle}
use Rattle.source_set.specs.Asking.{Asks, stand}
use Rattle.source_set.specs.Sweeping.{AsksAll, DoesKept, DoesOne, IsSeated, Row, SetView, SweepsSeats, kept_of, nothing, row, stopped_at}
use Rattle.source_set.specs.declared.seat.Seat.{Seat}
use Rattle.source_set.specs.declared.seat.Stop.{Stop}
use Rattle.source_set.specs.declared.set.Kept.{Kept}
use Rattle.source_set.specs.declared.set.Stopped.{Stopped}
use Rattle.source_set.specs.declared.swept.Swept.{Swept}
use Rattle.source_set.specs.declared.told.Told.{Told}

abbrev setting : {B : Type 0} → List (Seat B) → Option Kept → ℕ → SetView B
setting seats kept faults = record { seats = seats; kept = kept; faults = faults }

-- What follows the first of some sources.
tail_of : {B : Type 0} → (count : ℕ) (seats : List (Seat B)) (seat : Seat B) (others : List (Seat B)) → drop count seats ≡ seat ∷ others → drop (count + 1) seats ≡ others
tail_of {B} count seats seat others is = sym (drop-drop 1 count seats) ∙ ap (λ (ss : List (Seat B)). drop 1 ss) is

abbrev wrong : Stopped → Result Unit Stopped
wrong stopped = Err stopped

stopped_same : (stopped : Stopped) (number : ℕ) (stop : Stop) → wrong stopped ≡ Err (record { source = number; stop = stop }) → stopped.source ≡ number
stopped_same stopped number stop e = cc

stopped_here : (answer : Result Unit Stop) (number : ℕ) (stopped : Stopped) (count : ℕ) → wrong stopped ≡ stopped_at number answer → number < count → stopped.source < count
stopped_here (Ok done) number stopped count is less = absurd cc
stopped_here (Err stop) number stopped count is less = omega (arith, stopped_same stopped number stop is, less)

module _ {B D : Type 0} (reports : B → List Told → Type 0) (stands : D → Chronicle → Type 0) (went : D → List Mark → D → Type 0) (stamp : List ℕ) where
  -- That many of the sources were asked; whatever the others do then, all were asked in order.
  abbrev pub Leads : ℕ → List (Seat B) → D → Swept → List (Seat B) → D → Swept → Type 0
  Leads count seats first swept now desk counts =
      (later : List (Seat B)) (last : D) (total : Swept) (result : Result Unit Stopped)
      → AsksAll reports stands went stamp count (drop count seats) desk counts later last total result → AsksAll reports stands went stamp 0 seats first swept (take count now ++ later) last total result

  pub leads_none : (seats : List (Seat B)) (desk : D) (swept : Swept) → Leads 0 seats desk swept seats desk swept
  leads_none seats desk swept = λ later last total result asks. asks

  -- The source whose turn it is.
  turn : (count : ℕ) (seats now : List (Seat B)) (d seat : Seat B) → drop count now ≡ drop count seats → count < length now → get_or now count d ≡ seat
      → (drop count seats ≡ seat ∷ drop (count + 1) seats) × (drop (count + 1) now ≡ drop (count + 1) seats)
  turn count seats now d seat same less is =
      let parts = drop_more now count d less in
      let whole : drop count seats ≡ get_or now count d ∷ drop (count + 1) now = sym same ∙ parts in
      let tail = tail_of count seats (get_or now count d) (drop (count + 1) now) whole in
      (whole ∙ ap (λ (s : Seat B). s ∷ drop (count + 1) now) is ∙ ap (λ (ss : List (Seat B)). seat ∷ ss) (sym tail), sym tail)

  pub leads_more : (count : ℕ) (seats now : List (Seat B)) (first desk after : D) (swept counts total : Swept) (d seat left : Seat B) → Leads count seats first swept now desk counts → drop count now ≡ drop count seats
      → count < length now → get_or now count d ≡ seat → Asks reports stands went stamp count (stand seat desk counts) (stand left after total) (Ok tt)
      → Leads (count + 1) seats first swept (set now count left) after total
  leads_more count seats now first desk after swept counts total d seat left leads same less is asks = λ later last all result rest.
      let here = turn count seats now d seat same less is in
      let on = leads (left ∷ later) last all result
      (subst (λ (ss : List (Seat B)). AsksAll reports stands went stamp count ss desk counts (left ∷ later) last all result) (sym here.0) (inl (after, total, asks, rest))) in
      subst (λ (ss : List (Seat B)). AsksAll reports stands went stamp 0 seats first swept ss last all result)
      (sym (ap (λ (ss : List (Seat B)). ss ++ later) (take_more_set now count left less) ∙ append_assoc (take count now) (left ∷ []) later)) on

  -- The others are as they were.
  pub same_more : (count : ℕ) (seats now : List (Seat B)) (left : Seat B) → drop count now ≡ drop count seats → count < length now → drop (count + 1) (set now count left) ≡ drop (count + 1) seats
  same_more count seats now left same less = drop-set-lt (count + 1) now count left (omega arith) ∙ (turn count seats now left (get_or now count left) same less refl).1

  pub leads_stopped : (count : ℕ) (seats now : List (Seat B)) (first desk after : D) (swept counts total : Swept) (d seat left : Seat B) (stop : Stop) → Leads count seats first swept now desk counts
      → drop count now ≡ drop count seats → count < length now → get_or now count d ≡ seat → Asks reports stands went stamp count (stand seat desk counts) (stand left after total) (Err stop)
      → AsksAll reports stands went stamp 0 seats first swept (set now count left) after total (Err (record { source = count; stop = stop }))
  leads_stopped count seats now first desk after swept counts total d seat left stop leads same less is asks =
      let here = turn count seats now d seat same less is in
      let on = leads (left ∷ drop (count + 1) seats) after total (Err (record { source = count; stop = stop }))
      (subst (λ (ss : List (Seat B)). AsksAll reports stands went stamp count ss desk counts (left ∷ drop (count + 1) seats) after total (Err (record { source = count; stop = stop }))) (sym here.0)
      (inr (stop, refl, asks, refl))) in
      let next : suc count ≡ count + 1 = omega arith in
      let whole : set now count left ≡ take count now ++ left ∷ drop (count + 1) seats =
      set_split now count left less ∙ ap (λ (n : ℕ). take count now ++ left ∷ drop n now) next ∙ ap (λ (ss : List (Seat B)). take count now ++ left ∷ ss) here.1 in
      subst (λ (ss : List (Seat B)). AsksAll reports stands went stamp 0 seats first swept ss after total (Err (record { source = count; stop = stop }))) (sym whole) on

  pub leads_all : (count : ℕ) (seats now : List (Seat B)) (first desk : D) (swept counts : Swept) → Leads count seats first swept now desk counts → length seats ≤ count → length now ≤ count
      → AsksAll reports stands went stamp 0 seats first swept now desk counts (Ok tt)
  leads_all count seats now first desk swept counts leads all within =
      let none = drop_all count seats all in
      let on = leads [] desk counts (Ok tt) (subst (λ (ss : List (Seat B)). AsksAll reports stands went stamp count ss desk counts [] desk counts (Ok tt)) (sym none) (refl, refl, refl, refl)) in
      subst (λ (ss : List (Seat B)). AsksAll reports stands went stamp 0 seats first swept ss desk counts (Ok tt)) (append-nil (take count now) ∙ take_all count now within) on

  -- ---- the source that stopped a sweep is one of them

  all_within : (number : ℕ) (seats : List (Seat B)) (desk : D) (swept : Swept) (later : List (Seat B)) (after : D) (counts : Swept) (stopped : Stopped)
      → AsksAll reports stands went stamp number seats desk swept later after counts (Err stopped) → stopped.source < number + length seats
  all_within number [] desk swept later after counts stopped asks = let is = asks.3 in absurd cc
  all_within number (seat ∷ others) desk swept [] after counts stopped asks = absurd asks
  all_within number (seat ∷ others) desk swept (left ∷ later) after counts stopped (inl on) =
      let within = all_within (number + 1) others on.0 on.1 later after counts stopped on.3 in omega (arith, within)
  all_within number (seat ∷ others) desk swept (left ∷ later) after counts stopped (inr one) =
      let is = stopped_same stopped number one.0 one.1 in omega (arith, is)

  one_within : (kept : Kept) (before after : Row B D) (stopped : Stopped) → DoesOne reports stands went stamp kept before after (Err stopped) → stopped.source < length before.seats
  one_within kept before after stopped one = stopped_here one.answer kept.source stopped (length before.seats) one.is one.within

  kept_within : (kept : Option Kept) (before after : Row B D) (stopped : Stopped) → DoesKept reports stands went stamp kept before after (Err stopped) → stopped.source < length before.seats
  kept_within None before after stopped done = let is = done.1 in absurd cc
  kept_within (Some kept) before after stopped done = one_within kept before after stopped done

  kept_same : (kept : Option Kept) (before after : Row B D) (result : Result Unit Stopped) → DoesKept reports stands went stamp kept before after result → length after.seats ≡ length before.seats
  kept_same None before after result done = ap (λ (r : Row B D). length r.seats) done.0
  kept_same (Some kept) before after result done = ap (λ (ss : List (Seat B)). length ss) done.seats ∙ length-set before.seats kept.source done.left

  pub swept_within : (kept : Option Kept) (before after : Row B D) (stopped : Stopped) → SweepsSeats reports stands went stamp kept before after (Err stopped) → stopped.source < length before.seats
  swept_within kept before after stopped (inl on) =
      let within = all_within 0 on.0.seats on.0.desk on.0.swept after.seats after.desk after.swept stopped on.2 in
      omega (arith, within, kept_same kept before on.0 (Ok tt) on.1)
  swept_within kept before after stopped (inr one) = kept_within kept before after stopped one.2

  -- What was swept, of the set as others see it.
  pub swept_seen : (view : SetView B) (seats : List (Seat B)) (kept taken : Option Kept) (faults : ℕ) (desk : D) (after : Row B D) (result : Result Unit Stopped)
      → setting seats kept faults ≡ view → taken ≡ kept → SweepsSeats reports stands went stamp taken (row seats desk nothing) after result
      → SweepsSeats reports stands went stamp view.kept (row view.seats desk nothing) after result
  swept_seen view seats kept taken faults desk after result is same swept =
      subst (λ (v : SetView B). SweepsSeats reports stands went stamp v.kept (row v.seats desk nothing) after result) is
      (subst (λ (k : Option Kept). SweepsSeats reports stands went stamp k (row seats desk nothing) after result) same swept)

-- What is kept is of one of them.
pub kept_seated : (count number : ℕ) (item : Option Told) → number < count → IsSeated count (kept_of number item)
kept_seated count number None less = tt
kept_seated count number (Some item) less = less

-- What was kept is of one of them.
pub seated_at : (count : ℕ) (kept : Option Kept) (here : Kept) → IsSeated count kept → kept ≡ Some here → here.source < count
seated_at count kept here seated is = subst (IsSeated count) is seated
