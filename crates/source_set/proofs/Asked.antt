-- A source is asked for one item more.
use Rattle.std.proofs.Common.{◌≡◌, inl, inr, ℕ, ◌+◌, ◌<◌, arith, length, length-append, Bool, true, false, Result, Ok, Err, List, [], ◌∷◌, ◌++◌, Option, None, Some, refl, sym, ap, ◌∙◌, subst, append_assoc}
use Rattle.std.proofs.lemmas.List.{append-nil, map-append}
use Rattle.std.proofs.lemmas.Option.{none-some}
use Rattle.collector_core.specs.declared.chronicle.Mark.{Mark}
use Rattle.collector_core.specs.Chronicle.{Chronicle, extended}
use Rattle.collector_core.specs.Desks.{entries}
use Rattle.source_set.specs.Asking.{AreDone, AreKnown, Asked, Asks, AsksOnce, Does, Follows, Hears, IsItem, IsLeft, Ran, Stand, items_of, left_by, numbered}
use Rattle.source_set.specs.Deeds.{Deed, Done, deeds, does, gives_up, keys_after, leaves}
use Rattle.source_set.specs.Doing.{IsKnown, Works}
use Rattle.source_set.specs.Items.{Gave, Reported, Tells}
use Rattle.source_set.specs.Keys.{Held}
use Rattle.source_set.specs.declared.seat.Stop.{Stop}
use Rattle.source_set.specs.declared.told.Told.{Told}
use Rattle.source_set.specs.declared.told.Told.TheVariants as told
use Rattle.source_set.proofs.Working.{works_more, works_none}

-- ---- lists

pub follows_more : (items run between later : List Told) (item : Told) → Follows items run between → Tells between item later → Follows items (run ++ item ∷ []) later
follows_more items [] between later item is tells = (later, subst (λ (ts : List Told). Tells ts item later) is tells, refl)
follows_more items (first ∷ run) between later item run-on tells = (run-on.0, run-on.1, follows_more run-on.0 run between later item run-on.2 tells)

pub deeds_more : (keys : List Held) (dones : List Done) (done : Done)
    → deeds keys (dones ++ done ∷ []) ≡ deeds keys dones ++ (does (keys_after keys dones) done.id done.item ++ gives_up done.item)
deeds_more keys [] done = append-nil (does keys done.id done.item ++ gives_up done.item)
deeds_more keys (first ∷ dones) done =
    let one = does keys first.id first.item ++ gives_up first.item in
    let left = leaves keys first.id first.item in
    ap (λ (ds : List Deed). one ++ ds) (deeds_more left dones done)
    ∙ sym (append_assoc one (deeds left dones) (does (keys_after left dones) done.id done.item ++ gives_up done.item))

pub keys_more : (keys : List Held) (dones : List Done) (done : Done) → keys_after keys (dones ++ done ∷ []) ≡ leaves (keys_after keys dones) done.id done.item
keys_more keys [] done = refl
keys_more keys (first ∷ dones) done = keys_more (leaves keys first.id first.item) dones done

are_done_more : (run : List Told) (item : Told) → AreDone run → IsItem item → AreDone (run ++ item ∷ [])
are_done_more [] item all is = (is, tt)
are_done_more (first ∷ run) item all is = (all.0, are_done_more run item all.1 is)

known_more : (keys : List Held) (dones : List Done) (done : Done) → AreKnown keys dones → IsKnown (keys_after keys dones) done.item → AreKnown keys (dones ++ done ∷ [])
known_more keys [] done all is = (is, tt)
known_more keys (first ∷ dones) done all is = (all.0, known_more (leaves keys first.id first.item) dones done all.1 is)

-- That many items were reported and done.
module _ {B D : Type 0} (reports : B → List Told → Type 0) (stands : D → Chronicle → Type 0) (went : D → List Mark → D → Type 0) (stamp : List ℕ) where
  abbrev pub SoFar : ℕ → Stand B D → Stand B D → ℕ → Type 0
  SoFar number before middle count = (run : List Told) × (dones : List Done) × (length run ≡ count) × Asked reports stands went stamp number before middle run dones

module _ {B D : Type 0} (reports : B → List Told → Type 0) (stands : D → Chronicle → Type 0) (went : D → List Mark → D → Type 0) (stamp : List ℕ)
    (stays : (desk : D) → went desk [] desk)
    (follows : (one two three : D) (first second : List Mark) → went one first two → went two second three → went one (first ++ second) three)
    (carries : (before after : D) (marks : List Mark) (chronicle : Chronicle) → went before marks after → stands before chronicle → stands after (extended chronicle (entries marks))) where
  ran_none : (source : Option B) → Ran reports stands went stamp source [] source
  ran_none None = (refl, refl)
  ran_none (Some source) = λ items left. (items, refl, left)

  -- Nothing was asked yet.
  pub asked_none : (number : ℕ) (stand : Stand B D) → Asked reports stands went stamp number stand stand [] []
  asked_none number stand = record {
    ran = ran_none stand.source;
    are = refl;
    done = tt;
    known = tt;
    works = works_none stands went stamp stays follows carries stand.place.desk stand.place.swept;
    keys = refl;
  }

  -- What is done is no failure, so the source says which item it was.
  gave : (number : ℕ) (source onward : B) (item : Told) → IsItem (numbered number item) → Reported reports source item onward → Gave reports source item onward
  gave number source onward (told.Add key content) is gives = gives
  gave number source onward (told.Change key content) is gives = gives
  gave number source onward (told.Gone key) is gives = gives
  gave number source onward (told.Bad line) is gives = absurd is
  gave number source onward told.Quiet is gives = absurd is
  gave number source onward told.Ended is gives = gives
  gave number source onward told.Failed is gives = absurd is
  gave number source onward told.Memory is gives = absurd is

  left_after : (number : ℕ) (onward : B) (item : Told) (later : List Told) → reports onward later → IsLeft reports stands went stamp (left_by (numbered number item) (Some onward)) later
  left_after number onward (told.Add key content) later left = left
  left_after number onward (told.Change key content) later left = left
  left_after number onward (told.Gone key) later left = left
  left_after number onward (told.Bad line) later left = left
  left_after number onward told.Quiet later left = left
  left_after number onward told.Ended later left = tt
  left_after number onward told.Failed later left = left
  left_after number onward told.Memory later left = left

  ran_more : (number : ℕ) (before middle after : Option B) (run : List Told) (item : Told) (source onward : B) → Ran reports stands went stamp before run middle → middle ≡ Some source
      → Gave reports source item onward → after ≡ left_by (numbered number item) (Some onward) → Ran reports stands went stamp before (run ++ item ∷ []) after
  ran_more number None middle after run item source onward ran is gives left = absurd (none-some source (sym ran.1 ∙ is))
  ran_more number (Some first) middle after run item source onward ran is gives left = λ items reported.
      let so-far = ran items reported in
      let one = gives so-far.0 (subst (λ (o : Option B). IsLeft reports stands went stamp o so-far.0) is so-far.2) in (
        one.0,
        follows_more items run so-far.0 one.0 item so-far.1 one.1,
        subst (λ (o : Option B). IsLeft reports stands went stamp o one.0) (sym left) (left_after number onward item one.0 one.2),
      )

  -- One item more was reported and done.
  pub asked_more : (number : ℕ) (before middle after : Stand B D) (run : List Told) (dones : List Done) (source onward : B) (item : Told) → Asked reports stands went stamp number before middle run dones
      → middle.source ≡ Some source → Reported reports source item onward → IsItem (numbered number item) → (done : Does stands went stamp (numbered number item) (record middle { source = Some onward }) after)
      → Asked reports stands went stamp number before after (run ++ item ∷ []) (dones ++ record { item = numbered number item; id = done.new } ∷ [])
  asked_more number before middle after run dones source onward item asked is gives takes done =
      let one : Done = record { item = numbered number item; id = done.new } in
      let keys = before.place.keys in
      record {
        ran = ran_more number before.source middle.source after.source run item source onward asked.ran is (gave number source onward item takes gives) done.source;
        are =
            map-append (λ (d : Done). d.item) dones (one ∷ []) ∙ ap (λ (items : List Told). items ++ numbered number item ∷ []) asked.are
            ∙ sym (map-append (numbered number) run (item ∷ []));
        done = subst AreDone (sym (map-append (λ (d : Done). d.item) dones (one ∷ []))) (are_done_more (items_of dones) (numbered number item) asked.done takes);
        known = known_more keys dones one asked.known (subst (λ (ks : List Held). IsKnown ks (numbered number item)) asked.keys done.known);
        works =
            subst (Works stands went stamp before.place.desk after.place.desk before.place.swept after.place.swept) (sym (deeds_more keys dones one))
            (works_more stands went stamp stays follows carries before.place.desk middle.place.desk after.place.desk before.place.swept middle.place.swept after.place.swept (deeds keys dones)
            (does (keys_after keys dones) done.new (numbered number item) ++ gives_up (numbered number item)) asked.works
            (subst (λ (ks : List Held). Works stands went stamp middle.place.desk after.place.desk middle.place.swept after.place.swept (does ks done.new (numbered number item) ++ gives_up (numbered number item)))
            asked.keys done.works));
        keys = done.keys ∙ ap (λ (ks : List Held). leaves ks done.new (numbered number item)) asked.keys ∙ sym (keys_more keys dones one);
      }

  -- What was reported and heard is what asking once says.
  quiet : (number : ℕ) (source onward : B) (item : Told) → numbered number item ≡ told.Quiet → Reported reports source item onward → Gave reports source told.Quiet onward
  quiet number source onward (told.Add key content) is gives = absurd cc
  quiet number source onward (told.Change key content) is gives = absurd cc
  quiet number source onward (told.Gone key) is gives = absurd cc
  quiet number source onward (told.Bad line) is gives = absurd cc
  quiet number source onward told.Quiet is gives = gives
  quiet number source onward told.Ended is gives = absurd cc
  quiet number source onward told.Failed is gives = absurd cc
  quiet number source onward told.Memory is gives = absurd cc

  pub asks_once : (number : ℕ) (before after : Stand B D) (source onward : B) (item : Told) (result : Result Bool Stop) → before.source ≡ Some source → Reported reports source item onward
      → Hears stands went stamp (numbered number item) number (record before { source = Some onward }) after result → AsksOnce reports stands went stamp number before after result
  asks_once number before after source onward item (Ok true) is gives heard = (source, onward, item, is, gives, heard.0, heard.1)
  asks_once number before after source onward item (Ok false) is gives heard = inr (source, onward, is, quiet number source onward item heard.0 gives, heard.1)
  asks_once number before after source onward item (Err stop) is gives heard = (source, onward, item, is, gives, heard)

  -- ---- asked again and again

  pub so_far_none : (number : ℕ) (stand : Stand B D) → SoFar reports stands went stamp number stand stand 0
  so_far_none number stand = ([], [], refl, asked_none number stand)

  pub so_far_more : (number : ℕ) (before middle after : Stand B D) (count : ℕ) (more : Bool) → SoFar reports stands went stamp number before middle count → more ≡ true
      → AsksOnce reports stands went stamp number middle after (Ok more) → SoFar reports stands went stamp number before after (count + 1)
  so_far_more number before middle after count true so-far is once = (
    so-far.0 ++ once.2 ∷ [],
    so-far.1 ++ record { item = numbered number once.2; id = once.6.new } ∷ [],
    omega (arith, length-append so-far.0 (once.2 ∷ []), so-far.2),
    asked_more number before middle after so-far.0 so-far.1 once.0 once.1 once.2 so-far.3 once.3 once.4 once.5 once.6,
  )
  so_far_more number before middle after count false so-far is once = absurd cc

  pub asks_ended : (number : ℕ) (before middle after : Stand B D) (count : ℕ) (more : Bool) → SoFar reports stands went stamp number before middle count → more ≡ false → count < 1024
      → AsksOnce reports stands went stamp number middle after (Ok more) → Asks reports stands went stamp number before after (Ok tt)
  asks_ended number before middle after count true so-far is less once = absurd cc
  asks_ended number before middle after count false so-far is less once =
      record { middle = middle; run = so-far.0; dones = so-far.1; asked = so-far.3; ends = inr (omega (arith, so-far.2, less), once) }

  pub asks_stopped : (number : ℕ) (before middle after : Stand B D) (count : ℕ) (stop : Stop) → SoFar reports stands went stamp number before middle count → count < 1024
      → AsksOnce reports stands went stamp number middle after (Err stop) → Asks reports stands went stamp number before after (Err stop)
  asks_stopped number before middle after count stop so-far less once =
      record { middle = middle; run = so-far.0; dones = so-far.1; asked = so-far.3; ends = (omega (arith, so-far.2, less), once) }

  pub asks_full : (number : ℕ) (before after : Stand B D) (count : ℕ) → SoFar reports stands went stamp number before after count → count ≡ 1024 → Asks reports stands went stamp number before after (Ok tt)
  asks_full number before after count so-far is =
      record { middle = after; run = so-far.0; dones = so-far.1; asked = so-far.3; ends = inl (so-far.2 ∙ is, refl) }
