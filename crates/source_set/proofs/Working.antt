-- Deeds at a desk, and how they join.
use Rattle.std.proofs.Common.{◌≡◌, Bool, List, [], ◌∷◌, ◌++◌, Option, Result, Ok, Err, true, ℕ, refl, sym, ap, ◌∙◌, subst}
use Rattle.collector_core.specs.declared.chronicle.Entry.{Entry}
use Rattle.collector_core.specs.declared.chronicle.Mark.{Mark}
use Rattle.collector_core.specs.declared.error.BookError.{BookError}
use Rattle.collector_core.specs.declared.error.BookError.TheVariants as refused
use Rattle.collector_core.specs.Chronicle.{Chronicle, extended}
use Rattle.collector_core.specs.Desks.{AreOthers, Does, Edits, State, entries, own_mark, owned, state_of}
use Rattle.collector_core.proofs.Owning.{owned_joins, owned_none}
use Rattle.source_set.specs.Deeds.{Alters, Creates, Deed, Deletes, GivesUp, Make, count, counted, gives_up}
use Rattle.source_set.specs.Doing.{Refuses, Works}
use Rattle.source_set.specs.declared.swept.Swept.{Swept}
use Rattle.source_set.specs.declared.told.Told.{Told}
use Rattle.source_set.specs.declared.told.Told.TheVariants as told

-- ---- entries and counts

pub make_joins : (stamp : List ℕ) (xs ys : List Deed) (made more : List Entry) → Make stamp xs made → Make stamp ys more → Make stamp (xs ++ ys) (made ++ more)
make_joins stamp [] ys made more one two = subst (λ (es : List Entry). Make stamp ys (es ++ more)) (sym one) two
make_joins stamp (GivesUp ∷ xs) ys made more one two = make_joins stamp xs ys made more one two
make_joins stamp (Creates id content ∷ xs) ys [] more one two = absurd one
make_joins stamp (Alters id content ∷ xs) ys [] more one two = absurd one
make_joins stamp (Deletes id ∷ xs) ys [] more one two = absurd one
make_joins stamp (Creates id content ∷ xs) ys (e ∷ made) more one two = (one.0, make_joins stamp xs ys made more one.1 two)
make_joins stamp (Alters id content ∷ xs) ys (e ∷ made) more one two = (one.0, make_joins stamp xs ys made more one.1 two)
make_joins stamp (Deletes id ∷ xs) ys (e ∷ made) more one two = (one.0, make_joins stamp xs ys made more one.1 two)

pub count_joins : (swept : Swept) (xs ys : List Deed) → count swept (xs ++ ys) ≡ count (count swept xs) ys
count_joins swept [] ys = refl
count_joins swept (x ∷ xs) ys = count_joins (counted swept x) xs ys

-- A refusal, of any call.
abbrev pub failed : (T : Type 0) → BookError → Result T BookError
failed T error = Err error

-- ---- at any desk

module _ {D : Type 0} (stands : D → Chronicle → Type 0) (went : D → List Mark → D → Type 0) (stamp : List ℕ)
    (stays : (desk : D) → went desk [] desk)
    (follows : (one two three : D) (first second : List Mark) → went one first two → went two second three → went one (first ++ second) three)
    (carries : (before after : D) (marks : List Mark) (chronicle : Chronicle) → went before marks after → stands before chronicle → stands after (extended chronicle (entries marks))) where
  -- Nothing was done.
  pub works_none : (desk : D) (swept : Swept) → Works stands went stamp desk desk swept swept []
  works_none desk swept = record { marks = []; grows = stays desk; made = refl; counted = refl }

  -- One thing after another.
  pub works_more : (one two three : D) (swept between counts : Swept) (first second : List Deed) → Works stands went stamp one two swept between first
      → Works stands went stamp two three between counts second → Works stands went stamp one three swept counts (first ++ second)
  works_more one two three swept between counts first second a b = record {
    marks = a.marks ++ b.marks;
    grows = follows one two three a.marks b.marks a.grows b.grows;
    made = subst (Make stamp (first ++ second)) (sym (owned_joins a.marks b.marks)) (make_joins stamp first second (owned a.marks) (owned b.marks) a.made b.made);
    counted = b.counted ∙ ap (λ (s : Swept). count s second) a.counted ∙ sym (count_joins swept first second);
  }

  -- A change that the desk made.
  own_after : (others : List Mark) (made : Entry) → AreOthers others → owned (others ++ own_mark made ∷ []) ≡ made ∷ []
  own_after others made theirs = owned_joins others (own_mark made ∷ []) ∙ ap (λ (es : List Entry). es ++ made ∷ []) (owned_none others theirs)

  pub works_once : {T : Type 0} (says : T → State → Entry → Type 0) (refusal : State → Option BookError) (before after : D) (swept counts : Swept) (told : T) (deed : Deed)
      → Edits stands went says refusal before after (Ok told) → ((state : State) (made : Entry) → says told state made → Make stamp (deed ∷ []) (made ∷ []))
      → counts ≡ counted swept deed → Works stands went stamp before after swept counts (deed ∷ [])
  works_once says refusal before after swept counts told deed edited to is =
      let made = edited.done.0 in
      let said = edited.done.2 edited.some.0 edited.some.1 in
      record {
        marks = edited.others ++ own_mark made ∷ [];
        grows = edited.done.1;
        made = subst (Make stamp (deed ∷ [])) (sym (own_after edited.others made edited.theirs)) (to (state_of (extended edited.some.0 (entries edited.others))) made said.1);
        counted = is;
      }

  -- A change that it refused.
  others_went : {T : Type 0} (says : T → State → Entry → Type 0) (refusal : State → Option BookError) (before after : D) (others : List Mark) (error : BookError)
      → Does stands went says refusal before others after (failed T error) → went before others after
  others_went says refusal before after others (refused.EidsSpent last) done = done.0
  others_went says refusal before after others (refused.IdsSpent next) done = done.0
  others_went says refusal before after others (refused.UnknownRecord id) done = done.0
  others_went says refusal before after others (refused.RecordsFull count) done = done.0
  others_went says refusal before after others (refused.BytesFull held given) done = done.0
  others_went says refusal before after others (refused.EpochNotNew latest given) done = done.0
  others_went says refusal before after others (refused.TrimPast last given) done = done.0
  others_went says refusal before after others refused.Memory done = done.0

  pub works_refused : {T : Type 0} (says : T → State → Entry → Type 0) (refusal : State → Option BookError) (before after : D) (swept : Swept) (error : BookError)
      → Edits stands went says refusal before after (failed T error) → Works stands went stamp before after swept swept []
  works_refused says refusal before after swept error edited = record {
    marks = edited.others;
    grows = others_went says refusal before after edited.others error edited.done;
    made = owned_none edited.others edited.theirs;
    counted = refl;
  }

  refuses_as : {T : Type 0} (says : T → State → Entry → Type 0) (refusal : State → Option BookError) (before after : D) (others : List Mark) (some : (chronicle : Chronicle) × stands before chronicle) (error : BookError)
      → Does stands went says refusal before others after (failed T error) → Refuses stands went stamp after refusal error
  refuses_as says refusal before after others some (refused.EidsSpent last) done = (extended some.0 (entries others), carries before after others some.0 done.0 some.1, done.1 some.0 some.1)
  refuses_as says refusal before after others some (refused.IdsSpent next) done = (extended some.0 (entries others), carries before after others some.0 done.0 some.1, done.1 some.0 some.1)
  refuses_as says refusal before after others some (refused.UnknownRecord id) done = (extended some.0 (entries others), carries before after others some.0 done.0 some.1, done.1 some.0 some.1)
  refuses_as says refusal before after others some (refused.RecordsFull count) done = (extended some.0 (entries others), carries before after others some.0 done.0 some.1, done.1 some.0 some.1)
  refuses_as says refusal before after others some (refused.BytesFull held given) done = (extended some.0 (entries others), carries before after others some.0 done.0 some.1, done.1 some.0 some.1)
  refuses_as says refusal before after others some (refused.EpochNotNew latest given) done = (extended some.0 (entries others), carries before after others some.0 done.0 some.1, done.1 some.0 some.1)
  refuses_as says refusal before after others some (refused.TrimPast last given) done = (extended some.0 (entries others), carries before after others some.0 done.0 some.1, done.1 some.0 some.1)
  refuses_as says refusal before after others some refused.Memory done = tt

  pub refuses : {T : Type 0} (says : T → State → Entry → Type 0) (refusal : State → Option BookError) (before after : D) (error : BookError)
      → Edits stands went says refusal before after (failed T error) → Refuses stands went stamp after refusal error
  refuses says refusal before after error edited = refuses_as says refusal before after edited.others edited.some error edited.done

  -- Whether a desk takes changes stays as it is.
  pub takes_after : (takes : D → Bool) (keeps : (before after : D) (marks : List Mark) → went before marks after → takes after ≡ takes before) (before after : D) (swept counts : Swept) (deeds : List Deed)
      → Works stands went stamp before after swept counts deeds → takes before ≡ true → takes after ≡ true
  takes_after takes keeps before after swept counts deeds works is = keeps before after works.marks works.grows ∙ is

  made_none : (item : Told) → Make stamp (gives_up item) []
  made_none (told.Add key content) = refl
  made_none (told.Change key content) = refl
  made_none (told.Gone key) = refl
  made_none (told.Bad line) = refl
  made_none told.Quiet = refl
  made_none told.Ended = refl
  made_none told.Failed = refl
  made_none told.Memory = refl

  -- A source was given up, where its item is that it ended.
  pub given_up : (item : Told) (desk : D) (swept counts : Swept) → counts ≡ count swept (gives_up item) → Works stands went stamp desk desk swept counts (gives_up item)
  given_up item desk swept counts is = record { marks = []; grows = stays desk; made = made_none item; counted = is }
