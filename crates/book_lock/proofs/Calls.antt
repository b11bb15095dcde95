-- From what a pass knows of the table to what the calls of a shelf say of it.
use Rattle.std.proofs.Common.{◌≡◌, ◌+◌, ℕ, true, false, List, [], ◌∷◌, ◌++◌, refl, sym, ap, ◌∙◌, subst, Option, Some, None, Ok, Err, append_assoc, append-nil, get_or}
use Rattle.std.proofs.lemmas.Option.{same_Some}
use Rattle.atomic_table.specs.Seated.{TableId}
use Rattle.atomic_table.specs.Table.{rest}
use Rattle.swima_model.specs.declared.report.Point.{Point}
use Rattle.collector_core.specs.declared.book.edit.Changed.{Changed}
use Rattle.collector_core.specs.declared.book.edit.Edit.{Edit}
use Rattle.collector_core.specs.declared.chronicle.Entry.{Entry}
use Rattle.collector_core.specs.declared.chronicle.Mark.{Mark}
use Rattle.collector_core.specs.declared.error.BookError.{BookError}
use Rattle.collector_core.specs.declared.error.BookError.TheVariants as refused
use Rattle.collector_core.specs.BookAnswer.{book_point}
use Rattle.collector_core.specs.BookDesk.{entries_append, extended_more, own_append}
use Rattle.collector_core.specs.Chronicle.{Chronicle, current, extended, point_of}
use Rattle.collector_core.specs.Desks.{AreOthers, AreOwn, Does, Edits, Reads, entries, own_mark, state_of}
use Rattle.collector_core.specs.Edits.{Makes, book_entry, edit_refusal, edited_id}
use Rattle.collector_core.specs.Standing.{BookView, Enters, Stands}
use Rattle.collector_core.proofs.Editing.{book_entry_is_entered}
use Rattle.collector_core.proofs.Marks.{others_append}
use Rattle.book_lock.specs.declared.view.View.{View}
use Rattle.book_lock.specs.Logs.{LegalWith, StandsWith}
use Rattle.book_lock.specs.Passes.{IsSound, PassStands, PassView, PassWent, Reports}
use Rattle.book_lock.specs.Plays.{HasBook, IsAt, Rests, Seated, Took, committing, drawn, pass_of, reached, resting}

-- ---- the steps together

-- The seat of a pass is one of its shelf.
pub is_at : (seat board shelf : TableId) (v : View) (p : PassView) → pass_of seat v ≡ p → board ≡ shelf → p.shelf ≡ shelf → (board.words ≡ 3) × (board.slots ≡ 1) → IsAt board seat
is_at seat board shelf v p view_is self_is here sized = (ap (λ (q : PassView). q.shelf) view_is ∙ (here ∙ sym self_is), sized.0, sized.1)

-- A pass at rest may take the book.
pub may_reach : (seat board shelf : TableId) (m : Seated) (p : PassView) → pass_of seat m.0 ≡ p → board ≡ shelf → p.shelf ≡ shelf → (board.words ≡ 3) × (board.slots ≡ 1) → Rests seat m
    → record { here : IsAt board seat; idle : m.0.stage ≡ 0; live : m.0.spent ≡ false; empty : m.1 ≡ [] }
may_reach seat board shelf m p view_is self_is here sized rests = record {
  here = is_at seat board shelf m.0 p view_is self_is here sized;
  idle = rests.idle;
  live = rests.live;
  empty = rests.empty;
}

pub reached_book : (v : View) (ticket : ℕ) (one two three : Seated) (carried : List (ℕ × Option BookView)) (book : BookView) → one ≡ (drawn v ticket, carried) → two ≡ (reached one.0, one.1)
    → HasBook two.0 three book → HasBook v three book
reached_book v ticket one two three carried book drew looked has =
    let turn : two.0 ≡ reached (drawn v ticket) = ap (λ (m : Seated). m.0) looked ∙ ap (λ (m : Seated). reached m.0) drew in
    let h : HasBook (reached (drawn v ticket)) three book = subst (λ (u : View). HasBook u three book) turn has in record {
      others = h.others;
      theirs = h.theirs;
      ticket = h.ticket;
      is = h.is;
      stands = h.stands;
      alone = h.alone;
    }

-- What the slot had is the book.
pub taken_is : (v : View) (one : Seated) (slot : Option BookView) (book : BookView) (t : Took v [] one) → one.1 ≡ (0, slot) ∷ rest one.1 → slot ≡ Some book → t.book ≡ book
taken_is v one slot book t had is =
    let both : (0, Some t.book) ∷ [] ≡ (0, slot) ∷ rest one.1 = sym (ap (λ (m : Seated). m.1) t.is) ∙ had in
    let same : Some t.book ≡ slot = ap (λ (xs : List (ℕ × Option BookView)). (get_or xs 0 (0, slot)).1) both in
    same_Some t.book book (same ∙ is)

pub took_book : (v : View) (carried : List (ℕ × Option BookView)) (one two : Seated) (slot : Option BookView) (book : BookView) → carried ≡ [] → Took v carried one → one.1 ≡ (0, slot) ∷ rest one.1
    → two ≡ (one.0, (0, None) ∷ rest one.1) → slot ≡ Some book → HasBook v two book
took_book v carried one two slot book empty took had left is =
    let t : Took v [] one = subst (λ (c : List (ℕ × Option BookView)). Took v c one) empty took in
    let same : t.book ≡ book = taken_is v one slot book t had is in record {
      others = t.others;
      theirs = t.theirs;
      ticket = v.ticket;
      is = left ∙ ap (λ (m : Seated). let z : Seated = (m.0, (0, None) ∷ rest m.1) in z) t.is;
      stands = subst (λ (b : BookView). StandsWith v.start b (entries (v.seen ++ t.others))) same t.stands;
      alone = t.alone;
    }

-- ---- a pass that has seen more

abbrev pub grown : PassView → List Mark → PassView
grown pass marks = record pass { seen = pass.seen ++ marks }

pub went_by : (p q : PassView) (marks : List Mark) → q ≡ grown p marks → (p.sole ≡ true → AreOwn marks) → LegalWith p.start (entries (p.seen ++ marks)) → PassWent p marks q
went_by p q marks is own legal = record {
  shelf = ap (λ (x : PassView). x.shelf) is;
  start = ap (λ (x : PassView). x.start) is;
  seen = ap (λ (x : PassView). x.seen) is;
  may_change = ap (λ (x : PassView). x.may_change) is;
  sole = ap (λ (x : PassView). x.sole) is;
  alone = own;
  lawful = λ lawful. subst (λ (x : PassView). LegalWith x.start (entries x.seen)) (sym is) legal;
}

pub sound_by : (p q : PassView) (marks : List Mark) → q ≡ grown p marks → IsSound p → (p.sole ≡ true → AreOwn marks) → (p.may_change ≡ false → AreOthers marks)
    → LegalWith p.start (entries (p.seen ++ marks)) → IsSound q
sound_by p q marks is sound own bare legal = subst IsSound (sym is) (record {
  some = sound.some;
  lawful = legal;
  sole_may = sound.sole_may;
  sole_own = λ sole. own_append p.seen marks (sound.sole_own sole) (own sole);
  bare = λ none. others_append p.seen marks (sound.bare none) (bare none);
})

-- On a sole pass nothing comes that is not its own.
pub seen_still : (p q : PassView) (others : List Mark) → q ≡ grown p others → (p.sole ≡ true → others ≡ []) → (x : PassView) → p ≡ x → x.sole ≡ true → q.seen ≡ x.seen
seen_still p q others is alone x same sole =
    ap (λ (y : PassView). y.seen) is ∙ ap (λ (ms : List Mark). p.seen ++ ms) (alone (ap (λ (y : PassView). y.sole) same ∙ sole))
    ∙ append-nil p.seen ∙ ap (λ (y : PassView). y.seen) same

pub seen_own : (p q : PassView) (others : List Mark) (made : Entry) → q ≡ grown p (others ++ own_mark made ∷ []) → (p.sole ≡ true → others ≡ []) → (x : PassView) → p ≡ x → x.sole ≡ true
    → q.seen ≡ x.seen ++ own_mark made ∷ []
seen_own p q others made is alone x same sole =
    ap (λ (y : PassView). y.seen) is ∙ ap (λ (ms : List Mark). p.seen ++ (ms ++ own_mark made ∷ [])) (alone (ap (λ (y : PassView). y.sole) same ∙ sole))
    ∙ ap (λ (y : PassView). y.seen ++ own_mark made ∷ []) same

-- The pass that has the book, and gave it back.
pub seat_grown : (old new : TableId) (v : View) (one two : Seated) (others : List Mark) (ticket : ℕ) → new ≡ old
    → one ≡ (record v { stage = 3; ticket = ticket; seen = v.seen ++ others }, (0, None) ∷ []) → two ≡ (resting one.0, [])
    → pass_of new two.0 ≡ grown (pass_of old v) others
seat_grown old new v one two others ticket same has gave =
    ap (λ (z : TableId). pass_of z two.0) same ∙ ap (λ (m : Seated). pass_of old m.0) gave ∙ ap (λ (m : Seated). pass_of old (resting m.0)) has

-- The pass that has it still.
pub seat_taken : (old new : TableId) (v : View) (one : Seated) (others : List Mark) (ticket : ℕ) → new ≡ old
    → one ≡ (record v { stage = 3; ticket = ticket; seen = v.seen ++ others }, (0, None) ∷ []) → pass_of new one.0 ≡ grown (pass_of old v) others
seat_taken old new v one others ticket same has = ap (λ (z : TableId). pass_of z one.0) same ∙ ap (λ (m : Seated). pass_of old m.0) has

-- The pass that entered something too.
pub seat_committed : (old new : TableId) (v : View) (one two three : Seated) (others : List Mark) (ticket : ℕ) (made : Entry) → new ≡ old
    → one ≡ (record v { stage = 3; ticket = ticket; seen = v.seen ++ others }, (0, None) ∷ []) → two ≡ (committing one.0 made, one.1) → three ≡ (resting two.0, [])
    → pass_of new three.0 ≡ grown (pass_of old v) (others ++ own_mark made ∷ [])
seat_committed old new v one two three others ticket made same has did gave =
    ap (λ (z : TableId). pass_of z three.0) same ∙ ap (λ (m : Seated). pass_of old m.0) gave ∙ ap (λ (m : Seated). pass_of old (resting m.0)) did
    ∙ ap (λ (m : Seated). pass_of old (resting (committing m.0 made))) has
    ∙ ap (λ (seen : List Mark). let p : PassView = record (pass_of old v) { seen = seen } in p) (append_assoc v.seen others (own_mark made ∷ []))

pub rests_again : (new : TableId) (two : Seated) (v : View) → two ≡ (resting v, []) → v.spent ≡ false → IsSound (pass_of new two.0) → Rests new two
rests_again new two v gave live sound = record {
  empty = ap (λ (m : Seated). m.1) gave;
  idle = ap (λ (m : Seated). m.0.stage) gave;
  live = ap (λ (m : Seated). m.0.spent) gave ∙ live;
  sound = sound;
}

-- ---- at each chronicle

module _ (p : PassView) (others : List Mark) (book : BookView) (stood : StandsWith p.start book (entries (p.seen ++ others))) where
  -- What the book says at a chronicle that it stands for, the pass says after others' entries.
  pub at_chronicle : (P : Chronicle → Type 0) → ((chronicle : Chronicle) → Stands book chronicle → P chronicle)
      → (chronicle : Chronicle) → PassStands p chronicle → P (extended chronicle (entries others))
  at_chronicle P says chronicle stands =
      let same : extended chronicle (entries others) ≡ extended stands.before (entries (p.seen ++ others)) =
      ap (λ (c : Chronicle). extended c (entries others)) stands.is ∙ extended_more stands.before (entries p.seen) (entries others)
      ∙ ap (extended stands.before) (sym (entries_append p.seen others)) in
      subst P (sym same) (says (extended stands.before (entries (p.seen ++ others))) (stood stands.before stands.stood))

  pub lawful_there : LegalWith p.start (entries (p.seen ++ others))
  lawful_there chronicle stands = (stood chronicle stands).legal

pub some_stands : (p : PassView) → IsSound p → (chronicle : Chronicle) × PassStands p chronicle
some_stands p sound = (
  extended sound.some.0 (entries p.seen),
  record { before = sound.some.0; stood = sound.some.1; is = refl; lawful = sound.lawful },
)

pub reads_by : (p q : PassView) (others : List Mark) (book : BookView) (answered : Chronicle → Type 0) → IsSound p → AreOthers others → PassWent p others q
    → StandsWith p.start book (entries (p.seen ++ others)) → ((chronicle : Chronicle) → Stands book chronicle → answered chronicle)
    → Reads PassStands PassWent p q answered
reads_by p q others book answered sound theirs went stood answers = record {
  some = some_stands p sound;
  others = others;
  theirs = theirs;
  grows = went;
  answers = at_chronicle p others book stood answered answers;
}

-- ---- changes

module _ (edit : Edit) (start : BookView) (seen : List Mark) (old new : BookView) (stood : StandsWith start old (entries seen)) (changed : Changed)
    (enters : (chronicle : Chronicle) → Stands old chronicle → Enters (Makes edit (state_of chronicle)) (edit_refusal edit (state_of chronicle)) chronicle (Ok changed) new) where
  -- The book after a change that was done.
  pub stands_after : StandsWith start new (entries (seen ++ own_mark (book_entry edit old) ∷ []))
  stands_after chronicle stands =
      let before = stood chronicle stands in
      let there = extended chronicle (entries seen) in
      let after = (book_entry_is_entered edit old new changed there before (enters there before)).1 in
      subst (Stands new) (extended_more chronicle (entries seen) (book_entry edit old ∷ []) ∙ ap (extended chronicle) (sym (entries_append seen (own_mark (book_entry edit old) ∷ [])))) after

  pub legal_after : LegalWith start (entries (seen ++ own_mark (book_entry edit old) ∷ []))
  legal_after chronicle stands = (stands_after chronicle stands).legal

-- The book after a change that was refused.
pub stands_refused : (T : Type 0) (says : Entry → Type 0) (why : Option BookError) (chronicle : Chronicle) (error : BookError) (new : BookView) → Enters {T = T} says why chronicle (Err error) new → Stands new chronicle
stands_refused T says why chronicle refused.Memory new enters = enters.1
stands_refused T says why chronicle (refused.EidsSpent n) new enters = enters.1
stands_refused T says why chronicle (refused.IdsSpent n) new enters = enters.1
stands_refused T says why chronicle (refused.UnknownRecord n) new enters = enters.1
stands_refused T says why chronicle (refused.RecordsFull n) new enters = enters.1
stands_refused T says why chronicle (refused.BytesFull n m) new enters = enters.1
stands_refused T says why chronicle (refused.EpochNotNew n m) new enters = enters.1
stands_refused T says why chronicle (refused.TrimPast n m) new enters = enters.1

pub stood_refused : (edit : Edit) (start old new : BookView) (seen : List Mark) (error : BookError) → StandsWith start old (entries seen)
    → ((chronicle : Chronicle) → Stands old chronicle → Enters {T = Changed} (Makes edit (state_of chronicle)) (edit_refusal edit (state_of chronicle)) chronicle (Err error) new)
    → StandsWith start new (entries seen)
stood_refused edit start old new seen error stood enters chronicle stands =
    let there = extended chronicle (entries seen) in
    stands_refused Changed (Makes edit (state_of there)) (edit_refusal edit (state_of there)) there error new (enters there (stood chronicle stands))

module _ (edit : Edit) (p q : PassView) (others : List Mark) (old new : BookView) (sound : IsSound p) (theirs : AreOthers others)
    (stood : StandsWith p.start old (entries (p.seen ++ others))) where
  -- A change that was done.
  pub edits_done : (changed : Changed) → PassWent p (others ++ own_mark (book_entry edit old) ∷ []) q
      → ((chronicle : Chronicle) → Stands old chronicle → Enters (Makes edit (state_of chronicle)) (edit_refusal edit (state_of chronicle)) chronicle (Ok changed) new)
      → ((chronicle : Chronicle) → Stands old chronicle → changed.id ≡ edited_id edit (state_of chronicle))
      → Edits PassStands PassWent (Reports edit) (edit_refusal edit) p q (Ok changed)
  edits_done changed went enters names = record {
    some = some_stands p sound;
    others = others;
    theirs = theirs;
    done = (
      book_entry edit old,
      went,
      λ chronicle stands. (
        at_chronicle p others old stood (λ (c : Chronicle). edit_refusal edit (state_of c) ≡ None) (λ c there. (enters c there).0) chronicle stands,
        at_chronicle p others old stood (λ (c : Chronicle). Reports edit changed (state_of c) (book_entry edit old))
            (λ c there. ((book_entry_is_entered edit old new changed c there (enters c there)).0, names c there)) chronicle stands,
      ),
    );
  }

  refused_for : (why : Option BookError) → PassWent p others q → ((chronicle : Chronicle) → Stands old chronicle → edit_refusal edit (state_of chronicle) ≡ why)
      → PassWent p others q × ((chronicle : Chronicle) → PassStands p chronicle → edit_refusal edit (state_of (extended chronicle (entries others))) ≡ why)
  refused_for why went says = (went, at_chronicle p others old stood (λ (c : Chronicle). edit_refusal edit (state_of c) ≡ why) says)

  does_refused : (error : BookError) → PassWent p others q
      → ((chronicle : Chronicle) → Stands old chronicle → Enters {T = Changed} (Makes edit (state_of chronicle)) (edit_refusal edit (state_of chronicle)) chronicle (Err error) new)
      → Does PassStands PassWent (Reports edit) (edit_refusal edit) p others q (Err error)
  does_refused refused.Memory went enters = refused_for None went (λ c there. (enters c there).0)
  does_refused (refused.EidsSpent n) went enters = refused_for (Some (refused.EidsSpent n)) went (λ c there. (enters c there).0)
  does_refused (refused.IdsSpent n) went enters = refused_for (Some (refused.IdsSpent n)) went (λ c there. (enters c there).0)
  does_refused (refused.UnknownRecord n) went enters = refused_for (Some (refused.UnknownRecord n)) went (λ c there. (enters c there).0)
  does_refused (refused.RecordsFull n) went enters = refused_for (Some (refused.RecordsFull n)) went (λ c there. (enters c there).0)
  does_refused (refused.BytesFull n m) went enters = refused_for (Some (refused.BytesFull n m)) went (λ c there. (enters c there).0)
  does_refused (refused.EpochNotNew n m) went enters = refused_for (Some (refused.EpochNotNew n m)) went (λ c there. (enters c there).0)
  does_refused (refused.TrimPast n m) went enters = refused_for (Some (refused.TrimPast n m)) went (λ c there. (enters c there).0)

  -- A change that was refused.
  pub edits_refused : (error : BookError) → PassWent p others q
      → ((chronicle : Chronicle) → Stands old chronicle → Enters {T = Changed} (Makes edit (state_of chronicle)) (edit_refusal edit (state_of chronicle)) chronicle (Err error) new)
      → Edits PassStands PassWent (Reports edit) (edit_refusal edit) p q (Err error)
  edits_refused error went enters = record { some = some_stands p sound; others = others; theirs = theirs; done = does_refused error went enters }

-- The point that a book has is that of each chronicle that it stands for.
pub point_there : (book : BookView) (chronicle : Chronicle) → Stands book chronicle → book_point book ≡ point_of chronicle
point_there book chronicle stands =
    ap (λ (n : ℕ). let p : Point = record { epoch = n; eid = book.log.last } in p) stands.epoch
    ∙ ap (λ (n : ℕ). let p : Point = record { epoch = (current chronicle).number; eid = n } in p) stands.last

pub point_after : (q : PassView) (book : BookView) (point : Point) → StandsWith q.start book (entries q.seen) → point ≡ book_point book → (chronicle : Chronicle) → PassStands q chronicle → point ≡ point_of chronicle
point_after q book point stood is chronicle stands =
    is ∙ point_there book chronicle (subst (Stands book) (sym stands.is) (stood stands.before stands.stood))

-- ---- own entries

pub own_no_more : (others : List Mark) → others ≡ [] → AreOwn others
own_no_more others none = subst AreOwn (sym none) tt

pub own_one_more : (others : List Mark) (made : Entry) → others ≡ [] → AreOwn (others ++ own_mark made ∷ [])
own_one_more others made none = subst (λ (ms : List Mark). AreOwn (ms ++ own_mark made ∷ [])) (sym none) (refl, tt)
