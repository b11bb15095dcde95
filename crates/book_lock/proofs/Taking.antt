-- A call that takes the book, and brings it back.
use Rattle.std.proofs.Common.{◌≡◌, ◌≤◌, ◌+◌, Bool, true, false, List, [], ◌∷◌, ◌++◌, arith, sym, ap, ◌∙◌, subst, None, Ok, Err, append_assoc, true≢false}
use Rattle.atomic_table.specs.Seated.{TableId}
use Rattle.collector_core.specs.declared.book.edit.Changed.{Changed}
use Rattle.collector_core.specs.declared.book.edit.Edit.{Edit}
use Rattle.collector_core.specs.declared.chronicle.Mark.{Mark}
use Rattle.collector_core.specs.declared.error.BookError.{BookError}
use Rattle.collector_core.specs.BookAnswer.{book_point}
use Rattle.collector_core.specs.BookDesk.{book_state}
use Rattle.collector_core.specs.Chronicle.{Chronicle, point_of}
use Rattle.collector_core.specs.Desks.{AreOwn, Edits, Reads, entries, own_mark, state_of}
use Rattle.collector_core.specs.Edits.{Makes, book_entry, edit_refusal, edited_id}
use Rattle.collector_core.specs.Standing.{BookView, Enters, Stands}
use Rattle.collector_core.proofs.BookDesk.{state_same}
use Rattle.book_lock.specs.Logs.{LegalWith, StandsWith}
use Rattle.book_lock.specs.Passes.{AddsOwn, Closes, IsSound, PassStands, PassView, PassWent, Reports}
use Rattle.book_lock.specs.Plays.{HasBook, IsAt, Rests, Seated, committing, pass_of, resting}
use Rattle.book_lock.proofs.Calls.{edits_done, edits_refused, grown, lawful_there, legal_after, own_no_more, own_one_more, point_after, reads_by, rests_again, seat_committed, seat_grown, seat_taken, seen_own, seen_still, sound_by, stands_after, stood_refused, went_by}

-- The pass before; the seat with the book; the book.
module _ (z : TableId) (me one : Seated) (book : BookView) (rests : Rests z me) (has : HasBook me.0 one book) where
  -- Where the seat has the book, it is this far.
  pub holds_it : one.0.stage ≡ 3
  holds_it = ap (λ (m : Seated). m.0.stage) has.is

  pub still_live : one.0.spent ≡ false
  still_live = ap (λ (m : Seated). m.0.spent) has.is ∙ rests.live

  pub still_may : one.0.may_change ≡ me.0.may_change
  still_may = ap (λ (m : Seated). m.0.may_change) has.is

  pub has_taken : one.1 ≡ (0, None) ∷ []
  has_taken = ap (λ (m : Seated). m.1) has.is

  -- The book stands for what the seat has seen.
  pub stands_seen : (after : BookView) → StandsWith me.0.start after (entries (me.0.seen ++ has.others)) → StandsWith one.0.start after (entries one.0.seen)
  stands_seen after stands = subst (λ (m : Seated). StandsWith m.0.start after (entries m.0.seen)) (sym has.is) stands

  -- A call that read the book may bring it back.
  pub read_gives : (y board : TableId) → y ≡ z → IsAt board z
      → record { here : IsAt board y; holds : 3 ≤ one.0.stage; live : one.0.spent ≡ false; taken : one.1 ≡ (0, None) ∷ []; stands : StandsWith one.0.start book (entries one.0.seen) }
  read_gives y board same at = let stage : one.0.stage ≡ 3 = holds_it in record {
    here = (same ∙ at.0, at.1, at.2);
    holds = omega (arith, stage);
    live = still_live;
    taken = has_taken;
    stands = stands_seen book has.stands;
  }

  -- ---- a read, or a change that was refused

  module _ (y : TableId) (two : Seated) (same : y ≡ z) (gave : two ≡ (resting one.0, [])) where
    pub read_is : pass_of y two.0 ≡ grown (pass_of z me.0) has.others
    read_is = seat_grown z y me.0 one two has.others has.ticket same has.is gave

    read_legal : LegalWith me.0.start (entries (me.0.seen ++ has.others))
    read_legal = lawful_there (pass_of z me.0) has.others book has.stands

    pub read_went : PassWent (pass_of z me.0) has.others (pass_of y two.0)
    read_went = went_by (pass_of z me.0) (pass_of y two.0) has.others read_is (λ sole. own_no_more has.others (has.alone sole)) read_legal

    pub read_sound : IsSound (pass_of y two.0)
    read_sound = sound_by (pass_of z me.0) (pass_of y two.0) has.others read_is rests.sound
        (λ sole. own_no_more has.others (has.alone sole)) (λ bare. has.theirs) read_legal

    pub read_rests : Rests y two
    read_rests = rests_again y two one.0 gave still_live read_sound

    pub read_may : two.0.may_change ≡ me.0.may_change
    read_may = ap (λ (m : Seated). m.0.may_change) gave ∙ still_may

    pub read_same : (p : PassView) → pass_of z me.0 ≡ p → p.sole ≡ true → two.0.seen ≡ p.seen
    read_same p is sole = seen_still (pass_of z me.0) (pass_of y two.0) has.others read_is has.alone p is sole

    pub read_reads : (p : PassView) → pass_of z me.0 ≡ p → (answered : Chronicle → Type 0) → ((chronicle : Chronicle) → Stands book chronicle → answered chronicle)
        → Reads PassStands PassWent p (pass_of y two.0) answered
    read_reads p is answered answers = subst (λ (x : PassView). Reads PassStands PassWent x (pass_of y two.0) answered) is
        (reads_by (pass_of z me.0) (pass_of y two.0) has.others book answered rests.sound has.theirs read_went has.stands answers)

    -- What such a call leaves, and what it says of it.
    pub read_leaves : (changes : Bool) → changes ≡ me.0.may_change → Rests y two × (changes ≡ two.0.may_change)
    read_leaves changes may = (read_rests, may ∙ sym read_may)

    pub read_returns : (p : PassView) → pass_of z me.0 ≡ p → (shelf : TableId) → p.shelf ≡ shelf → (answered : Chronicle → Type 0) → ((chronicle : Chronicle) → Stands book chronicle → answered chronicle)
        → record { reads : Reads PassStands PassWent p (pass_of y two.0) answered; sole : p.sole ≡ true → two.0.seen ≡ p.seen; here : y ≡ shelf; may : two.0.may_change ≡ p.may_change; sound : IsSound (pass_of y two.0) }
    read_returns p is shelf here answered answers = record {
      reads = read_reads p is answered answers;
      sole = read_same p is;
      here = same ∙ (ap (λ (q : PassView). q.shelf) is ∙ here);
      may = read_may ∙ ap (λ (q : PassView). q.may_change) is;
      sound = read_sound;
    }

    pub read_refused : (p : PassView) → pass_of z me.0 ≡ p → (edit : Edit) (after : BookView) (error : BookError)
        → ((chronicle : Chronicle) → Stands book chronicle → Enters {T = Changed} (Makes edit (state_of chronicle)) (edit_refusal edit (state_of chronicle)) chronicle (Err error) after)
        → Edits PassStands PassWent (Reports edit) (edit_refusal edit) p (pass_of y two.0) (Err error)
    read_refused p is edit after error enters =
        subst (λ (x : PassView). Edits PassStands PassWent (Reports edit) (edit_refusal edit) x (pass_of y two.0) (Err error)) is
        (edits_refused edit (pass_of z me.0) (pass_of y two.0) has.others book after rests.sound has.theirs has.stands error read_went enters)

  pub refused_stands : (edit : Edit) (after : BookView) (error : BookError)
      → ((chronicle : Chronicle) → Stands book chronicle → Enters {T = Changed} (Makes edit (state_of chronicle)) (edit_refusal edit (state_of chronicle)) chronicle (Err error) after)
      → StandsWith one.0.start after (entries one.0.seen)
  refused_stands edit after error enters = stands_seen after (stood_refused edit me.0.start book after (me.0.seen ++ has.others) error has.stands enters)

  -- ---- a close

  pub closes_with : (y : TableId) → y ≡ z → (p : PassView) → pass_of z me.0 ≡ p → Closes p book (pass_of y one.0)
  closes_with y same p was =
      let is : pass_of y one.0 ≡ grown (pass_of z me.0) has.others = seat_taken z y me.0 one has.others has.ticket same has.is in
      subst (λ (x : PassView). Closes x book (pass_of y one.0)) was (record {
        others = has.others;
        theirs = has.theirs;
        grows = went_by (pass_of z me.0) (pass_of y one.0) has.others is (λ sole. own_no_more has.others (has.alone sole))
            (lawful_there (pass_of z me.0) has.others book has.stands);
        stands = subst (λ (x : PassView). StandsWith me.0.start book (entries x.seen)) (sym is) has.stands;
        alone = has.alone;
      })

  pub closes_same : (y : TableId) → y ≡ z → (p : PassView) → pass_of z me.0 ≡ p → p.sole ≡ true → one.0.seen ≡ p.seen
  closes_same y same p is sole = seen_still (pass_of z me.0) (pass_of y one.0) has.others (seat_taken z y me.0 one has.others has.ticket same has.is) has.alone p is sole

  pub closes_sound : (y : TableId) → y ≡ z → IsSound (pass_of y one.0)
  closes_sound y same = sound_by (pass_of z me.0) (pass_of y one.0) has.others (seat_taken z y me.0 one has.others has.ticket same has.is) rests.sound
      (λ sole. own_no_more has.others (has.alone sole)) (λ bare. has.theirs) (lawful_there (pass_of z me.0) has.others book has.stands)

  -- ---- a change that was done

  module _ (edit : Edit) (after : BookView) (changed : Changed)
      (enters : (chronicle : Chronicle) → Stands book chronicle → Enters (Makes edit (state_of chronicle)) (edit_refusal edit (state_of chronicle)) chronicle (Ok changed) after) where
    stands_then : StandsWith me.0.start after (entries ((me.0.seen ++ has.others) ++ own_mark (book_entry edit book) ∷ []))
    stands_then = stands_after edit me.0.start (me.0.seen ++ has.others) book after has.stands changed enters

    legal_then : LegalWith me.0.start (entries ((me.0.seen ++ has.others) ++ own_mark (book_entry edit book) ∷ []))
    legal_then = legal_after edit me.0.start (me.0.seen ++ has.others) book after has.stands changed enters

    -- What the commit asks, with the book as it was kept in mind.
    pub commit_legal : (before : BookView) → before ≡ book → LegalWith one.0.start (entries (one.0.seen ++ own_mark (book_entry edit before) ∷ []))
    commit_legal before is = subst (λ (b : BookView). LegalWith one.0.start (entries (one.0.seen ++ own_mark (book_entry edit b) ∷ []))) (sym is)
        (subst (λ (m : Seated). LegalWith m.0.start (entries (m.0.seen ++ own_mark (book_entry edit book) ∷ []))) (sym has.is) legal_then)

    module _ (before : BookView) (kept : before ≡ book) (two : Seated) (did : two ≡ (committing one.0 (book_entry edit before), one.1)) where
      did_so : two ≡ (committing one.0 (book_entry edit book), one.1)
      did_so = subst (λ (b : BookView). two ≡ (committing one.0 (book_entry edit b), one.1)) kept did

      pub committed_stage : two.0.stage ≡ 4
      committed_stage = ap (λ (m : Seated). m.0.stage) did

      pub committed_live : two.0.spent ≡ false
      committed_live = ap (λ (m : Seated). m.0.spent) did ∙ still_live

      pub committed_taken : two.1 ≡ (0, None) ∷ []
      committed_taken = ap (λ (m : Seated). m.1) did ∙ has_taken

      -- What bringing the book back asks.
      pub give_stands : StandsWith two.0.start after (entries two.0.seen)
      give_stands = subst (λ (m : Seated). StandsWith m.0.start after (entries m.0.seen)) (sym did_so)
          (subst (λ (m : Seated). StandsWith m.0.start after (entries (m.0.seen ++ own_mark (book_entry edit book) ∷ []))) (sym has.is) stands_then)

      module _ (y : TableId) (three : Seated) (same : y ≡ z) (gave : three ≡ (resting two.0, [])) where
        pub done_is : pass_of y three.0 ≡ grown (pass_of z me.0) (has.others ++ own_mark (book_entry edit book) ∷ [])
        done_is = seat_committed z y me.0 one two three has.others has.ticket (book_entry edit book) same has.is did_so gave

        done_legal : LegalWith me.0.start (entries (me.0.seen ++ (has.others ++ own_mark (book_entry edit book) ∷ [])))
        done_legal = subst (λ (ms : List Mark). LegalWith me.0.start (entries ms)) (append_assoc me.0.seen has.others (own_mark (book_entry edit book) ∷ [])) legal_then

        done_own : me.0.sole ≡ true → AreOwn (has.others ++ own_mark (book_entry edit book) ∷ [])
        done_own sole = own_one_more has.others (book_entry edit book) (has.alone sole)

        pub done_went : PassWent (pass_of z me.0) (has.others ++ own_mark (book_entry edit book) ∷ []) (pass_of y three.0)
        done_went = went_by (pass_of z me.0) (pass_of y three.0) (has.others ++ own_mark (book_entry edit book) ∷ []) done_is done_own done_legal

        pub done_sound : me.0.may_change ≡ true → IsSound (pass_of y three.0)
        done_sound may = sound_by (pass_of z me.0) (pass_of y three.0) (has.others ++ own_mark (book_entry edit book) ∷ []) done_is rests.sound
            done_own (λ bare. absurd (true≢false (sym may ∙ bare))) done_legal

        pub done_rests : me.0.may_change ≡ true → Rests y three
        done_rests may = rests_again y three two.0 gave committed_live (done_sound may)

        pub done_may : three.0.may_change ≡ me.0.may_change
        done_may = ap (λ (m : Seated). m.0.may_change) gave ∙ (ap (λ (m : Seated). m.0.may_change) did ∙ still_may)

        pub done_adds : (p : PassView) → pass_of z me.0 ≡ p → p.sole ≡ true → AddsOwn {T = Changed} p.seen (Ok changed) three.0.seen
        done_adds p is sole = (book_entry edit book, seen_own (pass_of z me.0) (pass_of y three.0) has.others (book_entry edit book) done_is has.alone p is sole)

        pub done_edits : (p : PassView) → pass_of z me.0 ≡ p → changed.id ≡ edited_id edit (book_state book)
            → Edits PassStands PassWent (Reports edit) (edit_refusal edit) p (pass_of y three.0) (Ok changed)
        done_edits p is names = subst (λ (x : PassView). Edits PassStands PassWent (Reports edit) (edit_refusal edit) x (pass_of y three.0) (Ok changed)) is
            (edits_done edit (pass_of z me.0) (pass_of y three.0) has.others book after rests.sound has.theirs has.stands changed done_went enters
            (λ chronicle stands. names ∙ ap (edited_id edit) (state_same book chronicle stands)))

        pub done_point : changed.point ≡ book_point after → (chronicle : Chronicle) → PassStands (pass_of y three.0) chronicle → changed.point ≡ point_of chronicle
        done_point is = point_after (pass_of y three.0) after changed.point
            (subst (λ (p : PassView). StandsWith p.start after (entries p.seen)) (sym done_is)
            (subst (λ (ms : List Mark). StandsWith me.0.start after (entries ms)) (append_assoc me.0.seen has.others (own_mark (book_entry edit book) ∷ [])) stands_then))
            is
