-- One text fits each script, line by line.
use Rattle.std.proofs.Common.{◌≡◌, ℕ, zero, suc, ◌+◌, Bool, List, [], ◌∷◌, Option, Some, None, length, take, refl, sym, ap, ap₂, subst, ◌∙◌}
use Rattle.std.specs.Prelude.{nat_lt, option_map, unwrap_or}
use Rattle.swima_model.specs.declared.record.Content.{Content}
use Rattle.swima_model.specs.declared.record.Record.{Record}
use Rattle.swima_model.specs.Live.{record_of}
use Rattle.collector_core.specs.declared.book.edit.Edit.{Edit}
use Rattle.collector_core.specs.declared.book.edit.Edit.TheVariants as edit
use Rattle.collector_core.specs.declared.chronicle.Entry.{Entry}
use Rattle.collector_core.specs.declared.chronicle.Entry.TheVariants as entry
use Rattle.collector_core.specs.declared.error.BookError.{BookError}
use Rattle.collector_core.specs.Chronicle.{extended}
use Rattle.collector_core.specs.Desks.{State, state_of}
use Rattle.collector_core.specs.Edits.{edit_refusal, entry_of}
use Rattle.collector_core.specs.Refusals.{alter_refusal, create_refusal, delete_refusal}
use Rattle.collector_core.specs.Standing.{alteration, creation, deletion}
use Rattle.session_world.specs.declared.telling.Telling.TheVariants.{Refused}
use Rattle.session_world.specs.Lines as lines
use Rattle.session_world.specs.Lines.{Told}
use Rattle.session_world.specs.World.{World}
use Rattle.command_text.specs.declared.answer.Answer.{Answer}
use Rattle.session_script.specs.declared.header.Header.{Header}
use Rattle.session_script.specs.declared.line.Line.{Line}
use Rattle.session_script.specs.declared.line.Line.TheVariants as line
use Rattle.session_script.specs.OneText.{OneReplayText}
use Rattle.session_script.specs.Replay.{Begins, Changes, Enters, IsEntered, IsPlayed, Played, Playing, Plays, PlaysFirst, PlaysLine, PlaysScript, SCRIPT_OCTETS, after_text, opened_by, told_in}
use Rattle.session_script.specs.Script.{split_once, words_of}
use Rattle.session_script.proofs.OneWord.{header_one, line_one, stamp_one}

-- ---- a change

-- The entry is made, unless the change is refused.
abbrev entering : World → Option Entry → Option BookError → Told
entering w made (Some error) = (w, Refused error ∷ [])
entering w made None = (record w { chronicle = extended w.chronicle (unwrap_or made (entry.Trim 0) ∷ []) }, [])

enters_by_is : (w : World) (change : Edit) (refusal : Option BookError) → lines.enters_by change w refusal ≡ entering w (entry_of change (state_of w.chronicle)) refusal
enters_by_is w change (Some error) = refl
enters_by_is w change None = refl

-- What a line that changes records makes, with a stamp.
abbrev makes : Line → List ℕ → World → Told
makes (line.Create content) stamp w =
    let state : State = state_of w.chronicle in
    entering w (Some (entry.Event (creation state.last state.next stamp content))) (create_refusal state.last state.next state.records content)
makes (line.Alter id content) stamp w =
    let state : State = state_of w.chronicle in
    entering w (Some (entry.Event (alteration state.last stamp id content))) (alter_refusal state.last state.records id content)
makes (line.Delete id) stamp w =
    let state : State = state_of w.chronicle in
    entering w (option_map (λ (held : Record). entry.Event (deletion state.last stamp held)) (record_of id state.records)) (delete_refusal state.last state.records id)
makes said stamp w = (w, [])

makes_create : (content : Content) (stamp : List ℕ) (w : World) (change : Edit) → Changes (line.Create content) stamp change → lines.enters change w ≡ makes (line.Create content) stamp w
makes_create content stamp w (edit.Create moment given) changes =
    enters_by_is w (edit.Create moment given) (edit_refusal (edit.Create moment given) (state_of w.chronicle))
    ∙ ap₂ (λ (s : List ℕ) (c : Content). makes (line.Create c) s w) changes.0 changes.1
makes_create content stamp w (edit.Alter moment id given) changes = absurd changes
makes_create content stamp w (edit.Delete moment id) changes = absurd changes
makes_create content stamp w (edit.BeginEpoch epoch) changes = absurd changes
makes_create content stamp w (edit.Trim first) changes = absurd changes

makes_alter : (id : ℕ) (content : Content) (stamp : List ℕ) (w : World) (change : Edit) → Changes (line.Alter id content) stamp change → lines.enters change w ≡ makes (line.Alter id content) stamp w
makes_alter id content stamp w (edit.Create moment given) changes = absurd changes
makes_alter id content stamp w (edit.Alter moment other given) changes =
    enters_by_is w (edit.Alter moment other given) (edit_refusal (edit.Alter moment other given) (state_of w.chronicle))
    ∙ ap₂ (λ (s : List ℕ) (i : ℕ). makes (line.Alter i given.now) s w) changes.0 changes.1
    ∙ ap (λ (c : Content). makes (line.Alter id c) stamp w) changes.2
makes_alter id content stamp w (edit.Delete moment other) changes = absurd changes
makes_alter id content stamp w (edit.BeginEpoch epoch) changes = absurd changes
makes_alter id content stamp w (edit.Trim first) changes = absurd changes

makes_delete : (id : ℕ) (stamp : List ℕ) (w : World) (change : Edit) → Changes (line.Delete id) stamp change → lines.enters change w ≡ makes (line.Delete id) stamp w
makes_delete id stamp w (edit.Create moment given) changes = absurd changes
makes_delete id stamp w (edit.Alter moment other given) changes = absurd changes
makes_delete id stamp w (edit.Delete moment other) changes =
    enters_by_is w (edit.Delete moment other) (edit_refusal (edit.Delete moment other) (state_of w.chronicle))
    ∙ ap₂ (λ (s : List ℕ) (i : ℕ). makes (line.Delete i) s w) changes.0 changes.1
makes_delete id stamp w (edit.BeginEpoch epoch) changes = absurd changes
makes_delete id stamp w (edit.Trim first) changes = absurd changes

-- ---- a line

-- One thing comes of the change that a line says, at a second.
does_one : (said : Line) → ((stamp : List ℕ) (w : World) (change : Edit) → Changes said stamp change → lines.enters change w ≡ makes said stamp w)
    → (second : ℕ) (w : World) (told also : Told) → IsEntered said second w told → IsEntered said second w also → told ≡ also
does_one said made second w told also this that =
    let stamps : this.stamp ≡ that.stamp = stamp_one second this.stamp that.stamp this.stamped that.stamped in
    this.does ∙ made this.stamp w this.change this.changes ∙ ap (λ (s : List ℕ). makes said s w) stamps ∙ sym (made that.stamp w that.change that.changes) ∙ sym that.does

pub change_one : (said : Line) (second : ℕ) (w : World) (told also : Told) → IsEntered said second w told → IsEntered said second w also → told ≡ also
change_one (line.Create content) second w told also this that = does_one (line.Create content) (makes_create content) second w told also this that
change_one (line.Alter id content) second w told also this that = does_one (line.Alter id content) (makes_alter id content) second w told also this that
change_one (line.Delete id) second w told also this that = does_one (line.Delete id) (makes_delete id) second w told also this that
change_one (line.Epoch epoch) second w told also this that = absurd this.changes
change_one (line.Trim first) second w told also this that = absurd this.changes
change_one line.Open second w told also this that = absurd this.changes
change_one (line.Up most) second w told also this that = absurd this.changes
change_one (line.Down most) second w told also this that = absurd this.changes
change_one line.Run second w told also this that = absurd this.changes
change_one line.Idle second w told also this that = absurd this.changes
change_one line.Cut second w told also this that = absurd this.changes
change_one line.Again second w told also this that = absurd this.changes
change_one line.Waits second w told also this that = absurd this.changes
change_one line.Show second w told also this that = absurd this.changes

entered_one : (said : Line) (p : Playing) (one other : Played) → Enters p said one → Enters p said other → one ≡ other
entered_one said p one other (told, this, is_this) (also, that, is_that) =
    is_this ∙ ap (λ (t : Told). told_in (p.changes + 1) t) (change_one said (p.changes + 1) p.world told also this that) ∙ sym is_that

played_one : (p : Playing) (said : Line) (one other : Played) → IsPlayed p said one → IsPlayed p said other → one ≡ other
played_one p (line.Create content) one other this that = entered_one (line.Create content) p one other this that
played_one p (line.Alter id content) one other this that = entered_one (line.Alter id content) p one other this that
played_one p (line.Delete id) one other this that = entered_one (line.Delete id) p one other this that
played_one p (line.Epoch epoch) one other this that = this ∙ sym that
played_one p (line.Trim first) one other this that = this ∙ sym that
played_one p line.Open one other this that = this ∙ sym that
played_one p (line.Up most) one other this that = this ∙ sym that
played_one p (line.Down most) one other this that = this ∙ sym that
played_one p line.Run one other this that = this ∙ sym that
played_one p line.Idle one other this that = this ∙ sym that
played_one p line.Cut one other this that = this ∙ sym that
played_one p line.Again one other this that = this ∙ sym that
played_one p line.Waits one other this that = this ∙ sym that
played_one p line.Show one other this that = this ∙ sym that

-- ---- lines

-- One answer fits what `Next` says.
abbrev AllOne : (Playing → List ℕ → Answer → Type 0) → Type 0
AllOne Next = (p : Playing) (octets : List ℕ) (one other : Answer) → Next p octets one → Next p octets other → one ≡ other

plays_line_one : (Next : Playing → List ℕ → Answer → Type 0) → AllOne Next → (number : ℕ) (p : Playing) (after : List ℕ) (said : Option Line) (one other : Answer)
    → PlaysLine Next number p after said one → PlaysLine Next number p after said other → one ≡ other
plays_line_one Next all number p after None one other this that = this ∙ sym that
plays_line_one Next all number p after (Some said) one other (made, played, (rest, next, is)) (also, replayed, (more, then_next, is_also)) =
    let same : made ≡ also = played_one p said made also played replayed in
    let rests : rest ≡ more = all also.0 after rest more (subst (λ (m : Played). Next m.0 after rest) same next) then_next in
    is ∙ ap₂ (λ (m : Played) (a : Answer). after_text m.1 a) same rests ∙ sym is_also

plays_first_one : (Next : Playing → List ℕ → Answer → Type 0) → AllOne Next → (number : ℕ) (goes_on : Bool) (p : Playing) (octets : List ℕ) (parts : Option (List ℕ × List ℕ)) (one other : Answer)
    → PlaysFirst Next number goes_on p octets parts one → PlaysFirst Next number goes_on p octets parts other → one ≡ other
plays_first_one Next all number goes_on p octets None one other this that = this ∙ sym that
plays_first_one Next all number goes_on p octets (Some parts) one other (said, is, this) (also, is_also, that) =
    plays_line_one Next all number p parts.1 also one other
    (subst (λ (s : Option Line). PlaysLine Next number p parts.1 s one) (line_one (words_of parts.0) said also is is_also) this) that

plays_one : (left number : ℕ) (goes_on : Bool) → AllOne (Plays left number goes_on)
unfolding Plays
plays_one zero number goes_on p octets one other this that = this ∙ sym that
plays_one (suc left) number goes_on p octets one other this that =
    plays_first_one (Plays left (number + 1) goes_on) (plays_one left (number + 1) goes_on) number goes_on p octets (split_once 10 octets) one other this that

-- ---- a script

begins_one : (goes_on : Bool) (after : List ℕ) (header : Option Header) (one other : Answer) → Begins goes_on after header one → Begins goes_on after header other → one ≡ other
begins_one goes_on after None one other this that = this ∙ sym that
begins_one goes_on after (Some header) one other this that = plays_one 99999 2 goes_on (opened_by header) after one other this that

script_one : (goes_on : Bool) (parts : Option (List ℕ × List ℕ)) (one other : Answer) → PlaysScript goes_on parts one → PlaysScript goes_on parts other → one ≡ other
script_one goes_on None one other this that = this ∙ sym that
script_one goes_on (Some parts) one other (header, is, this) (also, is_also, that) =
    begins_one goes_on parts.1 also one other (subst (λ (h : Option Header). Begins goes_on parts.1 h one) (header_one (words_of parts.0) header also is is_also) this) that

pub one_replay_text : OneReplayText
one_replay_text octets text other how also this that =
    let same : record { text = text; ending = how } ≡ record { text = other; ending = also } =
    script_one (nat_lt SCRIPT_OCTETS (length octets)) (split_once 10 (take SCRIPT_OCTETS octets)) (record { text = text; ending = how }) (record { text = other; ending = also }) this that in
    (ap (λ (a : Answer). a.text) same, ap (λ (a : Answer). a.ending) same)
