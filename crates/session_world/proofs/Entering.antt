-- A change of the inventory, as a line.
use Rattle.std.proofs.Common.{◌≡◌, ◌≢◌, ◌+◌, ℕ, List, [], ◌∷◌, ◌++◌, Option, Some, None, Result, Ok, Err, length, refl, sym, ap, subst, ◌∙◌, append-nil, length-append, arith}
use Rattle.std.specs.Prelude.{option_map, unwrap_or}
use Rattle.wire_base.specs.Turns.{Turn}
use Rattle.swima_model.specs.declared.record.Record.{Record}
use Rattle.validator_core.specs.Held.{Held}
use Rattle.collector_core.specs.declared.book.edit.Edit.{Edit}
use Rattle.collector_core.specs.declared.book.edit.Edit.TheVariants as edit
use Rattle.collector_core.specs.declared.chronicle.Entry.{Entry}
use Rattle.collector_core.specs.declared.chronicle.Entry.TheVariants as entry
use Rattle.collector_core.specs.declared.error.BookError.{BookError}
use Rattle.collector_core.specs.declared.error.BookError.TheVariants as refused
use Rattle.collector_core.specs.Chronicle.{Chronicle, extended}
use Rattle.collector_core.specs.Desks.{State, state_of}
use Rattle.collector_core.specs.Edits.{Makes, edit_refusal, entry_of}
use Rattle.collector_core.specs.Standing.{BookView, Enters, Stands, deletion}
use Rattle.collector_core.proofs.Marks.{within_more}
use Rattle.collector_session.specs.Cores.{Core, Stood}
use Rattle.collector_session.specs.Standing.{stand_of}
use Rattle.session_rules.specs.ServeRules.{session}
use Rattle.session_rules.proofs.Desking.{gives_longer}
use Rattle.session_world.specs.declared.terms.Terms.{Terms}
use Rattle.session_world.specs.declared.joined.Joined.{Joined as JoinedView}
use Rattle.session_world.specs.declared.telling.Telling.{Telling}
use Rattle.session_world.specs.declared.telling.Telling.TheVariants.{Refused}
use Rattle.session_world.specs.Lines.{cuts, enters, enters_by, opens}
use Rattle.session_world.specs.Standing.{Does, JoinedBy, JoinedStands, StandsFor, WorldView}
use Rattle.session_world.specs.Tellings.{ToldOf}
use Rattle.session_world.specs.World.{Joined, opened}

-- A core stands for the same session over a longer chronicle.
longer_stood : (chronicle : Chronicle) (more : List Entry) (places : List ℕ) (turns : List Turn) (carried : List ℕ) (core : Core) → Stood chronicle places turns carried core → Stood (extended chronicle more) places turns carried core
longer_stood chronicle more places turns carried core stood = record {
  within = within_more (length chronicle.entries) (length (chronicle.entries ++ more)) places (omega (arith, length-append chronicle.entries more)) stood.within;
  gives = gives_longer chronicle more (session core.end.config turns) places (carried ++ core.end.out) (stand_of core.end.standing) stood.within stood.gives;
  hears = stood.hears;
  sent = stood.sent;
  received = stood.received;
}

longer_joined : (terms : Terms) (chronicle : Chronicle) (more : List Entry) (mirror : Held) (view : Option JoinedView) (joined : Option Joined) → JoinedBy terms chronicle mirror view joined → JoinedBy terms (extended chronicle more) mirror view joined
longer_joined terms chronicle more mirror None None by = tt
longer_joined terms chronicle more mirror None (Some j) by = absurd by
longer_joined terms chronicle more mirror (Some view) None by = absurd by
longer_joined terms chronicle more mirror (Some view) (Some j) by = record {
  serve = longer_stood chronicle more j.places j.down j.carried_up view.serve by.serve;
  serve_config = by.serve_config;
  collector = by.collector;
  collector_well = by.collector_well;
  follow = by.follow;
  follow_config = by.follow_config;
  validator = by.validator;
}

-- The entry that a change makes.
made_is : (change : Edit) (state : State) (made : Entry) → Makes change state made → unwrap_or (entry_of change state) (entry.Trim 0) ≡ made
made_is (edit.Create stamp content) state made makes = sym makes
made_is (edit.Alter stamp id content) state made makes = sym makes
made_is (edit.Delete stamp id) state made makes =
    ap (λ (o : Option Record). unwrap_or (option_map (λ (held : Record). entry.Event (deletion state.last stamp.now held)) o) (entry.Trim 0)) makes.1 ∙ sym makes.2
made_is (edit.BeginEpoch epoch) state made makes = sym makes
made_is (edit.Trim first) state made makes = sym makes

-- Why the book refused it.
refusal_is : (T : Type 0) (says : Entry → Type 0) (refusal : Option BookError) (chronicle : Chronicle) (error : BookError) (new : BookView) → error ≢ refused.Memory
    → Enters {T = T} says refusal chronicle (Err error) new → (refusal ≡ Some error) × Stands new chronicle
refusal_is T says refusal chronicle (refused.EidsSpent last) new other entered_so = entered_so
refusal_is T says refusal chronicle (refused.IdsSpent next) new other entered_so = entered_so
refusal_is T says refusal chronicle (refused.UnknownRecord id) new other entered_so = entered_so
refusal_is T says refusal chronicle (refused.RecordsFull count) new other entered_so = entered_so
refusal_is T says refusal chronicle (refused.BytesFull held given) new other entered_so = entered_so
refusal_is T says refusal chronicle (refused.EpochNotNew latest given) new other entered_so = entered_so
refusal_is T says refusal chronicle (refused.TrimPast last given) new other entered_so = entered_so
refusal_is T says refusal chronicle refused.Memory new other entered_so = absurd (other refl)

-- ---- the line

pub entered : {T : Type 0} (change : Edit) (view : WorldView) (new : BookView) (value : T) (told : List Telling)
    → ((chronicle : Chronicle) → Stands view.book chronicle → Enters (Makes change (state_of chronicle)) (edit_refusal change (state_of chronicle)) chronicle (Ok value) new)
    → Does (enters change) view told (record view { book = new }) told
entered change view new value told apply w stands =
    let done = apply w.chronicle stands.book in
    let made : Entry = done.1.0 in
    let same : unwrap_or (entry_of change (state_of w.chronicle)) (entry.Trim 0) ≡ made = made_is change (state_of w.chronicle) made done.1.1 in
    subst (λ (o : Option BookError). StandsFor (record view { book = new }) (enters_by change w o).0 × (told ≡ told ++ (enters_by change w o).1)) (sym done.0) (
      subst (λ (e : Entry). StandsFor (record view { book = new }) (record w { chronicle = extended w.chronicle (e ∷ []) })) (sym same)
          (record {
            terms = stands.terms;
            book = done.1.2;
            mirror = stands.mirror;
            joined = longer_joined w.terms w.chronicle (made ∷ []) w.mirror view.joined w.joined stands.joined;
          }),
      sym (append-nil told),
    )

pub not_entered : (T : Type 0) (change : Edit) (view : WorldView) (new : BookView) (error : BookError) (told told_after : List Telling) → error ≢ refused.Memory
    → ((chronicle : Chronicle) → Stands view.book chronicle → Enters {T = T} (Makes change (state_of chronicle)) (edit_refusal change (state_of chronicle)) chronicle (Err error) new)
    → told_after ≡ told ++ Refused error ∷ [] → Does (enters change) view told (record view { book = new }) told_after
not_entered T change view new error told told_after other apply says w stands =
    let done = refusal_is T (Makes change (state_of w.chronicle)) (edit_refusal change (state_of w.chronicle)) w.chronicle error new other (apply w.chronicle stands.book) in
    subst (λ (o : Option BookError). StandsFor (record view { book = new }) (enters_by change w o).0 × (told_after ≡ told ++ (enters_by change w o).1)) (sym done.0)
    (record { terms = stands.terms; book = done.1; mirror = stands.mirror; joined = stands.joined }, says)

-- ---- the start and the end of a session

pub opened_does : (view : WorldView) (made : JoinedView) → ((chronicle : Chronicle) (mirror : Held) → JoinedStands view.terms chronicle mirror made (opened view.terms.subscribe mirror)) → Does opens view [] (record view { joined = Some made }) []
opened_does view made stands w so = (
  record { terms = so.terms; book = so.book; mirror = so.mirror; joined = subst (λ (m : Terms). JoinedStands m w.chronicle w.mirror made (opened m.subscribe w.mirror)) so.terms (stands w.chronicle w.mirror) },
  refl,
)

pub cut_does : (view : WorldView) → Does cuts view [] (record view { joined = None }) []
cut_does view w so = (record { terms = so.terms; book = so.book; mirror = so.mirror; joined = tt }, refl)

-- A change, by what came of it.
pub enters_does : (T : Type 0) (change : Edit) (view : WorldView) (new : BookView) (done : Result T BookError) (told told_after : List Telling)
    → ((chronicle : Chronicle) → Stands view.book chronicle → Enters {T = T} (Makes change (state_of chronicle)) (edit_refusal change (state_of chronicle)) chronicle done new)
    → ToldOf done told told_after → Does (enters change) view told (record view { book = new }) told_after
enters_does T change view new (Ok value) told told_after apply says = subst (λ (ts : List Telling). Does (enters change) view told (record view { book = new }) ts) (sym says) (entered change view new value told apply)
enters_does T change view new (Err error) told told_after apply says = not_entered T change view new error told told_after says.0 apply says.1
