-- What deeds leave of the record of an identifier.
use Rattle.std.proofs.Common.{◌≡◌, inl, inr, filter, ℕ, ◌+◌, ◌≤◌, eqb, cond, Bool, true, false, List, [], ◌∷◌, ◌++◌, Option, None, Some, refl, sym, ap, ◌∙◌, append_assoc, eq-eqb, ne_eqb, eqb-true}
use Rattle.std.specs.List.{fold}
use Rattle.std.specs.Option.{option_map}
use Rattle.std.proofs.lemmas.Bool.{cases_eq}
use Rattle.std.proofs.lemmas.List.{append-nil}
use Rattle.swima_model.specs.declared.event.Event.{Event}
use Rattle.swima_model.specs.declared.record.Content.{Content}
use Rattle.swima_model.specs.declared.record.Record.{Record}
use Rattle.swima_model.specs.Live.{by_mention, is_deletion, last_mention, later_or, record_of}
use Rattle.swima_model.proofs.Living.{live_of, mention_push}
use Rattle.collector_core.specs.declared.chronicle.Entry.{Entry}
use Rattle.collector_core.specs.declared.chronicle.Entry.TheVariants as entry
use Rattle.collector_core.specs.declared.chronicle.Mark.{Mark}
use Rattle.swima_model.specs.History.{Epoch}
use Rattle.swima_model.specs.Live.{live}
use Rattle.collector_core.specs.Chronicle.{Chronicle, current, epoch_after, extended, live_now}
use Rattle.collector_core.specs.Desks.{entries, owned}
use Rattle.collector_core.specs.Standing.{alteration, creation, deletion}
use Rattle.collector_core.proofs.Chronicles.{current_more}
use Rattle.source_set.specs.Deeds.{Alters, Creates, Deed, Deletes, GivesUp, Make}
use Rattle.source_set.specs.Records.{DeedsAreRecorded, IsOf, LeftAlone, as_record, content_after}

abbrev named : ℕ → Content → Record
named id content = record { id = id; content = content }

-- ---- one entry

abbrev live_at : Epoch → List Record
live_at epoch = live epoch.base epoch.events

after_is : (chronicle : Chronicle) (x : Entry) (id : ℕ) → record_of id (live_now (extended chronicle (x ∷ []))) ≡ record_of id (live_at (epoch_after (current chronicle) x))
after_is chronicle x id = ap (λ (e : Epoch). record_of id (live_at e)) (current_more chronicle x)

mention : (chronicle : Chronicle) (event : Event) (id : ℕ) (test : Bool) → eqb event.subject.id id ≡ test
    → record_of id (live_now (extended chronicle (entry.Event event ∷ [])))
    ≡ by_mention (record_of id (current chronicle).base) (later_or (cond test (Some event) None) (last_mention id (current chronicle).events))
mention chronicle event id test is =
    after_is chronicle (entry.Event event) id ∙ live_of id (current chronicle).base ((current chronicle).events ++ event ∷ [])
    ∙ ap (λ (m : Option Event). by_mention (record_of id (current chronicle).base) m)
    (mention_push id (current chronicle).events event ∙ ap (λ (t : Bool). later_or (cond t (Some event) None) (last_mention id (current chronicle).events)) is)

-- An event of another record changes nothing of this one, and no more does an epoch or a trim.
pub stays : (chronicle : Chronicle) (x : Entry) (id : ℕ) → (IsOf id x → ⊥) → record_of id (live_now (extended chronicle (x ∷ []))) ≡ record_of id (live_now chronicle)
stays chronicle (entry.Event event) id other =
    mention chronicle event id false (ne_eqb event.subject.id id other) ∙ sym (live_of id (current chronicle).base (current chronicle).events)
stays chronicle (entry.Epoch number) id other = after_is chronicle (entry.Epoch number) id ∙ live_of id (live_now chronicle) []
stays chronicle (entry.Trim first) id other = after_is chronicle (entry.Trim first) id

-- An event of this record says what it is.
pub becomes : (chronicle : Chronicle) (event : Event) (id : ℕ) → event.subject.id ≡ id
    → record_of id (live_now (extended chronicle (entry.Event event ∷ []))) ≡ cond (is_deletion event.action) None (Some event.subject)
becomes chronicle event id is = mention chronicle event id true (eq-eqb event.subject.id id is)

-- ---- one deed

-- The entry is the one that the deed makes.
abbrev pub MakesOne : List ℕ → Deed → Entry → Type 0
MakesOne stamp deed made = Make stamp (deed ∷ []) (made ∷ [])

no_entry : (made : Entry) → made ∷ [] ≡ [] → ⊥
no_entry made is = absurd cc

told_id-step : (id : ℕ) (r : Record) (rs : List Record) (held : Record) (test : Bool) → eqb r.id id ≡ test → cond test (Some r) (record_of id rs) ≡ Some held
    → (record_of id rs ≡ Some held → held.id ≡ id) → held.id ≡ id
told_id-step id r rs held true is found later = let same : r ≡ held = cc in ap (λ (x : Record). x.id) (sym same) ∙ eqb-true r.id id is
told_id-step id r rs held false is found later = later found

told_id : (id : ℕ) (records : List Record) (held : Record) → record_of id records ≡ Some held → held.id ≡ id
told_id id [] held is = absurd cc
told_id id (r ∷ rs) held is = told_id-step id r rs held (eqb r.id id) refl is (told_id id rs held)

one_step : (chronicle : Chronicle) (made : Entry) (at id : ℕ) (content : Content) (held : Option Content) (event : Event) → made ≡ entry.Event event → event.subject ≡ record { id = at; content = content }
    → is_deletion event.action ≡ false → record_of id (live_now chronicle) ≡ as_record id held
    → record_of id (live_now (extended chronicle (made ∷ []))) ≡ as_record id (cond (eqb at id) (Some content) held)
one_step chronicle made at id content held event is subject alive before = elim (cases_eq at id) [
  | inl same ↦
      ap (λ (x : Entry). record_of id (live_now (extended chronicle (x ∷ [])))) is ∙ becomes chronicle event id (ap (λ (r : Record). r.id) subject ∙ same)
      ∙ ap (λ (t : Bool). cond t None (Some event.subject)) alive ∙ ap (λ (r : Record). Some r) subject ∙ ap (λ (n : ℕ). as_record n (Some content)) same
      ∙ ap (λ (t : Bool). as_record id (cond t (Some content) held)) (sym (eq-eqb at id same))
  | inr other ↦
      ap (λ (x : Entry). record_of id (live_now (extended chronicle (x ∷ [])))) is ∙ stays chronicle (entry.Event event) id (λ e. other (sym (ap (λ (r : Record). r.id) subject) ∙ e))
      ∙ before ∙ ap (λ (t : Bool). as_record id (cond t (Some content) held)) (sym (ne_eqb at id other))
]

gone_step : (chronicle : Chronicle) (made : Entry) (at id : ℕ) (held : Option Content) (event : Event) → made ≡ entry.Event event → event.subject.id ≡ at
    → is_deletion event.action ≡ true → record_of id (live_now chronicle) ≡ as_record id held
    → record_of id (live_now (extended chronicle (made ∷ []))) ≡ as_record id (cond (eqb at id) None held)
gone_step chronicle made at id held event is subject gone before = elim (cases_eq at id) [
  | inl same ↦
      ap (λ (x : Entry). record_of id (live_now (extended chronicle (x ∷ [])))) is ∙ becomes chronicle event id (subject ∙ same)
      ∙ ap (λ (t : Bool). cond t None (Some event.subject)) gone ∙ ap (λ (t : Bool). as_record id (cond t None held)) (sym (eq-eqb at id same))
  | inr other ↦
      ap (λ (x : Entry). record_of id (live_now (extended chronicle (x ∷ [])))) is ∙ stays chronicle (entry.Event event) id (λ e. other (sym subject ∙ e))
      ∙ before ∙ ap (λ (t : Bool). as_record id (cond t None held)) (sym (ne_eqb at id other))
]

-- The record is what the deed leaves of it.
pub deed_step : (stamp : List ℕ) (chronicle : Chronicle) (deed : Deed) (made : Entry) (id : ℕ) (held : Option Content) → MakesOne stamp deed made
    → record_of id (live_now chronicle) ≡ as_record id held → record_of id (live_now (extended chronicle (made ∷ []))) ≡ as_record id (content_after id held deed)
deed_step stamp chronicle GivesUp made id held makes is = absurd (no_entry made makes)
deed_step stamp chronicle (Creates new content) made id held makes is =
    one_step chronicle made new id content held (creation makes.0.0 new stamp content) makes.0.1 refl refl is
deed_step stamp chronicle (Alters altered content) made id held makes is =
    one_step chronicle made altered id content held (alteration makes.0.0 stamp altered content) makes.0.1 refl refl is
deed_step stamp chronicle (Deletes deleted) made id held makes is =
    let gone = makes.0.2 in
    gone_step chronicle made deleted id held (deletion makes.0.0 stamp gone.0) gone.2 (told_id deleted makes.0.1 gone.0 gone.1) refl is

-- ---- identifiers of deeds

-- Each creation is of an identifier above those before it, the first of at least this one.
abbrev pub Fresh : ℕ → List Deed → Type 0
Fresh n [] = Unit {0}
Fresh n (Creates id content ∷ others) = (n ≤ id) × Fresh (id + 1) others
Fresh n (Alters id content ∷ others) = Fresh n others
Fresh n (Deletes id ∷ others) = Fresh n others
Fresh n (GivesUp ∷ others) = Fresh n others

no_entries : (made : Entry) (more : List Entry) → made ∷ more ≡ [] → ⊥
no_entries made more is = absurd cc

-- ---- deeds one after another

-- The first deed that makes an entry, and those after it.
pub record First (stamp : List ℕ) (done : List Deed) (made : Entry) (more : List Entry) : Type 0 where
  pub deed : Deed
  pub later : List Deed
  pub one : MakesOne stamp deed made
  pub rest : Make stamp later more
  pub same : (id : ℕ) (held : Option Content) → fold (content_after id) held done ≡ fold (content_after id) (content_after id held deed) later
  pub fresh : (n : ℕ) → Fresh n (deed ∷ later) → Fresh n done

pub first : (stamp : List ℕ) (done : List Deed) (made : Entry) (more : List Entry) → Make stamp done (made ∷ more) → First stamp done made more
first stamp [] made more makes = absurd (no_entries made more makes)
first stamp (GivesUp ∷ others) made more makes =
    let one = first stamp others made more makes in
    record { deed = one.deed; later = one.later; one = one.one; rest = one.rest; same = λ id held. one.same id held; fresh = λ n f. one.fresh n f }
first stamp (Creates id content ∷ others) made more makes =
    record { deed = Creates id content; later = others; one = (makes.0, refl); rest = makes.1; same = λ id held. refl; fresh = λ n f. f }
first stamp (Alters id content ∷ others) made more makes =
    record { deed = Alters id content; later = others; one = (makes.0, refl); rest = makes.1; same = λ id held. refl; fresh = λ n f. f }
first stamp (Deletes id ∷ others) made more makes =
    record { deed = Deletes id; later = others; one = (makes.0, refl); rest = makes.1; same = λ id held. refl; fresh = λ n f. f }

-- Deeds that make no entry leave all as it was.
nothing : (stamp : List ℕ) (done : List Deed) (id : ℕ) (held : Option Content) → Make stamp done [] → fold (content_after id) held done ≡ held
nothing stamp [] id held makes = refl
nothing stamp (GivesUp ∷ others) id held makes = nothing stamp others id held makes
nothing stamp (Creates new content ∷ others) id held makes = absurd makes
nothing stamp (Alters altered content ∷ others) id held makes = absurd makes
nothing stamp (Deletes deleted ∷ others) id held makes = absurd makes

pub further : (chronicle : Chronicle) (x : Entry) (xs : List Entry) → extended (extended chronicle (x ∷ [])) xs ≡ extended chronicle (x ∷ xs)
further chronicle x xs = ap (λ (es : List Entry). record chronicle { entries = es }) (append_assoc chronicle.entries (x ∷ []) xs)

recorded-step : (stamp : List ℕ) (chronicle : Chronicle) (mark : Mark) (later : List Mark) (done : List Deed) (id : ℕ) (held : Option Content) (test : Bool) → mark.own ≡ test
    → Make stamp done (entries (cond test (mark ∷ filter (λ (m : Mark). m.own) later) (filter (λ (m : Mark). m.own) later))) → LeftAlone id (mark ∷ later)
    → record_of id (live_now chronicle) ≡ as_record id held
    → ((before : Chronicle) (next : List Deed) (content : Option Content) → Make stamp next (owned later) → LeftAlone id later → record_of id (live_now before) ≡ as_record id content
    → record_of id (live_now (extended before (entries later))) ≡ as_record id (fold (content_after id) content next))
    → record_of id (live_now (extended chronicle (entries (mark ∷ later)))) ≡ as_record id (fold (content_after id) held done)
recorded-step stamp chronicle mark later done id held true own makes alone before rest =
    let one = first stamp done mark.entry (owned later) makes in
    let now = deed_step stamp chronicle one.deed mark.entry id held one.one before in
    ap (λ (c : Chronicle). record_of id (live_now c)) (sym (further chronicle mark.entry (entries later)))
    ∙ rest (extended chronicle (mark.entry ∷ [])) one.later (content_after id held one.deed) one.rest alone.1 now ∙ ap (λ (c : Option Content). as_record id c) (sym (one.same id held))
recorded-step stamp chronicle mark later done id held false own makes alone before rest =
    let now = stays chronicle mark.entry id (alone.0 own) ∙ before in
    ap (λ (c : Chronicle). record_of id (live_now c)) (sym (further chronicle mark.entry (entries later)))
    ∙ rest (extended chronicle (mark.entry ∷ [])) done held makes alone.1 now

pub deeds_are_recorded : DeedsAreRecorded
deeds_are_recorded stamp chronicle [] done id held makes alone before =
    ap (λ (es : List Entry). record_of id (live_now (record chronicle { entries = es }))) (append-nil chronicle.entries) ∙ before
    ∙ ap (λ (c : Option Content). as_record id c) (sym (nothing stamp done id held makes))
deeds_are_recorded stamp chronicle (mark ∷ later) done id held makes alone before =
    recorded-step stamp chronicle mark later done id held mark.own refl makes alone before (λ c next content. deeds_are_recorded stamp c later next id content)

-- What is known of a record is its content.
known-step : (id : ℕ) (records : List Record) (o : Option Record) → record_of id records ≡ o → o ≡ as_record id (option_map (λ (r : Record). r.content) o)
known-step id records None is = refl
known-step id records (Some r) is = ap (λ (n : ℕ). Some (named n r.content)) (told_id id records r is)

pub known_record : (id : ℕ) (records : List Record) → record_of id records ≡ as_record id (option_map (λ (r : Record). r.content) (record_of id records))
known_record id records = known-step id records (record_of id records) refl
