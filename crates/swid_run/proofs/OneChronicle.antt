-- What is collected is one chronicle: it begins without an entry, and has the entries of the sweeps
-- and no others. The sessions are sessions over it.
use Rattle.std.proofs.Common.{◌≡◌, ◌≤◌, ◌+◌, ◌++◌, ◌∙◌, inl, inr, ℕ, suc, Bool, true, false, List, [], ◌∷◌, Option, Result, Ok, Err, get_or, length, length-append, refl, sym, ap, subst, append_assoc, append-nil, le_trans, true≢false, arith}
use Rattle.std.specs.Prelude.{is_err}
use Rattle.atomic_table.specs.Seated.{TableId}
use Rattle.wire_base.specs.Turns.{Turn}
use Rattle.wire_base.specs.declared.outside.stopped.Stopped.{Stopped}
use Rattle.wire_base.specs.declared.outside.stopped.Stopped.TheVariants as stopped
use Rattle.wire_base.specs.declared.values.memory.Memory.{Memory}
use Rattle.collector_core.specs.declared.chronicle.Entry.{Entry}
use Rattle.collector_core.specs.declared.chronicle.Mark.{Mark}
use Rattle.collector_core.specs.BookDesk.{entries_append, own_append}
use Rattle.collector_core.specs.Chronicle.{Chronicle, extended}
use Rattle.collector_core.specs.Desks.{AreOthers, AreOwn, entries}
use Rattle.collector_core.specs.Legal.{IsLegal}
use Rattle.collector_core.specs.Standing.{BookView, Stands}
use Rattle.book_lock.specs.Logs.{LegalWith}
use Rattle.book_lock.specs.Passes.{Closes, Grows, PassStands, PassView, PassWent, as_others, split_from}
use Rattle.source_set.specs.declared.told.Told.{Told}
use Rattle.source_sweeps.specs.Sweepings.{SweepState, sweeping}
use Rattle.session_rules.specs.declared.config.ServeConfig.{ServeConfig}
use Rattle.session_door.specs.declared.work.Work.{Work}
use Rattle.session_door.specs.Serving.{EachOver}
use Rattle.session_door.specs.Visits.{DoorState, Visit}
use Rattle.session_pool.specs.declared.pool.Served.{Served}
use Rattle.session_pool.specs.Servers.{ServesAll, ServesAndSweeps, ServesDoor}
use Rattle.session_pool.proofs.Sweeping.{Went, went_first}
use Rattle.command_options.specs.declared.collect.CollectOptions.{CollectOptions}
use Rattle.command_text.specs.declared.ending.Ending.{Ending}
use Rattle.swid_run.specs.Collecting.{CollectState, Collects, PrintsIfServed, PrintsServed, RunsCollect, beginning, chronicle_of, opening, pool_config}

-- ---- entries

entries_as_others : (seen : List Mark) → entries (as_others seen) ≡ entries seen
entries_as_others [] = refl
entries_as_others (mark ∷ seen) = ap (λ (later : List Entry). mark.entry ∷ later) (entries_as_others seen)

entries_length : (marks : List Mark) → length (entries marks) ≡ length marks
entries_length [] = refl
entries_length (mark ∷ marks) = ap suc (entries_length marks)

-- Entries that are own and others' are none.
none_both : (marks : List Mark) → AreOwn marks → AreOthers marks → marks ≡ []
none_both [] own others = refl
none_both (mark ∷ marks) own others = absurd (differ mark.own own.0 others.0)
  where
    differ : (b : Bool) → b ≡ true → b ≡ false → ⊥
    differ b is not = absurd cc

-- ---- the pass of the sweeps

-- From a pass that alone may change and has seen nothing: all that it sees later is its own.
sees_own : (before after : PassView) (marks : List Mark) → before.sole ≡ true → AreOwn before.seen → PassWent before marks after → AreOwn after.seen
sees_own before after marks sole own went = subst AreOwn (sym went.seen) (own_append before.seen marks own (went.alone sole))

-- It sees no entry of others.
sees_none : (before after : PassView) → before.sole ≡ true → Grows before after → after.seen ≡ before.seen
sees_none before after sole grows =
    grows.2.seen ∙ ap (λ (marks : List Mark). before.seen ++ marks) (none_both grows.0 (grows.2.alone sole) grows.1) ∙ append-nil before.seen

-- ---- sessions over the chronicle

-- Places up to one are up to a later one too.
over_later : {L : Type 0} (taken : L → Option (List Turn)) (given : L → Option (List ℕ)) (chronicle : Chronicle) (c : ServeConfig) (visits : List (Visit L)) (low high top : ℕ) → high ≤ top
    → EachOver taken given chronicle c low high visits → EachOver taken given chronicle c low top visits
over_later taken given chronicle c [] low high top more over = le_trans over more
over_later taken given chronicle c (visit ∷ later) low high top more over = (over.0, over.1, over_later taken given chronicle c later over.0 high top more over.2)

-- Of any doors, of which `state` is what they expose.
module _ {D L : Type 0} (taken : L → Option (List Turn)) (given : L → Option (List ℕ)) (faults : L → ℕ) (state : D → DoorState L) (c : CollectOptions) where
  -- A worker served over what `first` has seen. What it saw then is a prefix of what `done` has
  -- seen.
  module _ (first done : PassView) (stood : Stands first.start (beginning c)) (lawful : LegalWith first.start (entries first.seen)) where
    -- The pass that it was given stood for the chronicle.
    reader_stands : PassStands (split_from first false) (chronicle_of c first)
    reader_stands = record {
      before = beginning c;
      stood = stood;
      is = ap (λ (es : List Entry). extended (beginning c) es) (sym (entries_as_others first.seen));
      lawful = subst (LegalWith first.start) (sym (entries_as_others first.seen)) lawful;
    }

    module _ (before after : D) (work : Work) (so : ServesDoor taken given faults state (pool_config c) first done before after work) where
      -- All entries.
      whole : entries first.seen ++ (entries so.serves.over.others ++ so.rest) ≡ entries done.seen
      whole =
          sym (append_assoc (entries first.seen) (entries so.serves.over.others) so.rest)
          ∙ ap (λ (es : List Entry). (es ++ entries so.serves.over.others) ++ so.rest) (sym (entries_as_others first.seen))
          ∙ ap (λ (es : List Entry). es ++ so.rest) (sym (entries_append (as_others first.seen) so.serves.over.others))
          ∙ ap (λ (marks : List Mark). entries marks ++ so.rest) (sym so.serves.over.went.seen)
          ∙ sym so.saw

      over_all : EachOver taken given (chronicle_of c done) (pool_config c).serve (length (entries first.seen)) (length (entries first.seen) + length so.serves.over.others) so.serves.works.visits
      over_all =
          subst (λ (es : List Entry). EachOver taken given (record (beginning c) { entries = es }) (pool_config c).serve (length (entries first.seen)) (length (entries first.seen) + length so.serves.over.others) so.serves.works.visits) whole
          (so.serves.over.each (chronicle_of c first) so.rest reader_stands)

      far : length (entries first.seen) + length so.serves.over.others ≤ length (entries done.seen)
      far =
          let all : length (entries done.seen) ≡ length (entries first.seen) + length (entries so.serves.over.others ++ so.rest) = ap length (sym whole) ∙ length-append (entries first.seen) (entries so.serves.over.others ++ so.rest) in
          let later : length (entries so.serves.over.others ++ so.rest) ≡ length so.serves.over.others + length so.rest =
          length-append (entries so.serves.over.others) so.rest ∙ ap (λ (n : ℕ). n + length so.rest) (entries_length so.serves.over.others) in
          omega (arith, all, later)

      pub each_over : EachOver taken given (chronicle_of c done) (pool_config c).serve (length first.seen) (length done.seen) so.serves.works.visits
      each_over =
          subst (λ (low : ℕ). EachOver taken given (chronicle_of c done) (pool_config c).serve low (length done.seen) so.serves.works.visits) (entries_length first.seen)
          (over_later taken given (chronicle_of c done) (pool_config c).serve so.serves.works.visits (length (entries first.seen)) (length (entries first.seen) + length so.serves.over.others) (length done.seen)
          (omega (arith, far, entries_length done.seen)) over_all)

-- ---- all

-- A legal chronicle is so with no further entry.
still_lawful : (start : BookView) → LegalWith start []
still_lawful start chronicle stands = subst (λ (es : List Entry). IsLegal (record chronicle { entries = es })) (sym (append-nil chronicle.entries)) stands.legal

module _ {D L : Type 0} (taken : L → Option (List Turn)) (given : L → Option (List ℕ)) (faults : L → ℕ) (state : D → DoorState L) {B : Type 0} (reports : B → List Told → Type 0) (source_faults : B → ℕ)
    (c : CollectOptions) (before after : CollectState B D) (done : PassView) (served : Result Served Memory) (shelf : TableId) (stood : Stands (opening c shelf).start (beginning c))
    (serves : ServesAndSweeps taken given faults state reports source_faults (pool_config c) (sweeping before.sources (opening c shelf) before.moments) before.doors (sweeping after.sources done after.moments) after.doors served) where
  to_first : Went reports source_faults (sweeping before.sources (opening c shelf) before.moments) serves.first
  to_first = went_first reports source_faults (pool_config c).sweeps _ serves.first serves.last serves.total serves.stopped serves.sweeps

  alone : done.seen ≡ serves.last.desk.seen
  alone = sees_none serves.last.desk done (sym serves.met.2.sole ∙ serves.went.sole) serves.met

  first_stood : Stands serves.first.desk.start (beginning c)
  first_stood = subst (λ (start : BookView). Stands start (beginning c)) (sym to_first.1.start) stood

  done_stood : Stands done.start (beginning c)
  done_stood = subst (λ (start : BookView). Stands start (beginning c)) (sym serves.went.start) stood

  -- A book with which the shelf was closed represents the chronicle.
  pub closed_stands : (book : BookView) (last : PassView) → Closes done book last → Stands book (chronicle_of c done)
  closed_stands book last closes =
      let seen : last.seen ≡ done.seen = closes.grows.seen ∙ ap (λ (marks : List Mark). done.seen ++ marks) (closes.alone serves.went.sole) ∙ append-nil done.seen in
      subst (λ (marks : List Mark). Stands book (record (beginning c) { entries = entries marks })) seen
      (closes.stands (beginning c) done_stood)

  pub collects : (ended : Result Ending Stopped) → PrintsIfServed served (chronicle_of c done) before.output after.output ended → Collects taken given faults state reports source_faults c before after ended
  collects ended prints = record {
    shelf = shelf;
    done = done;
    served = served;
    serves = serves;
    alone = alone;
    swept = sees_own (opening c shelf) done serves.marks refl tt serves.went;
    legal = serves.went.lawful (still_lawful (opening c shelf).start) (beginning c) done_stood;
    each = λ place stand left work within.
        each_over taken given faults state c serves.first.desk done first_stood (to_first.1.lawful (still_lawful (opening c shelf).start)) (get_or before.doors place stand).door (get_or after.doors place left).door
        (get_or serves.works place work) (serves.serves.each place stand left work within);
    prints = prints;
  }

-- ---- by what the pool answered

-- The same objects as before.
same_state : {B D : Type 0} (before after : CollectState B D) → after.sources ≡ before.sources → after.moments ≡ before.moments → after.doors ≡ before.doors → after.output ≡ before.output → after ≡ before
same_state before after sources moments doors output = λ i. record { sources = sources i; moments = moments i; doors = doors i; output = output i }

not_ok : {A E : Type 0} (result : Result A E) (value : A) → result ≡ Ok value → is_err result ≡ true → ⊥
not_ok result value is error = true≢false (sym error ∙ ap is_err is)

module _ {D L : Type 0} (taken : L → Option (List Turn)) (given : L → Option (List ℕ)) (faults : L → ℕ) (state : D → DoorState L) {B : Type 0} (reports : B → List Told → Type 0) (source_faults : B → ℕ)
    (c : CollectOptions) (before after : CollectState B D) (ended : Result Ending Stopped) (shelf : TableId) (first done : PassView) (opened : first ≡ opening c shelf) (stood : Stands first.start (beginning c)) where
  abbrev ServesFrom : PassView → Result Served Memory → Type 0
  ServesFrom pass served =
      ServesAll taken given faults state reports source_faults (pool_config c) (sweeping before.sources pass before.moments) before.doors (sweeping after.sources done after.moments) after.doors served

  -- The pass is the opening of the shelf.
  from_opening : (served : Result Served Memory) → ServesFrom first served → ServesFrom (opening c shelf) served
  from_opening served serves = subst (λ (pass : PassView). ServesFrom pass served) opened serves

  opening_stood : Stands (opening c shelf).start (beginning c)
  opening_stood = subst (λ (pass : PassView). Stands pass.start (beginning c)) opened stood

  -- What came of it was printed.
  pub collects_ok : (served : Result Served Memory) (all : Served) (book : BookView) (last : PassView) → ServesFrom first served → served ≡ Ok all → Closes done book last
      → ((chronicle : Chronicle) → Stands book chronicle → PrintsServed all chronicle before.output after.output ended) → RunsCollect taken given faults state reports source_faults c before after ended
  collects_ok served all book last serves is closes prints = elim (from_opening served serves) [
    | inl during ↦ inl (collects taken given faults state reports source_faults c before after done served shelf opening_stood during ended
        (subst (λ (s : Result Served Memory). PrintsIfServed s (chronicle_of c done) before.output after.output ended) (sym is)
        (prints (chronicle_of c done) (closed_stands taken given faults state reports source_faults c before after done served shelf opening_stood during book last closes))))
    | inr none ↦ absurd (not_ok served all is none.0)
  ]

  -- Memory ran out, for a worker or before anything was done.
  pub collects_err : (served : Result Served Memory) (memory : Memory) → ServesFrom first served → served ≡ Err memory → after.output ≡ before.output → ended ≡ Err stopped.Memory
      → RunsCollect taken given faults state reports source_faults c before after ended
  collects_err served memory serves is same out = elim (from_opening served serves) [
    | inl during ↦ inl (collects taken given faults state reports source_faults c before after done served shelf opening_stood during ended
        (subst (λ (s : Result Served Memory). PrintsIfServed s (chronicle_of c done) before.output after.output ended) (sym is) (same, out)))
    | inr none ↦ inr (out, same_state before after (ap (λ (s : SweepState B PassView). s.sources) none.1) (ap (λ (s : SweepState B PassView). s.moments) none.1) none.2 same)
  ]
