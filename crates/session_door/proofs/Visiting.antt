-- The visits of a worker, one after another.
use Rattle.std.proofs.Common.{◌≡◌, ◌<◌, ◌≤◌, ◌+◌, ◌-◌, le_trans, ◌++◌, ◌||◌, ◌∙◌, ℕ, zero, suc, Bool, true, false, List, [], ◌∷◌, Option, Some, None, Err, length, refl, sym, ap, subst, arith, nat_lt, lt-ltb}
use Rattle.std.specs.Option.{option_map}
use Rattle.std.proofs.lemmas.List.Folds.{list_any-append}
use Rattle.std.proofs.lemmas.List.{map-append}
use Rattle.wire_base.specs.Doors.{LastCame, LinkCame, NoMoreCame, FaultCame}
use Rattle.wire_base.specs.Outside.{Adds, HasCause, Moves, NothingLeft, Rose}
use Rattle.wire_base.proofs.Streams.{adds_more, adds_none, moves_more, moves_none}
use Rattle.session_rules.specs.declared.end.SessionEnd.{SessionEnd}
use Rattle.session_rules.specs.declared.record.SessionRecord.{SessionRecord}
use Rattle.session_core.specs.Driving.{is_link_fault}
use Rattle.session_door.specs.declared.work.Stop.{Stop}
use Rattle.session_door.specs.declared.work.Stop.TheVariants as stop
use Rattle.session_door.specs.declared.work.Work.{Work}
use Rattle.session_door.specs.Visits.{DoorState, Noted, Notes, Stops, Visit, VisitsEach, VisitsLink, VisitsNext, VisitsOne, Works, all_noted, is_failed, last_after, links_came, links_went, some_fault}
use Rattle.session_door.proofs.Counting.{calm, cause_then}

-- What the last answer is, where it was a link after every visit so far.
last_none : (last : Option LastCame) → last ≡ option_map (last_after 0) last
last_none None = refl
last_none (Some was) = refl

last_more : (count : ℕ) (before mid after : Option LastCame) → mid ≡ option_map (last_after count) before → after ≡ option_map (λ _. LinkCame) mid → after ≡ option_map (λ _. LinkCame) before
last_more count None mid after is more = more ∙ ap (λ (o : Option LastCame). option_map (λ _. LinkCame) o) is
last_more count (Some was) mid after is more = more ∙ ap (λ (o : Option LastCame). option_map (λ _. LinkCame) o) is

last_then : (to : LastCame) (count : ℕ) (before mid after : Option LastCame) → mid ≡ option_map (last_after count) before → after ≡ option_map (λ _. to) mid → after ≡ option_map (λ _. to) before
last_then to count None mid after is more = more ∙ ap (λ (o : Option LastCame). option_map (λ _. to) o) is
last_then to count (Some was) mid after is more = more ∙ ap (λ (o : Option LastCame). option_map (λ _. to) o) is

module _ {O L : Type 0} (held : O → O → L → L → SessionRecord → SessionEnd → Type 0) (faults : L → ℕ) where
  pub each_more : (before mid after : O) (visits : List (Visit L)) (visit : Visit L) → VisitsEach held faults before visits mid → VisitsOne held faults mid after visit
      → VisitsEach held faults before (visits ++ visit ∷ []) after
  each_more before mid after [] visit each one = (after, subst (λ (o : O). VisitsOne held faults o after visit) each one, refl)
  each_more before mid after (first ∷ visits) visit each one = (each.0, each.1, each_more each.0 mid after visits visit each.2 one)

  -- The visits so far.
  pub record SoFar (before : O) (door : DoorState L) (after : O) (later : DoorState L) (ends : List Noted) : Type 0 where
    pub visits : List (Visit L)
    pub each : VisitsEach held faults before visits after
    pub noted : ends ≡ all_noted visits
    pub came : Moves door.left later.left (links_came visits)
    pub went : Adds door.returned later.returned (links_went visits)
    pub last : later.last ≡ option_map (last_after (length visits)) door.last
    pub cause : HasCause door.faults later.faults (some_fault ends)

  pub none_yet : (before : O) (door : DoorState L) → SoFar before door before door []
  none_yet before door = record {
    visits = [];
    each = refl;
    noted = refl;
    came = moves_none door.left;
    went = adds_none door.returned;
    last = last_none door.last;
    cause = calm door.faults;
  }

  -- A fault of a link that had none.
  faulty : (before after : ℕ) (failed : Bool) → before ≡ 0 → HasCause before after failed → failed ≡ nat_lt 0 after
  faulty before after true fresh cause = sym (lt-ltb 0 after (above before after fresh cause.cause))
    where
      above : (n m : ℕ) → n ≡ 0 → Rose n m → 0 < m
      above n m none rose = omega (arith, none, rose)
  faulty before after false fresh cause = sym (ap (λ (n : ℕ). nat_lt 0 n) (cause.cause ∙ fresh))

  -- A link came, a session was held on it, and it went back.
  pub visited : (before after : O) (came went : L) (noted : Noted) (door one two : DoorState L) → held before after came went noted.0 noted.1 → faults came ≡ 0
      → HasCause (faults came) (faults went) (is_link_fault noted.1) → Moves door.left one.left (came ∷ []) → one.returned ≡ door.returned → one.last ≡ option_map (λ _. LinkCame) door.last
      → HasCause door.faults one.faults false → Adds one.returned two.returned (went ∷ []) → two.left ≡ one.left → two.last ≡ one.last → HasCause one.faults two.faults (nat_lt 0 (faults went))
      → VisitsLink held faults before door after two noted
  visited before after came went noted door one two session fresh ended moves same last calm-so adds left kept cause =
      let fault : is_link_fault noted.1 ≡ nat_lt 0 (faults went) = faulty (faults came) (faults went) (is_link_fault noted.1) fresh ended in record {
        visit = record { came = came; went = went; noted = noted };
        one = record { session = session; fresh = fresh; cause = fault };
        is = refl;
        came = subst (λ (o : Option (List L)). Moves door.left o (came ∷ [])) (sym left) moves;
        went = subst (λ (o : Option (List L)). Adds o two.returned (went ∷ [])) same adds;
        last = kept ∙ last;
        cause = subst (HasCause door.faults two.faults) (sym fault) (cause_then door.faults one.faults two.faults false (nat_lt 0 (faults went)) calm-so cause);
      }

  link_last : (count : ℕ) (last : Option LastCame) → option_map (λ _. LinkCame) last ≡ option_map (last_after (suc count)) last
  link_last count None = refl
  link_last count (Some was) = refl

  longer : (visits : List (Visit L)) (visit : Visit L) → length (visits ++ visit ∷ []) ≡ suc (length visits)
  longer [] visit = refl
  longer (first ∷ visits) visit = ap suc (longer visits visit)

  pub one_more : (before mid after : O) (door between later : DoorState L) (ends : List Noted) (noted : Noted) → SoFar before door mid between ends
      → VisitsLink held faults mid between after later noted → SoFar before door after later (ends ++ noted ∷ [])
  one_more before mid after door between later ends noted far link = record {
    visits = far.visits ++ link.visit ∷ [];
    each = each_more before mid after far.visits link.visit far.each link.one;
    noted = ap (λ (es : List Noted). es ++ noted ∷ []) far.noted ∙ ap (λ (n : Noted). all_noted far.visits ++ n ∷ []) link.is ∙ sym (map-append (λ (visit : Visit L). visit.noted) far.visits (link.visit ∷ []));
    came = subst (Moves door.left later.left) (sym (map-append (λ (visit : Visit L). visit.came) far.visits (link.visit ∷ []))) (moves_more door.left between.left later.left (links_came far.visits) (link.visit.came ∷ []) far.came link.came);
    went = subst (Adds door.returned later.returned) (sym (map-append (λ (visit : Visit L). visit.went) far.visits (link.visit ∷ []))) (adds_more door.returned between.returned later.returned (links_went far.visits) (link.visit.went ∷ []) far.went link.went);
    last = last_more (length far.visits) door.last between.last later.last far.last link.last ∙ link_last (length far.visits) door.last ∙ ap (λ (n : ℕ). option_map (last_after n) door.last) (sym (longer far.visits link.visit));
    cause = subst (HasCause door.faults later.faults) (faults_more ends noted) (cause_then door.faults between.faults later.faults (some_fault ends) (is_link_fault noted.1) far.cause link.cause);
  }
    where
      or_none : (b c : Bool) → (b || c) ≡ (b || (c || false))
      or_none true c = refl
      or_none false true = refl
      or_none false false = refl

      faults_more : (es : List Noted) (n : Noted) → (some_fault es || is_link_fault n.1) ≡ some_fault (es ++ n ∷ [])
      faults_more es n = or_none (some_fault es) (is_link_fault n.1) ∙ sym (list_any-append (λ (noted : Noted). is_link_fault noted.1) es (n ∷ []))

  -- None came, so none was noted.
  pub none_came : (before after : O) (door later : DoorState L) (ends longer : List Noted) → longer ≡ ends → (why : Stop) → VisitsNext held faults before door after later (Err why)
      → Notes held faults before door ends after later longer (Err why)
  none_came before after door later ends longer same stop.Ended none = (none, same)
  none_came before after door later ends longer same stop.Failed none = (none, same)
  none_came before after door later ends longer same stop.Done none = absurd none
  none_came before after door later ends longer same stop.Memory none = absurd none

  -- One more was noted.
  pub noted_more : (before mid after : O) (door between later : DoorState L) (ends longer : List Noted) → SoFar before door mid between ends
      → ((noted : Noted) × VisitsLink held faults mid between after later noted × (longer ≡ ends ++ noted ∷ [])) → SoFar before door after later longer
  noted_more before mid after door between later ends longer far more =
      subst (SoFar before door after later) (sym more.2) (one_more before mid after door between later ends more.0 far more.1)

  counts : (visits : List (Visit L)) (ends : List Noted) → ends ≡ all_noted visits → length visits ≡ length ends
  counts visits ends is = sym (ap length is ∙ noted_length visits)
    where
      noted_length : (vs : List (Visit L)) → length (all_noted vs) ≡ length vs
      noted_length [] = refl
      noted_length (v ∷ vs) = ap suc (noted_length vs)

  module _ (sessions : ℕ) (before mid : O) (door between : DoorState L) (ends : List Noted) (far : SoFar before door mid between ends) (work : Work) (is : work.ends ≡ ends) where
    ends_so : work.ends ≡ all_noted far.visits
    ends_so = is ∙ far.noted

    -- All sessions were held.
    pub held_all : work.stop ≡ stop.Done → length ends ≡ sessions → 0 < sessions → Works held faults sessions before door mid between work
    held_all why count some = record {
      visits = far.visits;
      each = far.each;
      ends = ends_so;
      came = far.came;
      went = far.went;
      stops = subst (λ (s : Stop). Stops sessions (length far.visits) s door between) (sym why) (counts far.visits ends far.noted ∙ count, some_came (length far.visits) (omega (arith, counts far.visits ends far.noted, count, some)) far.last);
      cause = subst (λ (s : Stop). HasCause door.faults between.faults (is_failed s || some_fault work.ends)) (sym why) (subst (λ (es : List Noted). HasCause door.faults between.faults (some_fault es)) (sym is) far.cause);
    }
      where
        some_came : (n : ℕ) → 0 < n → between.last ≡ option_map (last_after n) door.last → between.last ≡ option_map (λ _. LinkCame) door.last
        some_came zero none last = absurd (omega (arith, none))
        some_came (suc n) some last = last ∙ sym (link_last n door.last)

    -- Memory ran out.
    pub ran_out : work.stop ≡ stop.Memory → length ends < sessions → Works held faults sessions before door mid between work
    ran_out why fewer = record {
      visits = far.visits;
      each = far.each;
      ends = ends_so;
      came = far.came;
      went = far.went;
      stops = subst (λ (s : Stop). Stops sessions (length far.visits) s door between) (sym why) (omega (arith, counts far.visits ends far.noted, fewer), far.last);
      cause = subst (λ (s : Stop). HasCause door.faults between.faults (is_failed s || some_fault work.ends)) (sym why) (subst (λ (es : List Noted). HasCause door.faults between.faults (some_fault es)) (sym is) far.cause);
    }

    -- The door had no further link.
    pub had_no_more : (after : O) (later : DoorState L) → work.stop ≡ stop.Ended → length ends < sessions → (after ≡ mid) × (later.left ≡ between.left) × NothingLeft between.left × (later.returned ≡ between.returned)
        × (later.last ≡ option_map (λ _. NoMoreCame) between.last) × (later.faults ≡ between.faults) → Works held faults sessions before door after later work
    had_no_more after later why fewer none = record {
      visits = far.visits;
      each = subst (VisitsEach held faults before far.visits) (sym none.0) far.each;
      ends = ends_so;
      came = subst (λ (o : Option (List L)). Moves door.left o (links_came far.visits)) (sym none.1) far.came;
      went = subst (λ (o : Option (List L)). Adds door.returned o (links_went far.visits)) (sym none.3) far.went;
      stops = subst (λ (s : Stop). Stops sessions (length far.visits) s door later) (sym why) (omega (arith, counts far.visits ends far.noted, fewer), last_then NoMoreCame (length far.visits) door.last between.last later.last far.last none.4, subst NothingLeft (sym none.1) none.2);
      cause = subst (λ (s : Stop). HasCause door.faults later.faults (is_failed s || some_fault work.ends)) (sym why) (subst (λ (es : List Noted). HasCause door.faults later.faults (some_fault es)) (sym is) (subst (λ (n : ℕ). HasCause door.faults n (some_fault ends)) (sym none.5) far.cause));
    }

    -- The door failed.
    pub had_failed : (after : O) (later : DoorState L) → work.stop ≡ stop.Failed → length ends < sessions → (after ≡ mid) × (later.left ≡ between.left) × (later.returned ≡ between.returned)
        × (later.last ≡ option_map (λ _. FaultCame) between.last) × HasCause between.faults later.faults true → Works held faults sessions before door after later work
    had_failed after later why fewer none = record {
      visits = far.visits;
      each = subst (VisitsEach held faults before far.visits) (sym none.0) far.each;
      ends = ends_so;
      came = subst (λ (o : Option (List L)). Moves door.left o (links_came far.visits)) (sym none.1) far.came;
      went = subst (λ (o : Option (List L)). Adds door.returned o (links_went far.visits)) (sym none.2) far.went;
      stops = subst (λ (s : Stop). Stops sessions (length far.visits) s door later) (sym why) (omega (arith, counts far.visits ends far.noted, fewer), last_then FaultCame (length far.visits) door.last between.last later.last far.last none.3);
      cause = subst (λ (s : Stop). HasCause door.faults later.faults (is_failed s || some_fault work.ends)) (sym why) (record {
        later = le_trans far.cause.later none.4.later;
        cause = rises far.cause.later none.4.cause;
      });
    }
      where
        rises : {a b c : ℕ} → a ≤ b → Rose b c → Rose a c
        rises up rose = omega (arith, up, rose)

  module _ (sessions : ℕ) (before mid after : O) (door between later : DoorState L) (ends longer : List Noted) (far : SoFar before door mid between ends) (fewer : length ends < sessions) where
    -- None was noted, for this reason.
    pub noted_none : (why : Stop) → Notes held faults mid between ends after later longer (Err why) → Works held faults sessions before door after later (record { ends = longer; stop = why })
    noted_none stop.Memory none =
        subst (λ (o : O). Works held faults sessions before door o later (record { ends = longer; stop = stop.Memory })) (sym none.0)
        (subst (λ (d : DoorState L). Works held faults sessions before door mid d (record { ends = longer; stop = stop.Memory })) (sym none.1)
        (ran_out sessions before mid door between ends far (record { ends = longer; stop = stop.Memory }) none.2 refl fewer))
    noted_none stop.Ended none = had_no_more sessions before mid door between ends far (record { ends = longer; stop = stop.Ended }) none.1 after later refl fewer none.0
    noted_none stop.Failed none = had_failed sessions before mid door between ends far (record { ends = longer; stop = stop.Failed }) none.1 after later refl fewer none.0
    noted_none stop.Done none = absurd none.0
