-- Talks over a desk: a longer chronicle replies the same at its earlier places, so talks one after
-- another make one.
use Rattle.std.proofs.Common.{◌≡◌, ℕ, ◌+◌, ◌≤◌, List, [], ◌∷◌, ◌++◌, length, refl, sym, ap, subst, subst₂, ◌∙◌, append_assoc, append-nil, length-append, arith}
use Rattle.std.specs.Prelude.{map, OnOk, Ok, Err, Result}
use Rattle.std.specs.List.{AllByRecursion}
use Rattle.std.proofs.lemmas.List.{map-append}
use Rattle.collector_core.specs.declared.chronicle.Entry.{Entry}
use Rattle.collector_core.specs.declared.chronicle.Mark.{Mark}
use Rattle.collector_core.specs.BookDesk.{entries_append, extended_more}
use Rattle.collector_core.specs.Chronicle.{Chronicle, extended}
use Rattle.collector_core.specs.Desks.{Reads, Rise, Within, behind, entries}
use Rattle.collector_core.proofs.Marks.{others_append, rise_join, behind_within, behind_more, front_whole}
use Rattle.collector_core.proofs.Prefixes.{prefixes_stay}
use Rattle.session_talk.specs.Talk.{Talk, Done, Ask, and_then, quietly}
use Rattle.session_talk.specs.Course.{Agree, Gives, Breaks}
use Rattle.session_talk.proofs.Courses.{stopped, breaks_first, gives_then}
use Rattle.session_talk.proofs.Outcomes.{breaks_agree, gives_agree}
use Rattle.session_talk.proofs.Quiet.{breaks_after, breaks_after_quiet, gives_quietly}
use Rattle.session_rules.specs.Questions.{Question, Reply, reply_at, at_places}
use Rattle.session_rules.specs.Clauses.{Talks, Talked, Drafted, Spoken}

-- ---- replies of a longer chronicle

pub agree_longer : (chronicle : Chronicle) (further : List Entry) → Agree (length chronicle.entries) (at_places chronicle) (at_places (extended chronicle further))
agree_longer chronicle further place within question = ap (λ (c : Chronicle). reply_at c question) (sym (prefixes_stay chronicle further place within))

within_all : (most : ℕ) (places : List ℕ) → Within most places → AllByRecursion (λ (place : ℕ). place ≤ most) places
within_all most [] within = tt
within_all most (place ∷ places) within = (within.0, within_all most places within.1)

-- A talk with a chronicle is one with each longer chronicle.
pub gives_longer : {N A : Type 0} (chronicle : Chronicle) (further : List Entry) (talk : Talk Question Reply N A) (places out : List ℕ) (value : A) → Within (length chronicle.entries) places
    → Gives (at_places chronicle) talk places out value → Gives (at_places (extended chronicle further)) talk places out value
gives_longer chronicle further talk places out value within gives =
    gives_agree (length chronicle.entries) (at_places chronicle) (at_places (extended chronicle further)) talk places out value (agree_longer chronicle further) (within_all (length chronicle.entries) places within) gives

pub breaks_longer : {N A : Type 0} (chronicle : Chronicle) (further : List Entry) (last : N) (talk : Talk Question Reply N A) (places out : List ℕ) (noted : N) → Within (length chronicle.entries) places
    → Breaks (at_places chronicle) last talk places out noted → Breaks (at_places (extended chronicle further)) last talk places out noted
breaks_longer chronicle further last talk places out noted within breaks =
    breaks_agree (length chronicle.entries) (at_places chronicle) (at_places (extended chronicle further)) last talk places out noted (agree_longer chronicle further) (within_all (length chronicle.entries) places within) breaks

-- Places after a chronicle, and others after the longer one.
places_append : (chronicle : Chronicle) (xs : List Mark) (steps later : List ℕ) → behind chronicle steps ++ behind (extended chronicle (entries xs)) later ≡ behind chronicle (steps ++ map (λ (q : ℕ). length xs + q) later)
places_append chronicle xs steps later =
    ap (λ (ps : List ℕ). behind chronicle steps ++ ps) (behind_more chronicle xs later)
    ∙ sym (map-append (λ (step : ℕ). length chronicle.entries + step) steps (map (λ (q : ℕ). length xs + q) later))

-- ---- talks one after another

module _ {D : Type 0} (stands : D → Chronicle → Type 0) (went : D → List Mark → D → Type 0) where
  -- What holds of the talks makes other things hold.
  pub talks_as : (old new : D) (before after : List ℕ) (holds others : Chronicle → List ℕ → List ℕ → Type 0)
      → ((chronicle : Chronicle) (places out : List ℕ) → holds chronicle places out → others chronicle places out) → Talks stands went old new before after holds → Talks stands went old new before after others
  talks_as old new before after holds others so t = record {
    others = t.others;
    theirs = t.theirs;
    grows = t.grows;
    steps = t.steps;
    rise = t.rise;
    out = t.out;
    is = t.is;
    gives = λ chronicle stood. so (extended chronicle (entries t.others)) (behind chronicle t.steps) t.out (t.gives chronicle stood);
  }

  -- A desk to which nothing comes by itself, to which what came in two stretches came in both, and
  -- which stands for what it stood for with the entries that came.
  module _ (stays : (desk : D) → went desk [] desk) (follows : (one two three : D) (first second : List Mark) → went one first two → went two second three → went one (first ++ second) three)
      (carries : (old new : D) (marks : List Mark) (chronicle : Chronicle) → went old marks new → stands old chronicle → stands new (extended chronicle (entries marks))) where
    -- Nothing was asked and nothing written.
    pub talks_none : (desk : D) (before : List ℕ) (holds : Chronicle → List ℕ → List ℕ → Type 0) → ((chronicle : Chronicle) → holds chronicle [] []) → Talks stands went desk desk before before holds
    talks_none desk before holds so = record {
      others = [];
      theirs = tt;
      grows = stays desk;
      steps = [];
      rise = tt;
      out = [];
      is = sym (append-nil before);
      gives = λ chronicle stood. so (extended chronicle []);
    }

    -- A talk to its end, and then what holds after it.
    pub talks_then : {N A : Type 0} (old mid new : D) (before between after : List ℕ) (talk : Talk Question Reply N A) (value : A) (later whole : Chronicle → List ℕ → List ℕ → Type 0)
        → ((chronicle : Chronicle) (places more out rest : List ℕ) → Gives (at_places chronicle) talk places out value → later chronicle more rest → whole chronicle (places ++ more) (out ++ rest))
        → Talks stands went old mid before between (λ chronicle places out. Gives (at_places chronicle) talk places out value) → Talks stands went mid new between after later → Talks stands went old new before after whole
    talks_then old mid new before between after talk value later whole join one two = record {
      others = one.others ++ two.others;
      theirs = others_append one.others two.others one.theirs two.theirs;
      grows = follows old mid new one.others two.others one.grows two.grows;
      steps = one.steps ++ map (λ (q : ℕ). length one.others + q) two.steps;
      rise = subst (λ (n : ℕ). Rise 0 n (one.steps ++ map (λ (q : ℕ). length one.others + q) two.steps)) (sym (length-append one.others two.others)) (rise_join 0 (length one.others) (length two.others) one.steps two.steps (omega arith) one.rise two.rise);
      out = one.out ++ two.out;
      is = two.is ∙ ap (λ (o : List ℕ). o ++ two.out) one.is ∙ append_assoc before one.out two.out;
      gives = λ chronicle stood. joined chronicle stood;
    }
      where
        joined : (chronicle : Chronicle) → stands old chronicle
            → whole (extended chronicle (entries (one.others ++ two.others))) (behind chronicle (one.steps ++ map (λ (q : ℕ). length one.others + q) two.steps)) (one.out ++ two.out)
        joined chronicle stood =
            let longer : Chronicle = extended chronicle (entries one.others) in
            let first = gives_longer longer (entries two.others) talk (behind chronicle one.steps) one.out value (behind_within chronicle one.others 0 one.steps one.rise) (one.gives chronicle stood) in
            let second = two.gives longer (carries old mid one.others chronicle one.grows stood) in
            subst₂ (λ (c : Chronicle) (ps : List ℕ). whole c ps (one.out ++ two.out))
            (extended_more chronicle (entries one.others) (entries two.others) ∙ ap (λ (es : List Entry). extended chronicle es) (sym (entries_append one.others two.others)))
            (places_append chronicle one.others one.steps two.steps)
            (join (extended longer (entries two.others)) (behind chronicle one.steps) (behind longer two.steps) one.out two.out first second)

-- ---- a question

module _ {D : Type 0} (stands : D → Chronicle → Type 0) (went : D → List Mark → D → Type 0) where
  -- At the whole chronicle its own reply is given.
  reply_whole : (chronicle : Chronicle) (others : List Mark) (question : Question)
      → at_places (extended chronicle (entries others)) (length chronicle.entries + length others) question ≡ reply_at (extended chronicle (entries others)) question
  reply_whole chronicle others question = ap (λ (c : Chronicle). reply_at c question) (front_whole chronicle others)

  -- The desk was asked, and a talk that goes on by what is replied at the chronicle comes to its
  -- end.
  pub talks_asked : {N A : Type 0} (old new : D) (before : List ℕ) (question : Question) (talk : Reply question → Talk Question Reply N A) (value : A) (fact : Chronicle → Type 0)
      → ((chronicle : Chronicle) → fact chronicle → talk (reply_at chronicle question) ≡ Done value) → Reads stands went old new fact
      → Talks stands went old new before before (λ chronicle places out. Gives (at_places chronicle) (Ask question talk) places out value)
  talks_asked {N = N} {A = A} old new before question talk value fact so reads = record {
    others = reads.others;
    theirs = reads.theirs;
    grows = reads.grows;
    steps = length reads.others ∷ [];
    rise = (omega arith, omega arith, tt);
    out = [];
    is = sym (append-nil before);
    gives = λ chronicle stood.
        let longer : Chronicle = extended chronicle (entries reads.others) in
        subst (λ (t : Talk Question Reply N A). Gives (at_places longer) t [] [] value)
        (sym (ap talk (reply_whole chronicle reads.others question) ∙ so longer (reads.answers chronicle stood))) (refl, refl, refl);
  }

  -- It was asked, and memory ran out before anything was done about the reply.
  pub talks_lost : {N A : Type 0} (old new : D) (before : List ℕ) (last : N) (talk : Talk Question Reply N A) (fact : Chronicle → Type 0) → Reads stands went old new fact
      → Talks stands went old new before before (λ chronicle places out. Breaks (at_places chronicle) last talk places out last)
  talks_lost old new before last talk fact reads = record {
    others = reads.others;
    theirs = reads.theirs;
    grows = reads.grows;
    steps = [];
    rise = tt;
    out = [];
    is = sym (append-nil before);
    gives = λ chronicle stood. stopped (at_places (extended chronicle (entries reads.others))) last talk;
  }

  -- A call that asks once, and then does something that may want memory.
  pub drafted_asked : {A T E : Type 0} (old new : D) (question : Question) (talk : Reply question → Talk Question Reply (Unit {0}) A) (value : A) (result : Result T E) (fact : Chronicle → Type 0)
      → Reads stands went old new fact → OnOk result ((chronicle : Chronicle) → fact chronicle → talk (reply_at chronicle question) ≡ Done value)
      → Drafted stands went old new (Ask question talk) value result
  drafted_asked old new question talk value (Ok done) fact reads so = talks_asked old new [] question talk value fact so reads
  drafted_asked old new question talk value (Err error) fact reads so = talks_lost old new [] tt (Ask question talk) fact reads

  -- ---- talks that were drafted

  -- The first broke off, and so did both.
  pub talks_first : {N A B : Type 0} (old new : D) (before after : List ℕ) (last : N) (talk : Talk Question Reply N A) (next : A → Talk Question Reply N B) (noted : N)
      → Talks stands went old new before after (λ chronicle places out. Breaks (at_places chronicle) last talk places out noted)
      → Talks stands went old new before after (λ chronicle places out. Breaks (at_places chronicle) last (and_then talk next) places out noted)
  talks_first old new before after last talk next noted broke =
      talks_as stands went old new before after (λ chronicle places out. Breaks (at_places chronicle) last talk places out noted) (λ chronicle places out. Breaks (at_places chronicle) last (and_then talk next) places out noted)
      (λ chronicle places out off. breaks_first (at_places chronicle) last talk next places out noted off) broke

  module _ (stays : (desk : D) → went desk [] desk) (follows : (one two three : D) (first second : List Mark) → went one first two → went two second three → went one (first ++ second) three)
      (carries : (old new : D) (marks : List Mark) (chronicle : Chronicle) → went old marks new → stands old chronicle → stands new (extended chronicle (entries marks))) where
    -- A call that asks nothing.
    pub drafted_done : {A T E : Type 0} (desk : D) (talk : Talk Question Reply (Unit {0}) A) (value : A) (result : Result T E) → OnOk result (talk ≡ Done value) → Drafted stands went desk desk talk value result
    drafted_done {A = A} desk talk value (Ok done) is =
        talks_none stands went stays follows carries desk [] (λ chronicle places out. Gives (at_places chronicle) talk places out value)
        (λ chronicle. subst (λ (t : Talk Question Reply (Unit {0}) A). Gives (at_places chronicle) t [] [] value) (sym is) (refl, refl, refl))
    drafted_done desk talk value (Err error) is =
        talks_none stands went stays follows carries desk [] (λ chronicle places out. Breaks (at_places chronicle) tt talk places out tt) (λ chronicle. stopped (at_places chronicle) tt talk)

    -- Two calls.
    pub drafted_then : {A B T E : Type 0} (old mid new : D) (talk : Talk Question Reply (Unit {0}) A) (next : A → Talk Question Reply (Unit {0}) B) (value : A) (given : B) (result : Result T E)
        → Talks stands went old mid [] [] (λ chronicle places out. Gives (at_places chronicle) talk places out value)
        → Drafted stands went mid new (next value) given result → Drafted stands went old new (and_then talk next) given result
    drafted_then old mid new talk next value given (Ok done) one two =
        talks_then stands went stays follows carries old mid new [] [] [] talk value (λ chronicle places out. Gives (at_places chronicle) (next value) places out given)
        (λ chronicle places out. Gives (at_places chronicle) (and_then talk next) places out given)
        (λ chronicle places more out rest first second. gives_then (at_places chronicle) talk next places more out rest value given first second) one two
    drafted_then old mid new talk next value given (Err error) one two =
        talks_then stands went stays follows carries old mid new [] [] [] talk value (λ chronicle places out. Breaks (at_places chronicle) tt (next value) places out tt)
        (λ chronicle places out. Breaks (at_places chronicle) tt (and_then talk next) places out tt)
        (λ chronicle places more out rest first second. breaks_after (at_places chronicle) talk next places more out rest value first second) one two

    -- ---- a draft, and what is written of it

    -- Octets that were written before do not matter to a draft.
    moved_on : (old new : D) (before : List ℕ) {holds : Chronicle → List ℕ → List ℕ → Type 0} → Talks stands went old new [] [] holds → Talks stands went old new before before holds
    moved_on old new before {holds = holds} t =
        let none : t.out ≡ [] = sym t.is in
        record { others = t.others; theirs = t.theirs; grows = t.grows; steps = t.steps; rise = t.rise; out = t.out; is = sym (append-nil before) ∙ ap (λ (o : List ℕ). before ++ o) (sym none); gives = t.gives }

    -- The draft is there, and then it was written or memory ran out.
    pub quietly_then : {N A B T E : Type 0} (old mid new : D) (before after : List ℕ) (last : N) (talk : Talk Question Reply (Unit {0}) A) (next : A → Talk Question Reply N B) (value : A) (given : B) (noted : N) (result : Result T E)
        → Talks stands went old mid [] [] (λ chronicle places out. Gives (at_places chronicle) talk places out value)
        → Talked stands went mid new before after last (next value) given noted result → Talked stands went old new before after last (and_then (quietly talk) next) given noted result
    quietly_then {N = N} old mid new before after last talk next value given noted (Ok done) one two =
        talks_then stands went stays follows carries old mid new before before after talk value (λ chronicle places out. Gives (at_places chronicle) (next value) places out given)
        (λ chronicle places out. Gives (at_places chronicle) (and_then (quietly talk) next) places out given)
        (λ chronicle places more out rest first second. gives_then (at_places chronicle) (quietly talk) next places more out rest value given (gives_quietly N (at_places chronicle) talk places out value first) second)
        (moved_on old mid before one) two
    quietly_then old mid new before after last talk next value given noted (Err error) one two =
        talks_then stands went stays follows carries old mid new before before after talk value (λ chronicle places out. Breaks (at_places chronicle) last (next value) places out noted)
        (λ chronicle places out. Breaks (at_places chronicle) last (and_then (quietly talk) next) places out noted)
        (λ chronicle places more out rest first second. breaks_after_quiet (at_places chronicle) last talk next places more out rest value noted first second)
        (moved_on old mid before one) two

    -- A call that asks nobody, between two that do.
    pub spoken_talked : {N A T E : Type 0} (desk : D) (before after : List ℕ) (last : N) (talk : Talk Question Reply N A) (value : A) (noted : N) (result : Result T E)
        → Spoken before after last talk value noted result → Talked stands went desk desk before after last talk value noted result
    spoken_talked desk before after last talk value noted (Ok done) spoken = record {
      others = [];
      theirs = tt;
      grows = stays desk;
      steps = [];
      rise = tt;
      out = spoken.out;
      is = spoken.is;
      gives = λ chronicle stood. spoken.gives (at_places (extended chronicle []));
    }
    spoken_talked desk before after last talk value noted (Err error) spoken = record {
      others = [];
      theirs = tt;
      grows = stays desk;
      steps = [];
      rise = tt;
      out = spoken.out;
      is = spoken.is;
      gives = λ chronicle stood. spoken.gives (at_places (extended chronicle []));
    }
