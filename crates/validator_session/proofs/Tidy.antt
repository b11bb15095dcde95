-- Drafts: what was noted last is what the draft holds. So talks of drafts that are joined break off
-- where their parts do.
use Rattle.std.proofs.Common.{◌≡◌, ℕ, List, [], ◌∷◌, ◌++◌, Option, Some, None, Result, Ok, Err, Bool, true, false, cond, length, inr, refl, sym, ap, subst, ◌∙◌, append_assoc, append-nil}
use Rattle.std.specs.Prelude.{nat_lt}
use Rattle.pb_batch.specs.declared.batch.Message.{Message}
use Rattle.pa_attrs.specs.declared.error.PaError.{PaError}
use Rattle.std.specs.Result.{IsErr}
use Rattle.validator_core.specs.Held.{Held}
use Rattle.validator_session.specs.declared.notes.Notes.{Notes as NotesValue}
use Rattle.validator_session.specs.declared.take.Draft.{Draft as DraftValue}
use Rattle.validator_session.specs.Drafting.{TookAll, first_draft}
use Rattle.validator_session.specs.Standing.{notes_of}
use Rattle.session_talk.specs.Talk.{Talk, Done, Ask, Write, Note, and_then, each}
use Rattle.session_talk.specs.Course.{Answers, Gives, Breaks}
use Rattle.session_talk.proofs.Courses.{breaks_first, gives_then}
use Rattle.session_rules.specs.declared.word.ValidatorWord.{ValidatorWord as Word}
use Rattle.session_rules.specs.declared.word.ValidatorWord.TheVariants.{Reports, Lists, Failure}
use Rattle.session_rules.specs.Clauses.{Spoke, Spoken}
use Rattle.session_rules.specs.Following.{Draft, Notes, Stand}
use Rattle.session_rules.specs.FollowRules.{Follows}
use Rattle.session_rules.specs.Saying.{Said, Says, Refused, says, swima_body}
use Rattle.session_rules.specs.Taking.{Drafting, MOST_ANSWERS, NoQuestion, NoReply, SUPPORTED, answers, speaks, takes_body, takes_message, takes_said, word_of}

-- Each value that the talk comes to holds what was noted last.
abbrev pub Tidy : Notes → Drafting → Type 0
Tidy last (Done d) = d.notes ≡ last
Tidy last (Ask question talk) = (reply : _) → Tidy last (talk reply)
Tidy last (Write octets talk) = Tidy last talk
Tidy last (Note note talk) = Tidy note talk

-- A talk that goes to its end, and then a talk that breaks off.
pub tidy_breaks : {A : Type 0} (replies : Answers NoQuestion NoReply) (last : Notes) (talk : Drafting) (next : Draft → Talk NoQuestion NoReply Notes A) (places later out more : List ℕ) (value : Draft) (noted : Notes)
    → Tidy last talk → Gives replies talk places out value → Breaks replies value.notes (next value) later more noted
    → Breaks replies last (and_then talk next) (places ++ later) (out ++ more) noted
tidy_breaks replies last (Done d) next places later out more value noted tidy first second = rw (first.0, first.1, sym tidy, sym first.2) second
tidy_breaks replies last (Ask question talk) next [] later out more value noted tidy first second = absurd first
tidy_breaks replies last (Ask question talk) next (place ∷ places) later out more value noted tidy first second =
    tidy_breaks replies last (talk (replies place question)) next places later out more value noted (tidy (replies place question)) first second
tidy_breaks replies last (Write octets talk) next places later out more value noted tidy first second = inr (
  first.0 ++ more,
  ap (λ (o : List ℕ). o ++ more) first.1 ∙ append_assoc octets first.0 more,
  tidy_breaks replies last talk next places later first.0 more value noted tidy first.2 second,
)
tidy_breaks replies last (Note note talk) next places later out more value noted tidy first second =
    inr (tidy_breaks replies note talk next places later out more value noted tidy first second)

-- A talk and the talk after it.
pub tidy_then : (last : Notes) (talk : Drafting) (next : Draft → Drafting) → Tidy last talk → ((d : Draft) → Tidy d.notes (next d)) → Tidy last (and_then talk next)
tidy_then last (Done d) next tidy later = subst (λ (n : Notes). Tidy n (next d)) tidy (later d)
tidy_then last (Ask question talk) next tidy later = λ reply. tidy_then last (talk reply) next (tidy reply) later
tidy_then last (Write octets talk) next tidy later = tidy_then last talk next tidy later
tidy_then last (Note note talk) next tidy later = tidy_then note talk next tidy later

-- A talk for each item.
pub tidy_each : {X : Type 0} (step : Draft → X → Drafting) (d : Draft) (items : List X) → ((e : Draft) (item : X) → Tidy e.notes (step e item)) → Tidy d.notes (each step d items)
tidy_each step d [] tidy = refl
tidy_each step d (item ∷ items) tidy = tidy_then d.notes (step d item) (λ next. each step next items) (tidy d item) (λ next. tidy_each step next items tidy)

-- ---- the talks of a validator's drafts

pub tidy_speaks : (d : Draft) (word : Word) → Tidy d.notes (speaks d word)
tidy_speaks d (Reports report) = refl
tidy_speaks d (Lists requests) = refl
tidy_speaks d (Failure code) = refl

answers_kept : (d : Draft) (error : PaError) → (answers d error).notes ≡ d.notes
answers_kept d error = by_test (nat_lt (length d.answers) MOST_ANSWERS) _ refl
  where
    by_test : (test : Bool) (new : Draft) → new.notes ≡ d.notes → (cond test new d).notes ≡ d.notes
    by_test true new same = same
    by_test false new same = refl

tidy_said : (d : Draft) (said : Said Word) → Tidy d.notes (takes_said d said)
tidy_said d (Says words) = tidy_each speaks d words tidy_speaks
tidy_said d (Refused (Some error)) = answers_kept d error
tidy_said d (Refused None) = refl

tidy_body : (d : Draft) (body : Option (List ℕ)) → Tidy d.notes (takes_body d body)
tidy_body d (Some body) = tidy_said d (says SUPPORTED word_of body)
tidy_body d None = refl

pub tidy_message : (d : Draft) (message : Message) → Tidy d.notes (takes_message d message)
tidy_message d message = tidy_body d (swima_body message)

-- ---- loops

-- Of the items the rest is left, and the talks of all go as those of the rest do from this draft.
pub record Reached {X : Type 0} (step : Draft → X → Drafting) (start : Draft) (items : List X) (now : Draft) (rest : List X) : Type 0 where
  pub gives : (replies : Answers NoQuestion NoReply) (value : Draft) → Gives replies (each step now rest) [] [] value → Gives replies (each step start items) [] [] value
  pub breaks : (replies : Answers NoQuestion NoReply) (noted : Notes) → Breaks replies now.notes (each step now rest) [] [] noted → Breaks replies start.notes (each step start items) [] [] noted

module _ {X : Type 0} (step : Draft → X → Drafting) (start : Draft) (items : List X) where
  pub begun : Reached step start items start items
  begun = record { gives = λ replies value gives. gives; breaks = λ replies noted breaks. breaks }

  -- An item more was taken.
  pub goes_on : (now next : Draft) (rest later : List X) (item : X) → ((e : Draft) (item : X) → Tidy e.notes (step e item)) → rest ≡ item ∷ later
      → Reached step start items now rest → Spoke {Q = NoQuestion} {R = NoReply} [] [] (λ replies out. Gives replies (step now item) [] out next) → Reached step start items next later
  goes_on now next rest later item tidy left reached so =
      let none : so.out ≡ [] = sym so.is in
      let given : (replies : Answers NoQuestion NoReply) → Gives replies (step now item) [] [] next = λ replies. subst (λ (o : List ℕ). Gives replies (step now item) [] o next) none (so.gives replies) in
      record {
        gives = λ replies value gives. reached.gives replies value
            (subst (λ (xs : List X). Gives replies (each step now xs) [] [] value) (sym left)
            (gives_then replies (step now item) (λ e. each step e later) [] [] [] [] next value (given replies) gives));
        breaks = λ replies noted breaks. reached.breaks replies noted
            (subst (λ (xs : List X). Breaks replies now.notes (each step now xs) [] [] noted) (sym left)
            (tidy_breaks replies now.notes (step now item) (λ e. each step e later) [] [] [] [] next noted (tidy now item) (given replies) breaks));
      }

  -- Memory ran out at an item: the talk of all breaks off there.
  pub is_lost : (now : Draft) (rest later : List X) (item : X) (noted : Notes) → rest ≡ item ∷ later
      → Reached step start items now rest → Spoke {Q = NoQuestion} {R = NoReply} [] [] (λ replies out. Breaks replies now.notes (step now item) [] out noted)
      → Spoke {Q = NoQuestion} {R = NoReply} [] [] (λ replies out. Breaks replies start.notes (each step start items) [] out noted)
  is_lost now rest later item noted left reached so =
      let none : so.out ≡ [] = sym so.is in
      record {
        out = [];
        is = refl;
        gives = λ replies. reached.breaks replies noted
            (subst (λ (xs : List X). Breaks replies now.notes (each step now xs) [] [] noted) (sym left)
            (breaks_first replies now.notes (step now item) (λ e. each step e later) [] [] noted
            (subst (λ (o : List ℕ). Breaks replies now.notes (step now item) [] o noted) none (so.gives replies))));
      }

-- A batch was not taken whole.
pub took_failed : {E : Type 0} (numbered : ℕ) (old new : NotesValue) (before after : Held) (messages : List Message) (result : Result DraftValue E) → IsErr result
    → Spoke {Q = NoQuestion} {R = NoReply} [] [] (λ replies out. Breaks replies (notes_of old before) (each takes_message (first_draft numbered old before) messages) [] out (notes_of new after))
    → TookAll numbered old new before after messages result
took_failed numbered old new before after messages (Ok d) is so = absurd cc
took_failed numbered old new before after messages (Err error) is so = so

-- ---- a draft, and what follows of it

module _ (waits now : List ℕ) (last : Notes) (talk : Drafting) (next : Draft → Follows) where
  -- The draft is there, and then the rest was done or memory ran out.
  pub drafted_then : {T E : Type 0} (d : Draft) (value : Stand) (noted : Notes) (result : Result T E) → Tidy last talk
      → Spoke {Q = NoQuestion} {R = NoReply} [] [] (λ replies out. Gives replies talk [] out d)
      → Spoken waits now d.notes (next d) value noted result → Spoken waits now last (and_then talk next) value noted result
  drafted_then d value noted (Ok result) tidy first so =
      let none : first.out ≡ [] = sym first.is in
      record {
        out = so.out;
        is = so.is;
        gives = λ replies. gives_then replies talk next [] [] [] so.out d value (subst (λ (o : List ℕ). Gives replies talk [] o d) none (first.gives replies)) (so.gives replies);
      }
  drafted_then d value noted (Err error) tidy first so =
      let none : first.out ≡ [] = sym first.is in
      record {
        out = so.out;
        is = so.is;
        gives = λ replies. tidy_breaks replies last talk next [] [] [] so.out d noted tidy (subst (λ (o : List ℕ). Gives replies talk [] o d) none (first.gives replies)) (so.gives replies);
      }

  -- Memory ran out before the draft was there.
  pub draft_lost : (noted : Notes) → now ≡ waits → Spoke {Q = NoQuestion} {R = NoReply} [] [] (λ replies out. Breaks replies last talk [] out noted)
      → Spoke {Q = NoQuestion} {R = NoReply} waits now (λ replies out. Breaks replies last (and_then talk next) [] out noted)
  draft_lost noted same first = record {
    out = first.out;
    is = same ∙ sym (append-nil waits) ∙ ap (λ (o : List ℕ). waits ++ o) first.is;
    gives = λ replies. breaks_first replies last talk next [] first.out noted (first.gives replies);
  }
