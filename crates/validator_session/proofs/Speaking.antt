-- What a call said, from what the calls in it said.
use Rattle.std.proofs.Common.{◌≡◌, ℕ, List, [], ◌++◌, Result, Ok, Err, inl, inr, refl, sym, ap, subst, ◌∙◌, append_assoc, append-nil}
use Rattle.std.specs.Result.{IsErr}
use Rattle.session_talk.specs.Talk.{Talk, Done, Write, Note}
use Rattle.session_talk.specs.Course.{Gives, Breaks}
use Rattle.session_talk.proofs.Courses.{stopped, stops_breaks}
use Rattle.session_rules.specs.Clauses.{Spoke, Spoken}

module _ {Q : Type 0} {R : Q → Type 0} {N A : Type 0} where
  -- The call failed, where the talk broke off.
  pub failed : {T E : Type 0} (waits now : List ℕ) (last : N) (talk : Talk Q R N A) (value : A) (noted : N) (result : Result T E) → IsErr result
      → Spoke {Q = Q} {R = R} waits now (λ replies out. Breaks replies last talk [] out noted) → Spoken waits now last talk value noted result
  failed waits now last talk value noted (Ok done) is so = absurd cc
  failed waits now last talk value noted (Err error) is so = so

  -- Memory ran out before anything was done.
  pub lost : (waits now : List ℕ) (last : N) (talk : Talk Q R N A) (noted : N) → now ≡ waits → noted ≡ last
      → Spoke {Q = Q} {R = R} waits now (λ replies out. Breaks replies last talk [] out noted)
  lost waits now last talk noted same is = record {
    out = [];
    is = same ∙ sym (append-nil waits);
    gives = λ replies. rw is (stopped replies last talk);
  }

  -- Nothing was to be done.
  pub nothing : (waits now : List ℕ) (talk : Talk Q R N A) (from value : A) → talk ≡ Done from → now ≡ waits → value ≡ from
      → Spoke {Q = Q} {R = R} waits now (λ replies out. Gives replies talk [] out value)
  nothing waits now talk from value done same is = record {
    out = [];
    is = same ∙ sym (append-nil waits);
    gives = λ replies. subst (λ (t : Talk Q R N A). Gives replies t [] [] value) (sym done) (refl, refl, is);
  }

  -- Octets were written, and nothing else was to be done.
  pub wrote_all : (waits now octets : List ℕ) (talk : Talk Q R N A) (from value : A) → talk ≡ Write octets (Done from) → now ≡ waits ++ octets → value ≡ from
      → Spoke {Q = Q} {R = R} waits now (λ replies out. Gives replies talk [] out value)
  wrote_all waits now octets talk from value writes same is = record {
    out = octets;
    is = same;
    gives = λ replies. subst (λ (t : Talk Q R N A). Gives replies t [] octets value) (sym writes) ([], sym (append-nil octets), (refl, refl, is));
  }

  -- Octets were written, and then memory ran out.
  pub wrote_lost : (waits now octets : List ℕ) (last : N) (talk : Talk Q R N A) (noted : N) → now ≡ waits ++ octets → noted ≡ last
      → Spoke {Q = Q} {R = R} waits now (λ replies out. Breaks replies last (Write octets talk) [] out noted)
  wrote_lost waits now octets last talk noted same is = record {
    out = octets;
    is = same;
    gives = λ replies. inr ([], sym (append-nil octets), rw is (stopped replies last talk));
  }

  -- Octets were written, and then something was noted and the rest was done or memory ran out.
  pub wrote_on : {T E : Type 0} (waits mid now octets : List ℕ) (last : N) (from reached : A) (note : A → N) (talk : A → Talk Q R N A) (value : A) (noted : N) (result : Result T E)
      → Spoke {Q = Q} {R = R} waits mid (λ replies out. Gives {N = N} replies (Write octets (Done from)) [] out reached)
      → Spoken mid now (note reached) (talk reached) value noted result → Spoken waits now last (Write octets (Note (note from) (talk from))) value noted result
  wrote_on waits mid now octets last from reached note talk value noted (Ok result) first so = record {
    out = first.out ++ so.out;
    is = so.is ∙ ap (λ (o : List ℕ). o ++ so.out) first.is ∙ append_assoc waits first.out so.out;
    gives = λ replies.
        let wrote = first.gives replies in
        (so.out, ap (λ (o : List ℕ). o ++ so.out) (wrote.1 ∙ ap (λ (o : List ℕ). octets ++ o) wrote.2.1 ∙ append-nil octets), subst (λ (x : A). Gives replies (talk x) [] so.out value) wrote.2.2 (so.gives replies));
  }
  wrote_on waits mid now octets last from reached note talk value noted (Err error) first so = record {
    out = first.out ++ so.out;
    is = so.is ∙ ap (λ (o : List ℕ). o ++ so.out) first.is ∙ append_assoc waits first.out so.out;
    gives = λ replies.
        let wrote = first.gives replies in
        inr (so.out, ap (λ (o : List ℕ). o ++ so.out) (wrote.1 ∙ ap (λ (o : List ℕ). octets ++ o) wrote.2.1 ∙ append-nil octets), inr (subst (λ (x : A). Breaks replies (note x) (talk x) [] so.out noted) wrote.2.2 (so.gives replies)));
  }

  -- Memory ran out before octets were written or after it, whatever was to follow.
  pub wrote_off : (waits now octets : List ℕ) (last : N) (from : A) (talk : Talk Q R N A) (noted : N) → Spoke {Q = Q} {R = R} waits now (λ replies out. Breaks replies last (Write octets (Done from)) [] out noted)
      → Spoke {Q = Q} {R = R} waits now (λ replies out. Breaks replies last (Write octets talk) [] out noted)
  wrote_off waits now octets last from talk noted first = record {
    out = first.out;
    is = first.is;
    gives = λ replies. elim (first.gives replies) [
      | inl stops ↦ inl stops
      | inr goes ↦ inr (goes.0, goes.1, stops_breaks replies last talk [] goes.0 noted goes.2)
    ];
  }
