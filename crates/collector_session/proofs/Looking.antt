-- What a collector does at an idle turn.
use Rattle.std.proofs.Common.{◌≡◌, ◌≢◌, ℕ, ◌+◌, ◌≤◌, ◌<◌, Bool, true, false, cond, List, [], ◌++◌, length, drop, get_or, refl, sym, ap, subst}
use Rattle.std.specs.Prelude.{IsTrue, Ok, None, Result}
use Rattle.std.proofs.lemmas.Bool.{le-leb, lt-leb}
use Rattle.std.proofs.lemmas.List.{drop_all, drop_more}
use Rattle.swima_subs.specs.declared.waiting.Waiting.{Waiting}
use Rattle.pb_batch.specs.declared.kind.BatchKind.TheVariants as kinds
use Rattle.pb_machine.specs.Table.{Position, may_send, sent}
use Rattle.pb_machine.specs.declared.machine.Role.{Role}
use Rattle.pb_machine.specs.declared.machine.Role.TheVariants.{Client}
use Rattle.pb_machine.specs.declared.machine.State.{State}
use Rattle.pb_machine.specs.declared.machine.State.TheVariants.{Init, ServerWorking, ClientWorking, Decided, End}
use Rattle.collector_core.specs.declared.chronicle.Mark.{Mark}
use Rattle.collector_core.specs.Chronicle.{Chronicle, extended}
use Rattle.collector_core.specs.Desks.{entries}
use Rattle.session_talk.specs.Talk.{Done, and_then, quietly}
use Rattle.session_talk.specs.Course.{Gives}
use Rattle.session_rules.specs.declared.config.ServeConfig.{ServeConfig}
use Rattle.session_rules.specs.declared.end.SessionEnd.TheVariants as final
use Rattle.session_rules.specs.Clauses.{Spoken, Talked, Talks}
use Rattle.session_rules.specs.Questions.{at_places}
use Rattle.session_rules.specs.ServeRules.{Looking, Serves, idles, looks, looks_from, looks_on, note, rests, retries_if}
use Rattle.session_rules.specs.Serving.{Notes, Stand, ends}
use Rattle.session_rules.proofs.Desking.{drafted_then, quietly_then, spoken_talked, talks_none}
use Rattle.collector_session.specs.Looking.{is_decided}
use Rattle.collector_session.proofs.Each.{Held}

-- ---- the turn

abbrev pub nothing_done : Stand → Serves
nothing_done s = Done s

-- The last turn that is allowed.
pub idles_out : (c : ServeConfig) (s : Stand) (turns : ℕ) → c.idle ≤ turns → idles c s turns ≡ nothing_done (ends s (final.IdleOut turns))
idles_out c s turns most = ap (λ (b : Bool). cond b (nothing_done (ends s (final.IdleOut turns))) (rests s s.machine.state)) (le-leb c.idle turns most)

pub idles_on : (c : ServeConfig) (s : Stand) (turns : ℕ) → turns < c.idle → idles c s turns ≡ rests s s.machine.state
idles_on c s turns less = ap (λ (b : Bool). cond b (nothing_done (ends s (final.IdleOut turns))) (rests s s.machine.state)) (lt-leb c.idle turns less)

-- ---- by the state

pub rests_other : (s : Stand) (state : State) → is_decided state ≡ false → rests s state ≡ nothing_done s
rests_other s Init other = refl
rests_other s ServerWorking other = refl
rests_other s ClientWorking other = refl
rests_other s End other = refl
rests_other s Decided other = absurd cc

abbrev pub looking : Stand → Serves
looking s = and_then (quietly (looks s.subs)) (λ (moved : Bool). retries_if s moved)

pub rests_decided : (s : Stand) (state : State) → is_decided state ≡ true → rests s state ≡ looking s
rests_decided s Init is = absurd cc
rests_decided s ServerWorking is = absurd cc
rests_decided s ClientWorking is = absurd cc
rests_decided s End is = absurd cc
rests_decided s Decided is = refl

-- A client that has decided may send a CRETRY, and is not at its end after that.
pub may_retry : (machine : Position) → machine.role ≡ Client → is_decided machine.state ≡ true → IsTrue (may_send machine kinds.Cretry)
may_retry machine client is = by_role machine.role client
  where
    by_state : (state : State) → is_decided state ≡ true → IsTrue (may_send (record { role = Client; state = state }) kinds.Cretry)
    by_state Init is = absurd cc
    by_state ServerWorking is = absurd cc
    by_state ClientWorking is = absurd cc
    by_state End is = absurd cc
    by_state Decided is = refl

    by_role : (role : Role) → role ≡ Client → IsTrue (may_send (record { role = role; state = machine.state }) kinds.Cretry)
    by_role role same = subst (λ (r : Role). IsTrue (may_send (record { role = r; state = machine.state }) kinds.Cretry)) (sym same) (by_state machine.state is)

pub retry_lives : (machine : Position) → machine.role ≡ Client → IsTrue (may_send machine kinds.Cretry) → (sent machine kinds.Cretry).state ≢ End
retry_lives machine client may = by_role machine.role client may
  where
    by_state : (state : State) → IsTrue (may_send (record { role = Client; state = state }) kinds.Cretry) → (sent (record { role = Client; state = state }) kinds.Cretry).state ≢ End
    by_state Init may end = absurd cc
    by_state ServerWorking may end = absurd cc
    by_state ClientWorking may end = absurd cc
    by_state Decided may end = absurd cc
    by_state End may end = absurd cc

    by_role : (role : Role) → role ≡ Client → IsTrue (may_send (record { role = role; state = machine.state }) kinds.Cretry) → (sent (record { role = role; state = machine.state }) kinds.Cretry).state ≢ End
    by_role role is = subst (λ (r : Role). IsTrue (may_send (record { role = r; state = machine.state }) kinds.Cretry) → (sent (record { role = r; state = machine.state }) kinds.Cretry).state ≢ End) (sym is) (by_state machine.state)

-- ---- one subscription after another

abbrev pub looks_at : Waiting → Looking
looks_at held = looks_from held.request held.place

module _ {D : Type 0} (stands : D → Chronicle → Type 0) (went : D → List Mark → D → Type 0) where
  -- None has moved so far: what is found of those that are left is found of all.
  abbrev pub Unmoved : D → D → List Waiting → List Waiting → Type 0
  Unmoved first now subs left = (last : D) (value : Bool) → Held stands went now last (looks left) value → Held stands went first last (looks subs) value

  module _ (stays : (desk : D) → went desk [] desk) (follows : (one two three : D) (first second : List Mark) → went one first two → went two second three → went one (first ++ second) three)
      (carries : (old new : D) (marks : List Mark) (chronicle : Chronicle) → went old marks new → stands old chronicle → stands new (extended chronicle (entries marks))) where
    -- One of those that are left was looked at.
    looked_one : (now mid last : D) (subs : List Waiting) (i : ℕ) (d : Waiting) (moved value : Bool) → i < length subs → Held stands went now mid (looks_at (get_or subs i d)) moved
        → Held stands went mid last (looks_on (looks (drop (i + 1) subs)) moved) value → Held stands went now last (looks (drop i subs)) value
    looked_one now mid last subs i d moved value less one two =
        subst (λ (left : List Waiting). Held stands went now last (looks left) value) (sym (drop_more subs i d less))
        (drafted_then stands went stays follows carries {T = Unit {0}} {E = Unit {0}} now mid last (looks_at (get_or subs i d)) (λ (m : Bool). looks_on (looks (drop (i + 1) subs)) m) moved value (Ok tt) one two)

    done_so : (desk : D) (value : Bool) (talk : Looking) → talk ≡ Done value → Held stands went desk desk talk value
    done_so desk value talk is =
        talks_none stands went stays follows carries desk [] (λ chronicle places out. Gives (at_places chronicle) talk places out value)
        (λ chronicle. subst (λ (t : Looking). Gives (at_places chronicle) t [] [] value) (sym is) (refl, refl, refl))

    pub next_unmoved : (first now mid : D) (subs : List Waiting) (i : ℕ) (d : Waiting) → i < length subs → Unmoved first now subs (drop i subs) → Held stands went now mid (looks_at (get_or subs i d)) false
        → Unmoved first mid subs (drop (i + 1) subs)
    next_unmoved first now mid subs i d less so one last value left = so last value (looked_one now mid last subs i d false value less one left)

    pub one_moved : (first now mid : D) (subs : List Waiting) (i : ℕ) (d : Waiting) → i < length subs → Unmoved first now subs (drop i subs) → Held stands went now mid (looks_at (get_or subs i d)) true
        → Held stands went first mid (looks subs) true
    one_moved first now mid subs i d less so one = so mid true (looked_one now mid mid subs i d true true less one (done_so mid true (looks_on (looks (drop (i + 1) subs)) true) refl))

    pub none_moved : (first now : D) (subs : List Waiting) (i : ℕ) → length subs ≤ i → Unmoved first now subs (drop i subs) → Held stands went first now (looks subs) false
    none_moved first now subs i all so = so now false (done_so now false (looks (drop i subs)) (ap (λ (left : List Waiting). looks left) (drop_all i subs all)))

    -- One that was not fulfilled yet has not moved.
    pub unfulfilled : (desk : D) (held : Waiting) → held.place ≡ None → Held stands went desk desk (looks_at held) false
    unfulfilled desk held none = done_so desk false (looks_at held) (ap (λ place. looks_from held.request place) none)

-- ---- the whole turn

module _ {D : Type 0} (stands : D → Chronicle → Type 0) (went : D → List Mark → D → Type 0)
    (stays : (desk : D) → went desk [] desk) (follows : (one two three : D) (first second : List Mark) → went one first two → went two second three → went one (first ++ second) three)
    (carries : (old new : D) (marks : List Mark) (chronicle : Chronicle) → went old marks new → stands old chronicle → stands new (extended chronicle (entries marks)))
    (s : Stand) (state : State) where
  -- The state is another one.
  pub other_rests : (desk : D) (before : List ℕ) → is_decided state ≡ false → Talks stands went desk desk before before (λ chronicle places out. Gives (at_places chronicle) (rests s state) places out s)
  other_rests desk before other =
      subst (λ (talk : Serves). Talks stands went desk desk before before (λ chronicle places out. Gives (at_places chronicle) talk places out s)) (sym (rests_other s state other))
      (talks_none stands went stays follows carries desk before (λ chronicle places out. Gives (at_places chronicle) (nothing_done s) places out s) (λ chronicle. (refl, refl, refl)))

  -- No subscription has moved.
  pub none_rests : (old new : D) (before : List ℕ) → is_decided state ≡ true → Held stands went old new (looks s.subs) false
      → Talks stands went old new before before (λ chronicle places out. Gives (at_places chronicle) (rests s state) places out s)
  none_rests old new before is found =
      subst (λ (talk : Serves). Talks stands went old new before before (λ chronicle places out. Gives (at_places chronicle) talk places out s)) (sym (rests_decided s state is))
      (quietly_then stands went stays follows carries {T = Unit {0}} {E = Unit {0}} old new new before before (note s) (looks s.subs) (λ (moved : Bool). retries_if s moved) false s (note s) (Ok tt) found
      (talks_none stands went stays follows carries new before (λ chronicle places out. Gives (at_places chronicle) (nothing_done s) places out s) (λ chronicle. (refl, refl, refl))))

  -- One has, and a CRETRY was written, or memory ran out before.
  pub one_rests : {T E : Type 0} (old new : D) (before after : List ℕ) (next : Stand) (noted : Notes) (result : Result T E) → is_decided state ≡ true → Held stands went old new (looks s.subs) true
      → Spoken before after (note s) (retries_if s true) next noted result → Talked stands went old new before after (note s) (rests s state) next noted result
  one_rests old new before after next noted result is found spoken =
      subst (λ (talk : Serves). Talked stands went old new before after (note s) talk next noted result) (sym (rests_decided s state is))
      (quietly_then stands went stays follows carries old new new before after (note s) (looks s.subs) (λ (moved : Bool). retries_if s moved) true next noted result found
      (spoken_talked stands went stays follows carries new before after (note s) (retries_if s true) next noted result spoken))
