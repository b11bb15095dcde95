-- The validator hears turns: what it stands for then.
use Rattle.std.proofs.Common.{◌≡◌, ℕ, zero, suc, ◌≤◌, false, List, [], ◌∷◌, ◌++◌, Option, Some, None, inl, inr, length, refl, sym, ap, ap₂, subst, ◌∙◌, append-nil, append_assoc, arith}
use Rattle.std.specs.Prelude.{drop, is_some, map, min, take}
use Rattle.std.proofs.lemmas.Bool.{cases_lt}
use Rattle.std.proofs.lemmas.List.{drop_all, take_all}
use Rattle.wire_base.specs.Turns.{Turn}
use Rattle.validator_core.specs.Held.{Held}
use Rattle.collector_core.specs.Chronicle.{Chronicle}
use Rattle.collector_core.specs.Standing.{BookView}
use Rattle.collector_session.specs.Cores.{Stood as ServeStood, over}
use Rattle.session_rules.specs.declared.config.FollowConfig.{FollowConfig}
use Rattle.session_rules.specs.declared.end.SessionEnd.{SessionEnd}
use Rattle.session_rules.specs.declared.end.SessionEnd.TheVariants as end
use Rattle.session_rules.specs.Following.{Stand, TakenReport}
use Rattle.session_rules.specs.Transcripts.{follow_end, follow_mirror, nobody}
use Rattle.session_rules.proofs.Meaning.{followed_is_so}
use Rattle.validator_session.specs.declared.notes.TakenReport.{TakenReport as TakenValue}
use Rattle.validator_session.specs.Core.{Stood, Turned, over_of}
use Rattle.validator_session.specs.Standing.{report_of, stand_of}
use Rattle.session_world.specs.declared.terms.Terms.{Terms}
use Rattle.session_world.specs.declared.joined.Joined.{Joined as JoinedView}
use Rattle.session_world.specs.declared.telling.Telling.{Telling}
use Rattle.session_world.specs.declared.telling.Telling.TheVariants.{ValidatorEnds}
use Rattle.session_world.specs.Lines.{ends, followed_on, follows, follows_by, takes}
use Rattle.session_world.specs.Standing.{JoinedStands, StandsFor, joined_view}
use Rattle.session_world.specs.Tellings.{taken_telling}
use Rattle.session_world.specs.World.{World, Joined, follow_config, following, validator_end}
use Rattle.session_world.proofs.Collecting.{world_of}

-- ---- how the validator of a session stands

pub following_is : (terms : Terms) (chronicle : Chronicle) (mirror : Held) (view : JoinedView) (j : Joined) → JoinedStands terms chronicle mirror view j
    → following j ≡ (j.carried_down ++ view.follow.end.out, stand_of view.follow.end.standing mirror)
following_is terms chronicle mirror view j stands =
    followed_is_so j.opened (follow_config j.subscribe) j.up (j.carried_down ++ view.follow.end.out) (stand_of view.follow.end.standing mirror) (stands.follow.gives nobody)

pub validator_is : (terms : Terms) (chronicle : Chronicle) (mirror : Held) (view : JoinedView) (j : Joined) → JoinedStands terms chronicle mirror view j → validator_end j ≡ view.validator
validator_is terms chronicle mirror view j stands = ap (λ (f : List ℕ × Stand). follow_end f) (following_is terms chronicle mirror view j stands) ∙ sym stands.validator

-- ---- reports that it took

drop_map : {A B : Type 0} (f : A → B) (n : ℕ) (xs : List A) → drop n (map f xs) ≡ map f (drop n xs)
drop_map f zero xs = refl
drop_map f (suc n) [] = refl
drop_map f (suc n) (x ∷ xs) = drop_map f n xs

length_map : {A B : Type 0} (f : A → B) (xs : List A) → length (map f xs) ≡ length xs
length_map f [] = refl
length_map f (x ∷ xs) = ap suc (length_map f xs)

takes_all : (taken : List TakenValue) → map takes (map report_of taken) ≡ map taken_telling taken
takes_all [] = refl
takes_all (one ∷ others) = ap (λ (ts : List Telling). taken_telling one ∷ ts) (takes_all others)

takes_later : (before after : List TakenValue) → map takes (drop (length (map report_of before)) (map report_of after)) ≡ map taken_telling (drop (length before) after)
takes_later before after =
    ap (λ (n : ℕ). map takes (drop n (map report_of after))) (length_map report_of before)
    ∙ ap (λ (rs : List TakenReport). map takes rs) (drop_map report_of (length before) after) ∙ takes_all (drop (length before) after)

-- ---- turns of the validator

-- One that is over hears nothing.
pub follows_over : (m terms : Terms) (chronicle : Chronicle) (mir mirror : Held) (view : JoinedView) (j : Joined) (book : BookView) (by : SessionEnd) (more : List Turn) (piece : List ℕ) (told : List Telling)
    → StandsFor (joined_view m book mir view) (world_of terms chronicle mirror j) → view.validator ≡ Some by
    → StandsFor (joined_view m book mir view) (follows (world_of terms chronicle mirror j) j more piece).0 × (told ≡ told ++ (follows (world_of terms chronicle mirror j) j more piece).1)
follows_over m terms chronicle mir mirror view j book by more piece told stands over =
    subst (λ (o : Option SessionEnd). StandsFor (joined_view m book mir view) (follows_by o (world_of terms chronicle mirror j) j more piece).0
    × (told ≡ told ++ (follows_by o (world_of terms chronicle mirror j) j more piece).1))
    (sym (validator_is terms chronicle mirror view j stands.joined ∙ over)) (stands, sym (append-nil told))

-- One that is not hears the turns, which carry a piece of what the collector wrote.
pub record Heard (mir mir2 : Held) (view next : JoinedView) (more : List Turn) : Type 0 where
  pub turned : is_some (over_of view.follow) ≡ false → Turned view.follow mir more next.follow mir2
  pub config : next.follow.end.config ≡ view.follow.end.config
  pub validator : next.validator ≡ over_of next.follow
  pub well : next.validator ≡ Some end.Memory → ⊥
  pub serve_config : next.serve.end.config ≡ view.serve.end.config
  pub over : over next.serve ≡ over view.serve
  pub same : next.collector ≡ view.collector

stood_on : (mir mir2 mirror : Held) (view next : JoinedView) (j : Joined) (more : List Turn) → mir ≡ mirror → over_of view.follow ≡ None → view.follow.end.config ≡ follow_config j.subscribe
    → Stood (follow_config j.subscribe) j.opened j.up j.carried_down view.follow mirror → Heard mir mir2 view next more → Stood (follow_config j.subscribe) j.opened (j.up ++ more) j.carried_down next.follow mir2
stood_on mir mir2 mirror view next j more same live config stood heard =
    elim (heard.turned (ap (λ (o : Option SessionEnd). is_some o) live) j.opened j.up j.carried_down (subst (λ (c : FollowConfig). Stood c j.opened j.up j.carried_down view.follow mir) (sym config) (subst (λ (h : Held). Stood (follow_config j.subscribe) j.opened j.up j.carried_down view.follow h) (sym same) stood))) [
      | inl stands ↦ subst (λ (c : FollowConfig). Stood c j.opened (j.up ++ more) j.carried_down next.follow mir2) config stands
      | inr fell ↦ absurd (heard.well (heard.validator ∙ fell.over))
    ]

pub follows_live : (m terms : Terms) (chronicle : Chronicle) (mir mir2 mirror : Held) (view next : JoinedView) (j : Joined) (book : BookView) (more : List Turn) (piece : List ℕ) (told told_after : List Telling)
    → StandsFor (joined_view m book mir view) (world_of terms chronicle mirror j) → view.validator ≡ None → Heard mir mir2 view next more
    → ServeStood chronicle j.places j.down (j.carried_up ++ piece) next.serve
    → told_after ≡ (told ++ map taken_telling (drop (length view.follow.end.standing.notes.reports) next.follow.end.standing.notes.reports)) ++ ends ValidatorEnds next.validator
    → StandsFor (joined_view m book mir2 next) (follows (world_of terms chronicle mirror j) j more piece).0 × (told_after ≡ told ++ (follows (world_of terms chronicle mirror j) j more piece).1)
follows_live m terms chronicle mir mir2 mirror view next j book more piece told told_after stands live heard serve says =
    let w : World = world_of terms chronicle mirror j in
    let s = stands.joined in
    let later : Joined = followed_on j more piece in
    let stood = stood_on mir mir2 mirror view next j more stands.mirror (sym s.validator ∙ live) s.follow_config s.follow heard in
    let at : JoinedStands terms chronicle mir2 next later = record {
      serve = serve;
      serve_config = heard.serve_config ∙ s.serve_config;
      collector = heard.same ∙ s.collector ∙ sym heard.over;
      collector_well = λ is. s.collector_well (sym heard.same ∙ is);
      follow = stood;
      follow_config = heard.config ∙ s.follow_config;
      validator = heard.validator;
    } in
    let was : following j ≡ (j.carried_down ++ view.follow.end.out, stand_of view.follow.end.standing mirror) = following_is terms chronicle mirror view j s in
    let is : following later ≡ (j.carried_down ++ next.follow.end.out, stand_of next.follow.end.standing mir2) = following_is terms chronicle mir2 next later at in
    let holds : follow_mirror (following later) ≡ mir2 = ap (λ (f : List ℕ × Stand). follow_mirror f) is in
    let tells : map takes (drop (length (following j).1.notes.taken_reports) (following later).1.notes.taken_reports) ++ ends ValidatorEnds (validator_end later)
    ≡ map taken_telling (drop (length view.follow.end.standing.notes.reports) next.follow.end.standing.notes.reports) ++ ends ValidatorEnds next.validator =
    ap₂ (λ (one other : List ℕ × Stand). map takes (drop (length one.1.notes.taken_reports) other.1.notes.taken_reports) ++ ends ValidatorEnds (follow_end other)) was is
    ∙ ap₂ (λ (ts : List Telling) (o : Option SessionEnd). ts ++ ends ValidatorEnds o) (takes_later view.follow.end.standing.notes.reports next.follow.end.standing.notes.reports) (sym heard.validator) in
    subst (λ (o : Option SessionEnd). StandsFor (joined_view m book mir2 next) (follows_by o w j more piece).0 × (told_after ≡ told ++ (follows_by o w j more piece).1))
    (sym (validator_is terms chronicle mirror view j s ∙ live)) (
      record {
        terms = stands.terms;
        book = stands.book;
        mirror = sym holds;
        joined = subst (λ (h : Held). JoinedStands terms chronicle h next later) (sym holds) at;
      },
      says
          ∙ append_assoc told (map taken_telling (drop (length view.follow.end.standing.notes.reports) next.follow.end.standing.notes.reports)) (ends ValidatorEnds next.validator)
          ∙ ap (λ (ts : List Telling). told ++ ts) (sym tells),
    )

pub drop_within : {A : Type 0} (n : ℕ) (xs : List A) → drop (min n (length xs)) xs ≡ drop n xs
drop_within n xs = elim (cases_lt n (length xs)) [
  | inl less ↦ let same : min n (length xs) ≡ n = omega (arith, less) in ap (λ (k : ℕ). drop k xs) same
  | inr more ↦
      let same : min n (length xs) ≡ length xs = omega (arith, more) in
      ap (λ (k : ℕ). drop k xs) same ∙ drop_all (length xs) xs (omega arith) ∙ sym (drop_all n xs (omega (arith, more)))
]

-- All that was taken later was reported.
pub told_all : (told now : List Telling) (index n before : ℕ) (taken slice reports : List TakenValue) → told ≡ now ++ map taken_telling (take index taken) → length taken ≤ index → taken ≡ drop n slice → n ≡ min before (length slice)
    → slice ≡ reports → told ≡ now ++ map taken_telling (drop before reports)
told_all told now index n before taken slice reports is all back least same =
    is ∙ ap (λ (ts : List TakenValue). now ++ map taken_telling ts) (take_all index taken all ∙ back ∙ ap (λ (k : ℕ). drop k slice) least ∙ drop_within before slice ∙ ap (λ (ts : List TakenValue). drop before ts) same)
