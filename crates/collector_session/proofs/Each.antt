-- A talk for each item of a list, as a loop over the list holds it.
use Rattle.std.proofs.Common.{ℕ, ◌+◌, ◌≤◌, ◌<◌, List, [], ◌∷◌, ◌++◌, length, take, drop, get_or, refl, sym, ap, subst, ◌∙◌, take-append-drop}
use Rattle.std.specs.Prelude.{Ok, Err}
use Rattle.std.proofs.lemmas.List.{drop_more, take_all, take_more}
use Rattle.collector_core.specs.declared.chronicle.Mark.{Mark}
use Rattle.collector_core.specs.Chronicle.{Chronicle, extended}
use Rattle.collector_core.specs.Desks.{entries}
use Rattle.session_talk.specs.Talk.{Talk, each}
use Rattle.session_talk.specs.Course.{Gives, Breaks}
use Rattle.session_talk.proofs.Joining.{each_append, each_one}
use Rattle.session_rules.specs.Clauses.{Talks}
use Rattle.session_rules.specs.Questions.{Question, Reply, at_places}
use Rattle.session_rules.proofs.Desking.{drafted_then, talks_first, talks_none}

module _ {D : Type 0} (stands : D → Chronicle → Type 0) (went : D → List Mark → D → Type 0) where
  -- A talk was held to its end, or broke off.
  abbrev pub Held : {A : Type 0} → D → D → Talk Question Reply (Unit {0}) A → A → Type 0
  Held old new talk value = Talks stands went old new [] [] (λ chronicle places out. Gives (at_places chronicle) talk places out value)

  abbrev pub Lost : {A : Type 0} → D → D → Talk Question Reply (Unit {0}) A → Type 0
  Lost old new talk = Talks stands went old new [] [] (λ chronicle places out. Breaks (at_places chronicle) tt talk places out tt)

  module _ (stays : (desk : D) → went desk [] desk) (follows : (one two three : D) (first second : List Mark) → went one first two → went two second three → went one (first ++ second) three)
      (carries : (old new : D) (marks : List Mark) (chronicle : Chronicle) → went old marks new → stands old chronicle → stands new (extended chronicle (entries marks))) where
    module _ {A X : Type 0} (step : A → X → Talk Question Reply (Unit {0}) A) where
      -- Before the first item.
      pub none_held : (desk : D) (value : A) (items : List X) → Held desk desk (each step value (take 0 items)) value
      none_held desk value items = talks_none stands went stays follows carries desk [] (λ chronicle places out. Gives (at_places chronicle) (each step value (take 0 items)) places out value) (λ chronicle. (refl, refl, refl))

      -- An item more.
      pub next_held : (old mid new : D) (first value next : A) (items : List X) (i : ℕ) (d : X) → i < length items
          → Held old mid (each step first (take i items)) value → Held mid new (step value (get_or items i d)) next → Held old new (each step first (take (i + 1) items)) next
      next_held old mid new first value next items i d less one two =
          subst (λ (talk : Talk Question Reply (Unit {0}) A). Held old new talk next)
          (sym (ap (λ (xs : List X). each step first xs) (take_more items i d less) ∙ each_append step first (take i items) (get_or items i d ∷ [])))
          (drafted_then stands went stays follows carries {T = Unit {0}} {E = Unit {0}} old mid new (each step first (take i items)) (λ (v : A). each step v (get_or items i d ∷ [])) value next (Ok tt) one
          (subst (λ (talk : Talk Question Reply (Unit {0}) A). Held mid new talk next) (sym (each_one step value (get_or items i d))) two))

      -- Memory ran out at an item.
      pub next_lost : (old mid new : D) (first value next : A) (items : List X) (i : ℕ) (d : X) → i < length items
          → Held old mid (each step first (take i items)) value → Lost mid new (step value (get_or items i d)) → Lost old new (each step first items)
      next_lost old mid new first value next items i d less one two =
          subst (λ (talk : Talk Question Reply (Unit {0}) A). Lost old new talk)
          (sym (ap (λ (xs : List X). each step first xs) (sym (take-append-drop i items)) ∙ each_append step first (take i items) (drop i items)))
          (drafted_then stands went stays follows carries {T = Unit {0}} {E = Unit {0}} old mid new (each step first (take i items)) (λ (v : A). each step v (drop i items)) value next (Err tt) one
          (subst (λ (xs : List X). Lost mid new (each step value xs)) (sym (drop_more items i d less))
          (talks_first stands went mid new [] [] tt (step value (get_or items i d)) (λ (v : A). each step v (drop (i + 1) items)) tt two)))

      -- After the last item.
      pub all_held : (old new : D) (first value : A) (items : List X) (i : ℕ) → length items ≤ i → Held old new (each step first (take i items)) value → Held old new (each step first items) value
      all_held old new first value items i all held = subst (λ (xs : List X). Held old new (each step first xs) value) (take_all i items all) held
