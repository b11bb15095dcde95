-- An item of a source is done by the changes that it asks for.
use Rattle.std.proofs.Common.{◌≡◌, ℕ, ◌+◌, ◌<◌, ◌≤◌, List, [], ◌∷◌, ◌++◌, Option, None, Some, Result, Ok, Err, length, take, drop, get_or, refl, sym, ap, ◌∙◌, subst}
use Rattle.std.proofs.lemmas.List.{append-nil, drop_more, map-append, take_all, take_more}
use Rattle.swima_model.specs.declared.record.Content.{Content}
use Rattle.collector_core.specs.declared.chronicle.Mark.{Mark}
use Rattle.collector_core.specs.declared.error.BookError.{BookError}
use Rattle.collector_core.specs.Chronicle.{Chronicle, extended}
use Rattle.collector_core.specs.Desks.{alters_not, creates_not, deletes_not, entries}
use Rattle.source_set.specs.Deeds.{Alters, Deletes, added_to, addition, alteration, deletion, deletions}
use Rattle.source_set.specs.Doing.{CreatesOne, Once, Performs, Refuses, Works, addition_not, alteration_not, deletion_not, first_not}
use Rattle.source_set.specs.Keys.{Held, by_id, id_at, with_key, without, without_all}
use Rattle.source_set.specs.declared.doing.Undone.{Undone}
use Rattle.source_set.specs.declared.doing.Undone.TheVariants as undone
use Rattle.source_set.specs.declared.swept.Swept.{Swept}
use Rattle.source_set.specs.declared.told.Told.TheVariants as told
use Rattle.source_set.proofs.Working.{works_more}

module _ {D : Type 0} (stands : D → Chronicle → Type 0) (went : D → List Mark → D → Type 0) (stamp : List ℕ)
    (stays : (desk : D) → went desk [] desk)
    (follows : (one two three : D) (first second : List Mark) → went one first two → went two second three → went one (first ++ second) three)
    (carries : (before after : D) (marks : List Mark) (chronicle : Chronicle) → went before marks after → stands before chronicle → stands after (extended chronicle (entries marks))) where
  -- ---- a key that is held

  pub add_altered : (keys : List Held) (key id : ℕ) (content : Content) (before after : D) (swept counts : Swept) (result : Result Unit Undone) → id_at key keys ≡ Some id
      → Once stands went stamp (Alters id content) (alters_not id content) before after swept counts result
      → Performs stands went stamp (told.Add key content) (record { keys = keys; desk = before; swept = swept }) (record { keys = keys; desk = after; swept = counts }) result
  add_altered keys key id content before after swept counts (Ok done) held once = (
    0,
    tt,
    subst (λ (o : Option ℕ). Works stands went stamp before after swept counts (addition 0 content o)) (sym held) once,
    sym (ap (added_to keys key 0) held),
  )
  add_altered keys key id content before after swept counts (Err (undone.UnknownKey at)) held once = absurd once
  add_altered keys key id content before after swept counts (Err (undone.Book error)) held once =
      (0, refl, once.0, refl, subst (λ (o : Option ℕ). Refuses stands went stamp after (addition_not content o) error) (sym held) once.1)

  pub change_altered : (keys : List Held) (key id : ℕ) (content : Content) (before after : D) (swept counts : Swept) (result : Result Unit Undone) → id_at key keys ≡ Some id
      → Once stands went stamp (Alters id content) (alters_not id content) before after swept counts result
      → Performs stands went stamp (told.Change key content) (record { keys = keys; desk = before; swept = swept }) (record { keys = keys; desk = after; swept = counts }) result
  change_altered keys key id content before after swept counts (Ok done) held once =
      (0, (id, held), subst (λ (o : Option ℕ). Works stands went stamp before after swept counts (alteration content o)) (sym held) once, refl)
  change_altered keys key id content before after swept counts (Err (undone.UnknownKey at)) held once = absurd once
  change_altered keys key id content before after swept counts (Err (undone.Book error)) held once =
      (0, refl, once.0, refl, subst (λ (o : Option ℕ). Refuses stands went stamp after (alteration_not content o) error) (sym held) once.1)

  pub gone_done : (keys left : List Held) (key id : ℕ) (before after : D) (swept counts : Swept) → id_at key keys ≡ Some id → left ≡ without key keys
      → Works stands went stamp before after swept counts (Deletes id ∷ [])
      → Performs stands went stamp (told.Gone key) (record { keys = keys; desk = before; swept = swept }) (record { keys = left; desk = after; swept = counts }) (Ok tt)
  gone_done keys left key id before after swept counts held is works =
      (0, (id, held), subst (λ (o : Option ℕ). Works stands went stamp before after swept counts (deletion o)) (sym held) works, is)

  pub gone_refused : (keys : List Held) (key id : ℕ) (before after : D) (swept counts : Swept) (why : Undone) → id_at key keys ≡ Some id
      → Once stands went stamp (Deletes id) (deletes_not id) before after swept counts (Err why)
      → Performs stands went stamp (told.Gone key) (record { keys = keys; desk = before; swept = swept }) (record { keys = keys; desk = after; swept = counts }) (Err why)
  gone_refused keys key id before after swept counts (undone.UnknownKey at) held once = absurd once
  gone_refused keys key id before after swept counts (undone.Book error) held once =
      (0, refl, once.0, refl, subst (λ (o : Option ℕ). Refuses stands went stamp after (deletion_not o) error) (sym held) once.1)

  -- ---- a key that is not held

  pub add_created : (keys left : List Held) (key id : ℕ) (content : Content) (before after : D) (swept counts : Swept) → id_at key keys ≡ None → left ≡ with_key key id keys
      → CreatesOne stands went stamp content before after swept counts (Ok id)
      → Performs stands went stamp (told.Add key content) (record { keys = keys; desk = before; swept = swept }) (record { keys = left; desk = after; swept = counts }) (Ok tt)
  add_created keys left key id content before after swept counts absent is works = (
    id,
    tt,
    subst (λ (o : Option ℕ). Works stands went stamp before after swept counts (addition id content o)) (sym absent) works,
    is ∙ sym (ap (added_to keys key id) absent),
  )

  pub add_refused : (keys left : List Held) (key : ℕ) (content : Content) (before after : D) (swept counts : Swept) (error : BookError) → id_at key keys ≡ None → left ≡ keys
      → Works stands went stamp before after swept counts [] → Refuses stands went stamp after (creates_not content) error
      → Performs stands went stamp (told.Add key content) (record { keys = keys; desk = before; swept = swept }) (record { keys = left; desk = after; swept = counts }) (Err (undone.Book error))
  add_refused keys left key content before after swept counts error absent is works why =
      (0, refl, works, is, subst (λ (o : Option ℕ). Refuses stands went stamp after (addition_not content o) error) (sym absent) why)

  -- ---- all keys

  deletions_more : (order : List Held) (i : ℕ) (d : Held) → i < length order → deletions (take (i + 1) order) ≡ deletions (take i order) ++ Deletes (get_or order i d).1 ∷ []
  deletions_more order i d less = ap deletions (take_more order i d less) ∙ map-append (λ (h : Held). Deletes h.1) (take i order) (get_or order i d ∷ [])

  pub end_more : (order : List Held) (i : ℕ) (d : Held) (first before after : D) (swept between counts : Swept) → i < length order
      → Works stands went stamp first before swept between (deletions (take i order)) → Works stands went stamp before after between counts (Deletes (get_or order i d).1 ∷ [])
      → Works stands went stamp first after swept counts (deletions (take (i + 1) order))
  end_more order i d first before after swept between counts less so-far once =
      subst (Works stands went stamp first after swept counts) (sym (deletions_more order i d less))
      (works_more stands went stamp stays follows carries first before after swept between counts (deletions (take i order)) (Deletes (get_or order i d).1 ∷ []) so-far once)

  without_joins : (some more keys : List Held) → without_all (some ++ more) keys ≡ without_all more (without_all some keys)
  without_joins [] more keys = refl
  without_joins (h ∷ some) more keys = without_joins some more (without h.0 keys)

  pub end_keys : (order keys : List Held) (i : ℕ) (d : Held) → i < length order → without_all (take (i + 1) order) keys ≡ without (get_or order i d).0 (without_all (take i order) keys)
  end_keys order keys i d less =
      ap (λ (some : List Held). without_all some keys) (take_more order i d less) ∙ without_joins (take i order) (get_or order i d ∷ []) keys

  pub key_gone : (order keys left now : List Held) (i : ℕ) (d : Held) → i < length order → now ≡ without (get_or order i d).0 left → left ≡ without_all (take i order) keys
      → now ≡ without_all (take (i + 1) order) keys
  key_gone order keys left now i d less gone so-far =
      gone ∙ ap (λ (some : List Held). without (get_or order i d).0 some) so-far ∙ sym (end_keys order keys i d less)

  pub end_refused : (order keys left : List Held) (i : ℕ) (d : Held) (first before after : D) (swept between counts : Swept) (why : Undone) → order ≡ by_id keys → i < length order
      → left ≡ without_all (take i order) keys → Works stands went stamp first before swept between (deletions (take i order))
      → Once stands went stamp (Deletes (get_or order i d).1) (deletes_not (get_or order i d).1) before after between counts (Err why)
      → Performs stands went stamp told.Ended (record { keys = keys; desk = first; swept = swept }) (record { keys = left; desk = after; swept = counts }) (Err why)
  end_refused order keys left i d first before after swept between counts (undone.UnknownKey at) sorted less gone so-far once = absurd once
  end_refused order keys left i d first before after swept between counts (undone.Book error) sorted less gone so-far once =
      let works = works_more stands went stamp stays follows carries first before after swept between counts (deletions (take i order)) [] so-far once.0 in
      let all = subst (Works stands went stamp first after swept counts) (append-nil (deletions (take i order))) works in
      let here : get_or order i d ∷ drop (i + 1) order ≡ drop i (by_id keys) = sym (drop_more order i d less) ∙ ap (λ (o : List Held). drop i o) sorted in (
        i,
        tt,
        subst (λ (o : List Held). Works stands went stamp first after swept counts (deletions (take i o))) sorted all,
        gone ∙ ap (λ (o : List Held). without_all (take i o) keys) sorted,
        subst (λ (o : List Held). Refuses stands went stamp after (first_not o) error) here once.1,
      )

  pub end_done : (order keys left : List Held) (i : ℕ) (first after : D) (swept counts : Swept) → order ≡ by_id keys → length order ≤ i → left ≡ []
      → Works stands went stamp first after swept counts (deletions (take i order))
      → Performs stands went stamp told.Ended (record { keys = keys; desk = first; swept = swept }) (record { keys = left; desk = after; swept = counts }) (Ok tt)
  end_done order keys left i first after swept counts sorted all none works =
      (0, tt, subst (λ (o : List Held). Works stands went stamp first after swept counts (deletions o)) (take_all i order all ∙ sorted) works, none)
