-- Each key that a source holds has its record, and no other record of the source is left.
use Rattle.std.proofs.Common.{◌≡◌, ◌⊎◌, inl, inr, filter, ℕ, ◌+◌, ◌≤◌, max, length, cond, Bool, true, false, List, [], ◌∷◌, ◌++◌, Option, None, Some, refl, sym, ap, ◌∙◌, subst, arith}
use Rattle.std.specs.List.{fold}
use Rattle.std.specs.Option.{option_map}
use Rattle.std.proofs.lemmas.List.Sums.{fold-append}
use Rattle.std.proofs.lemmas.Option.{none-some}
use Rattle.swima_model.specs.declared.event.Action.{Action}
use Rattle.swima_model.specs.declared.event.Action.TheVariants.{Alteration, Creation, Deletion}
use Rattle.swima_model.specs.declared.record.Content.{Content}
use Rattle.swima_model.specs.declared.record.Record.{Record}
use Rattle.swima_model.specs.Live.{record_of}
use Rattle.collector_core.specs.declared.chronicle.Entry.{Entry}
use Rattle.collector_core.specs.declared.chronicle.Entry.TheVariants as entry
use Rattle.collector_core.specs.declared.chronicle.Mark.{Mark}
use Rattle.collector_core.specs.Chronicle.{Chronicle, extended, live_now, next_id}
use Rattle.collector_core.specs.Chronicle as chronicles
use Rattle.collector_core.specs.Desks.{entries, owned}
use Rattle.collector_core.specs.Legal.{IsLegal, MayFollow, MayHappen}
use Rattle.collector_core.specs.Standing.{creation}
use Rattle.collector_core.proofs.Chronicles.{next_more}
use Rattle.source_set.specs.Asking.{AreKnown, items_of}
use Rattle.source_set.specs.Deeds.{Alters, Creates, Deed, Deletes, Done, GivesUp, Make, added_to, addition, alteration, deeds, deletion, deletions, does, gives_up, keys_after, leaves}
use Rattle.source_set.specs.Doing.{IsKnown}
use Rattle.source_set.specs.Keys.{Held, by_id, id_at, without}
use Rattle.source_set.specs.Records.{IsAmong, KeysAreRecorded, as_record, content_after, created, told_after}
use Rattle.source_set.specs.declared.told.Told.{Told}
use Rattle.source_set.specs.declared.told.Told.TheVariants as told
use Rattle.source_set.proofs.Recording.{Fresh, MakesOne, deeds_are_recorded, first, further, known_record}
use Rattle.source_set.proofs.Reflecting.{Reflects, altered_key, created_key, deleted_key, ended_keys}

-- ---- the number after deeds

abbrev past : ℕ → List Deed → ℕ
past n [] = n
past n (Creates id content ∷ others) = past (id + 1) others
past n (Alters id content ∷ others) = past n others
past n (Deletes id ∷ others) = past n others
past n (GivesUp ∷ others) = past n others

fresh_parts : (n : ℕ) (xs ys : List Deed) → Fresh n (xs ++ ys) → Fresh n xs × Fresh (past n xs) ys
fresh_parts n [] ys f = (tt, f)
fresh_parts n (Creates id content ∷ xs) ys f = let parts = fresh_parts (id + 1) xs ys f.1 in ((f.0, parts.0), parts.1)
fresh_parts n (Alters id content ∷ xs) ys f = fresh_parts n xs ys f
fresh_parts n (Deletes id ∷ xs) ys f = fresh_parts n xs ys f
fresh_parts n (GivesUp ∷ xs) ys f = fresh_parts n xs ys f

fresh_less : (n m : ℕ) (xs : List Deed) → n ≤ m → Fresh m xs → Fresh n xs
fresh_less n m [] less f = tt
fresh_less n m (Creates id content ∷ xs) less f = (omega (arith, less, f.0), f.1)
fresh_less n m (Alters id content ∷ xs) less f = fresh_less n m xs less f
fresh_less n m (Deletes id ∷ xs) less f = fresh_less n m xs less f
fresh_less n m (GivesUp ∷ xs) less f = fresh_less n m xs less f

-- ---- what was made

made_joins : (id : ℕ) (xs ys : List Deed) → IsAmong id (created (xs ++ ys)) → IsAmong id (created xs) ⊎ IsAmong id (created ys)
made_joins id [] ys is = inr is
made_joins id (Creates new content ∷ xs) ys (inl here) = inl (inl here)
made_joins id (Creates new content ∷ xs) ys (inr there) = elim (made_joins id xs ys there) [ inl one ↦ inl (inr one) | inr other ↦ inr other ]
made_joins id (Alters altered content ∷ xs) ys is = made_joins id xs ys is
made_joins id (Deletes deleted ∷ xs) ys is = made_joins id xs ys is
made_joins id (GivesUp ∷ xs) ys is = made_joins id xs ys is

made_left : (id : ℕ) (xs ys : List Deed) → IsAmong id (created xs) → IsAmong id (created (xs ++ ys))
made_left id [] ys is = absurd is
made_left id (Creates new content ∷ xs) ys (inl here) = inl here
made_left id (Creates new content ∷ xs) ys (inr there) = inr (made_left id xs ys there)
made_left id (Alters altered content ∷ xs) ys is = made_left id xs ys is
made_left id (Deletes deleted ∷ xs) ys is = made_left id xs ys is
made_left id (GivesUp ∷ xs) ys is = made_left id xs ys is

made_right : (id : ℕ) (xs ys : List Deed) → IsAmong id (created ys) → IsAmong id (created (xs ++ ys))
made_right id [] ys is = is
made_right id (Creates new content ∷ xs) ys is = inr (made_right id xs ys is)
made_right id (Alters altered content ∷ xs) ys is = made_right id xs ys is
made_right id (Deletes deleted ∷ xs) ys is = made_right id xs ys is
made_right id (GivesUp ∷ xs) ys is = made_right id xs ys is

-- ---- an end

end_past : (n : ℕ) (es : List Held) → past n (deletions es ++ GivesUp ∷ []) ≡ n
end_past n [] = refl
end_past n (e ∷ es) = end_past n es

end_made : (id : ℕ) (es : List Held) → IsAmong id (created (deletions es ++ GivesUp ∷ [])) → ⊥
end_made id [] is = is
end_made id (e ∷ es) is = end_made id es is

-- ---- one item

reflects_same : (n : ℕ) (keys : List Held) (said held said' held' : ℕ → Option Content) (made made' : ℕ → Type 0) → Reflects n keys said held made → ((q : ℕ) → said' q ≡ said q) → ((i : ℕ) → held' i ≡ held i)
    → ((i : ℕ) → made' i → made i) → ((i : ℕ) → made i → made' i) → Reflects n keys said' held' made'
reflects_same n keys said held said' held' made made' was says holds to from = record {
  once = was.once;
  recorded = λ key id at. let old = was.recorded key id at in (old.0, says key ∙ old.1, holds id ∙ old.2, old.3, from id old.4);
  apart = was.apart;
  gone = λ id is none. holds id ∙ was.gone id (to id is) none;
  below = λ id is. was.below id (to id is);
}

-- What is made where nothing is created.
only : (A : Type 0) → A ⊎ ⊥ → A
only A (inl a) = a
only A (inr b) = absurd b

one_more : (A : Type 0) (new id : ℕ) → A ⊎ ((new ≡ id) ⊎ ⊥) → A ⊎ (new ≡ id)
one_more A new id (inl a) = inl a
one_more A new id (inr (inl is)) = inr is
one_more A new id (inr (inr b)) = absurd b

one_less : (A : Type 0) (new id : ℕ) → A ⊎ (new ≡ id) → A ⊎ ((new ≡ id) ⊎ ⊥)
one_less A new id (inl a) = inl a
one_less A new id (inr is) = inr (inl is)

-- What a source says and what its deeds leave, after an item and its deeds.
abbrev After : ℕ → List Held → (ℕ → Option Content) → (ℕ → Option Content) → (ℕ → Type 0) → Told → List Deed → Type 0
After n keys said held made item done =
    Reflects (past n done) keys (λ q. told_after q (said q) item) (λ i. fold (content_after i) (held i) done) (λ i. made i ⊎ IsAmong i (created done))

after_add : (n : ℕ) (keys : List Held) (said held : ℕ → Option Content) (made : ℕ → Type 0) (key new : ℕ) (content : Content) (o : Option ℕ) → Reflects n keys said held made → id_at key keys ≡ o
    → Fresh n (addition new content o ++ []) → After n (added_to keys key new o) said held made (told.Add key content) (addition new content o ++ [])
after_add n keys said held made key new content None was at fresh =
    reflects_same (new + 1) _ _ _ _ _ _ _ (created_key n keys said held made key new content was at fresh.0) (λ q. refl) (λ i. refl) (λ i. one_more (made i) new i) (λ i. one_less (made i) new i)
after_add n keys said held made key new content (Some id) was at fresh =
    reflects_same n _ _ _ _ _ _ _ (altered_key n keys said held made key id content was at) (λ q. refl) (λ i. refl) (λ i. only (made i)) (λ i is. inl is)

after_change : (n : ℕ) (keys : List Held) (said held : ℕ → Option Content) (made : ℕ → Type 0) (key : ℕ) (content : Content) (o : Option ℕ) → Reflects n keys said held made → id_at key keys ≡ o
    → ((id : ℕ) × (o ≡ Some id)) → After n keys said held made (told.Change key content) (alteration content o ++ [])
after_change n keys said held made key content None was at known = absurd (none-some known.0 known.1)
after_change n keys said held made key content (Some id) was at known =
    reflects_same n _ _ _ _ _ _ _ (altered_key n keys said held made key id content was at) (λ q. refl) (λ i. refl) (λ i. only (made i)) (λ i is. inl is)

after_gone : (n : ℕ) (keys : List Held) (said held : ℕ → Option Content) (made : ℕ → Type 0) (key : ℕ) (o : Option ℕ) → Reflects n keys said held made → id_at key keys ≡ o
    → ((id : ℕ) × (o ≡ Some id)) → After n (without key keys) said held made (told.Gone key) (deletion o ++ [])
after_gone n keys said held made key None was at known = absurd (none-some known.0 known.1)
after_gone n keys said held made key (Some id) was at known =
    reflects_same n _ _ _ _ _ _ _ (deleted_key n keys said held made key id was at) (λ q. refl) (λ i. refl) (λ i. only (made i)) (λ i is. inl is)

after_end : (n : ℕ) (keys : List Held) (said held : ℕ → Option Content) (made : ℕ → Type 0) → Reflects n keys said held made
    → After n [] said held made told.Ended (deletions (by_id keys) ++ GivesUp ∷ [])
after_end n keys said held made was =
    subst (λ (m : ℕ). Reflects m [] (λ q. None) (λ i. fold (content_after i) (held i) (deletions (by_id keys) ++ GivesUp ∷ [])) (λ i. made i ⊎ IsAmong i (created (deletions (by_id keys) ++ GivesUp ∷ []))))
    (sym (end_past n (by_id keys)))
    (reflects_same n [] _ _ _ _ _ _ (ended_keys n keys said held made was) (λ q. refl) (λ i. fold-append (content_after i) (held i) (deletions (by_id keys)) (GivesUp ∷ []))
    (λ i is. elim is [ inl old ↦ old | inr new ↦ absurd (end_made i (by_id keys) new) ]) (λ i is. inl is))

after_none : (n : ℕ) (keys : List Held) (said held : ℕ → Option Content) (made : ℕ → Type 0) → Reflects n keys said held made → Reflects n keys said held (λ i. made i ⊎ ⊥)
after_none n keys said held made was = reflects_same n keys _ _ _ _ _ _ was (λ q. refl) (λ i. refl) (λ i. only (made i)) (λ i is. inl is)

after_item : (n : ℕ) (keys : List Held) (said held : ℕ → Option Content) (made : ℕ → Type 0) (item : Told) (new : ℕ) → Reflects n keys said held made → IsKnown keys item
    → Fresh n (does keys new item ++ gives_up item) → After n (leaves keys new item) said held made item (does keys new item ++ gives_up item)
after_item n keys said held made (told.Add key content) new was known fresh = after_add n keys said held made key new content (id_at key keys) was refl fresh
after_item n keys said held made (told.Change key content) new was known fresh = after_change n keys said held made key content (id_at key keys) was refl known
after_item n keys said held made (told.Gone key) new was known fresh = after_gone n keys said held made key (id_at key keys) was refl known
after_item n keys said held made told.Ended new was known fresh = after_end n keys said held made was
after_item n keys said held made (told.Bad line) new was known fresh = after_none n keys said held made was
after_item n keys said held made told.Quiet new was known fresh = after_none n keys said held made was
after_item n keys said held made told.Failed new was known fresh = after_none n keys said held made was
after_item n keys said held made told.Memory new was known fresh = after_none n keys said held made was

-- ---- items one after another

after_items : (n : ℕ) (keys : List Held) (said held : ℕ → Option Content) (made : ℕ → Type 0) (dones : List Done) → Reflects n keys said held made → AreKnown keys dones → Fresh n (deeds keys dones)
    → (m : ℕ) × Reflects m (keys_after keys dones) (λ q. fold (told_after q) (said q) (items_of dones)) (λ i. fold (content_after i) (held i) (deeds keys dones)) (λ i. made i ⊎ IsAmong i (created (deeds keys dones)))
after_items n keys said held made [] was known fresh = (n, after_none n keys said held made was)
after_items n keys said held made (done ∷ later) was known fresh =
    let part = does keys done.id done.item ++ gives_up done.item in
    let left = leaves keys done.id done.item in
    let parts = fresh_parts n part (deeds left later) fresh in
    let now = after_item n keys said held made done.item done.id was known.0 parts.0 in
    let rest = after_items (past n part) left (λ q. told_after q (said q) done.item) (λ i. fold (content_after i) (held i) part) (λ i. made i ⊎ IsAmong i (created part)) later now known.1 parts.1 in (
      rest.0,
      reflects_same rest.0 _ _ _ _ _ _ _ rest.1 (λ q. refl) (λ i. fold-append (content_after i) (held i) part (deeds left later))
          (λ i is. elim is [
            | inl old ↦ inl (inl old)
            | inr new ↦ elim (made_joins i part (deeds left later) new) [ inl one ↦ inl (inr one) | inr other ↦ inr other ]
          ])
          (λ i is. elim is [
            | inl before ↦ elim before [ inl old ↦ inl old | inr one ↦ inr (made_left i part (deeds left later) one) ]
            | inr other ↦ inr (made_right i part (deeds left later) other)
          ]),
    )

-- ---- identifiers of a chronicle

-- The entries may follow, one after another.
first_follows : (chronicle : Chronicle) (x : Entry) (xs : List Entry) → IsLegal (extended chronicle (x ∷ xs)) → MayFollow chronicle x
first_follows chronicle x xs legal = legal.follow chronicle.entries x xs refl

rest_legal : (chronicle : Chronicle) (x : Entry) (xs : List Entry) → IsLegal (extended chronicle (x ∷ xs)) → IsLegal (extended (extended chronicle (x ∷ [])) xs)
rest_legal chronicle x xs legal = subst IsLegal (sym (further chronicle x xs)) legal

next_from : (most : ℕ) (action : Action) (id : ℕ) → most + 1 ≤ fold max most (chronicles.created_by action id ++ []) + 1
next_from most Creation id = omega arith
next_from most Deletion id = omega arith
next_from most Alteration id = omega arith

next_grows : (chronicle : Chronicle) (x : Entry) → next_id chronicle ≤ next_id (extended chronicle (x ∷ []))
next_grows chronicle (entry.Event event) =
    let more = next_more chronicle (entry.Event event) in
    let least = next_from (fold max (length chronicle.start.contents) (chronicles.created chronicle.entries)) event.action event.subject.id in
    omega (arith, more, least)
next_grows chronicle (entry.Epoch number) = let more = next_more chronicle (entry.Epoch number) in omega (arith, more)
next_grows chronicle (entry.Trim first) = let more = next_more chronicle (entry.Trim first) in omega (arith, more)

-- A creation takes the next identifier, and the one after it comes next.
next_made : (chronicle : Chronicle) (last new : ℕ) (stamp : List ℕ) (content : Content) (made : Entry) → made ≡ entry.Event (creation last new stamp content) → MayFollow chronicle made
    → (next_id chronicle ≤ new) × (new + 1 ≤ next_id (extended chronicle (made ∷ [])))
next_made chronicle last new stamp content made is may =
    let event = creation last new stamp content in
    let happens : MayHappen chronicle event = subst (MayFollow chronicle) is may in
    let more = next_more chronicle (entry.Event event) in
    let grown : next_id (extended chronicle (made ∷ [])) ≡ next_id (extended chronicle (entry.Event event ∷ [])) = ap (λ (x : Entry). next_id (extended chronicle (x ∷ []))) is in
    (omega (arith, happens.subject.0), omega (arith, grown, more))

fresh_after : (stamp : List ℕ) (chronicle : Chronicle) (deed : Deed) (later : List Deed) (made : Entry) → MakesOne stamp deed made → MayFollow chronicle made → Fresh (next_id (extended chronicle (made ∷ []))) later
    → Fresh (next_id chronicle) (deed ∷ later)
fresh_after stamp chronicle GivesUp later made makes may rest = fresh_less (next_id chronicle) _ later (next_grows chronicle made) rest
fresh_after stamp chronicle (Alters id content) later made makes may rest = fresh_less (next_id chronicle) _ later (next_grows chronicle made) rest
fresh_after stamp chronicle (Deletes id) later made makes may rest = fresh_less (next_id chronicle) _ later (next_grows chronicle made) rest
fresh_after stamp chronicle (Creates new content) later made makes may rest =
    let next = next_made chronicle makes.0.0 new stamp content made makes.0.1 may in
    (next.0, fresh_less (new + 1) _ later next.1 rest)

fresh_nothing : (stamp : List ℕ) (n : ℕ) (done : List Deed) → Make stamp done [] → Fresh n done
fresh_nothing stamp n [] makes = tt
fresh_nothing stamp n (GivesUp ∷ others) makes = fresh_nothing stamp n others makes
fresh_nothing stamp n (Creates id content ∷ others) makes = absurd makes
fresh_nothing stamp n (Alters id content ∷ others) makes = absurd makes
fresh_nothing stamp n (Deletes id ∷ others) makes = absurd makes

fresh_of-step : (stamp : List ℕ) (chronicle : Chronicle) (mark : Mark) (later : List Mark) (done : List Deed) (test : Bool) → IsLegal (extended chronicle (entries (mark ∷ later)))
    → Make stamp done (entries (cond test (mark ∷ filter (λ (m : Mark). m.own) later) (filter (λ (m : Mark). m.own) later)))
    → ((next : List Deed) → Make stamp next (owned later) → Fresh (next_id (extended chronicle (mark.entry ∷ []))) next) → Fresh (next_id chronicle) done
fresh_of-step stamp chronicle mark later done true legal makes rest =
    let one = first stamp done mark.entry (owned later) makes in
    one.fresh (next_id chronicle)
    (fresh_after stamp chronicle one.deed one.later mark.entry one.one (first_follows chronicle mark.entry (entries later) legal) (rest one.later one.rest))
fresh_of-step stamp chronicle mark later done false legal makes rest = fresh_less (next_id chronicle) _ done (next_grows chronicle mark.entry) (rest done makes)

fresh_of : (stamp : List ℕ) (chronicle : Chronicle) (marks : List Mark) (done : List Deed) → IsLegal (extended chronicle (entries marks)) → Make stamp done (owned marks) → Fresh (next_id chronicle) done
fresh_of stamp chronicle [] done legal makes = fresh_nothing stamp (next_id chronicle) done makes
fresh_of stamp chronicle (mark ∷ later) done legal makes =
    fresh_of-step stamp chronicle mark later done mark.own legal makes
    (λ next more. fresh_of stamp (extended chronicle (mark.entry ∷ [])) later next (rest_legal chronicle mark.entry (entries later) legal) more)

-- ---- the law

no_keys : (n : ℕ) (held : ℕ → Option Content) → Reflects n [] (λ q. None) held (λ i. ⊥)
no_keys n held = record {
  once = tt;
  recorded = λ key id at. absurd (none-some id at);
  apart = λ one other id a b. absurd (none-some id a);
  gone = λ id is none. absurd is;
  below = λ id is. absurd is;
}

pub keys_are_recorded : KeysAreRecorded
keys_are_recorded stamp chronicle marks dones legal known makes alone =
    let before : ℕ → Option Content = λ i. option_map (λ (r : Record). r.content) (record_of i (live_now chronicle)) in
    let done = deeds [] dones in
    let fresh = fresh_of stamp chronicle marks done legal makes in
    let all = after_items (next_id chronicle) [] (λ q. None) before (λ i. ⊥) dones (no_keys (next_id chronicle) before) known fresh in
    record {
      recorded = λ key id at.
          let one = all.1.recorded key id at in
          let ours : IsAmong id (created done) = elim one.4 [ inl other ↦ absurd other | inr is ↦ is ] in
          (one.0, one.1, deeds_are_recorded stamp chronicle marks done id (before id) makes (alone id ours) (known_record id (live_now chronicle)) ∙ ap (λ (c : Option Content). as_record id c) one.2);
      apart = all.1.apart;
      gone = λ id is none.
          deeds_are_recorded stamp chronicle marks done id (before id) makes (alone id is) (known_record id (live_now chronicle))
          ∙ ap (λ (c : Option Content). as_record id c) (all.1.gone id (inr is) none);
    }
