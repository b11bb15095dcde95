-- A walk from rival to rival of a place, and what is known of places on a way from the last to the
-- first.
use Rattle.std.proofs.Common.{◌≡◌, ℕ, suc, ◌+◌, ◌-◌, ◌<◌, ◌≤◌, Bool, true, false, not, ◌&&◌, List, [], ◌∷◌, ◌++◌, length, set, slice_index, slice_index_or, Option, Some, None, IfSome, ⊎_elim, append_assoc, sym, ap, ◌∙◌, subst, arith, eq-eqb, ne_eqb, eqb-true, get_or-set_other}
use Rattle.std.proofs.lemmas.Bool.{cases_eq, and_parts, and_left, and_right, and_from, not_from_true, not_from_false}
use Rattle.std.proofs.lemmas.Grind.{get_or-set_at}
use Rattle.coswid_links.specs.declared.rival_chain.Following.{Following}
use Rattle.coswid_links.specs.declared.finding.LinkFinding.{LinkFinding}
use Rattle.coswid_links.specs.RivalChains.{IsFirst, IsFollowing, has, of_release, rivals, rival_findings, rivals_of}
use Rattle.coswid_links.specs.Listed.{finding}
use Rattle.coswid_links.proofs.Firsts.{first_here, first_earlier}
use Rattle.coswid_links.proofs.Spans.{from_first, span_first, walks_on}

-- Where each number stands first, from a place on: the one at the place is known in addition.
pub latest_more : (numbers : List ℕ) (place : ℕ) (latest : List (Option ℕ)) → place < length numbers → slice_index numbers place < length latest
    → ((number : ℕ) (d : Option ℕ) → number < length numbers → IsFirst (has numbers number) (place + 1) (length numbers) (slice_index_or latest number d))
    → (number : ℕ) (d : Option ℕ) → number < length numbers
    → IsFirst (has numbers number) place (length numbers) (slice_index_or (set latest (slice_index numbers place) (Some place)) number d)
latest_more numbers place latest lt room known number d below =
    let here = slice_index numbers place in
    ⊎_elim
    (λ same. subst (λ (r : Option ℕ). IsFirst (has numbers number) place (length numbers) r)
    (sym (get_or-set_at latest here number (Some place) d same room))
    (first_here (has numbers number) place (length numbers) lt (eq-eqb number here same)))
    (λ apart. subst (λ (r : Option ℕ). IsFirst (has numbers number) place (length numbers) r)
    (sym (get_or-set_other latest here number (Some place) d apart))
    (first_earlier (has numbers number) place (length numbers) (slice_index_or latest number d) (ne_eqb number here apart) (known number d below)))
    (cases_eq number here)

-- What follows each place, from a place on: what follows the place is known in addition.
pub following_more : (releases contents : List ℕ) (place to : ℕ) (followings : List Following) (new : Following) → place < length followings → IsFollowing releases contents place new
    → ((at : ℕ) (d : Following) → place + 1 ≤ at → at < to → IsFollowing releases contents at (slice_index_or followings at d))
    → (at : ℕ) (d : Following) → place ≤ at → at < to → IsFollowing releases contents at (slice_index_or (set followings place new) at d)
following_more releases contents place to followings new lt is known at d ge below = ⊎_elim
    (λ same. subst (λ (b : Following). IsFollowing releases contents at b) (sym (get_or-set_at followings place at new d same lt))
    (subst (λ (k : ℕ). IsFollowing releases contents k new) (sym same) is))
    (λ apart. subst (λ (b : Following). IsFollowing releases contents at b) (sym (get_or-set_other followings place at new d apart)) (known at d (omega arith) below))
    (cases_eq at place)

-- It is known of a place that was found after it.
pub following_there : (releases contents : List ℕ) (test : ℕ → Bool) (from to : ℕ) (followings : List Following) (r : Option ℕ) → IsFirst test from to r
    → ((at : ℕ) (d : Following) → from ≤ at → at < to → IsFollowing releases contents at (slice_index_or followings at d))
    → IfSome r (λ m. (d : Following) → IsFollowing releases contents m (slice_index_or followings m d))
following_there releases contents test from to followings None is known = tt
following_there releases contents test from to followings (Some m) is known = λ d. known m d is.0 is.1

-- what is left of a walk
abbrev pub walk_left : ℕ → Option ℕ → ℕ
walk_left to None = 0
walk_left to (Some m) = suc (to - m)

nothing : (b : Bool) (i j : ℕ) → b ≡ false → finding 4 b i j ≡ []
nothing b i j e = ap (λ (t : Bool). finding 4 t i j) e

module _ (releases contents : List ℕ) (first : ℕ) where
  no_rival : (k : ℕ) → rivals releases contents first k ≡ false → rival_findings releases contents first k ≡ []
  no_rival k e = nothing (rivals releases contents first k) (first + 1) (k + 1) e

  -- On a walk: what was put, and what is to come from the place on, is all; the place is of the
  -- first one's release.
  pub record Walks (before found : List LinkFinding) (at : Option ℕ) : Type 0 where
    pub put : found ++ from_first (rival_findings releases contents first) (length releases) at ≡ before ++ rivals_of releases contents first
    pub place : IfSome at (λ m. (m < length releases) × (slice_index releases first ≡ slice_index releases m))

  place_of : (test : ℕ → Bool) (from : ℕ) (r : Option ℕ) → ((k : ℕ) → test k ≡ true → slice_index releases first ≡ slice_index releases k)
      → IsFirst test from (length releases) r → IfSome r (λ m. (m < length releases) × (slice_index releases first ≡ slice_index releases m))
  place_of test from None h is = tt
  place_of test from (Some m) h is = (is.1, h m is.2)

  pub walk_begins : (before : List LinkFinding) (at : Option ℕ) → first < length releases
      → IsFirst (rivals releases contents first) (first + 1) (length releases) at → Walks before before at
  walk_begins before at lt is = record {
    put = ap (λ (xs : List LinkFinding). before ++ xs)
        (sym (span_first (rival_findings releases contents first) (rivals releases contents first) (first + 1) (length releases) at (omega arith) no_rival is));
    place = place_of (rivals releases contents first) (first + 1) at
        (λ k e. eqb-true (slice_index releases first) (slice_index releases k) (and_parts (of_release releases first k) (not (has contents (slice_index contents first) k)) e).0) is;
  }

  module _ (before found : List LinkFinding) (m : ℕ) (walks : Walks before found (Some m)) where
    one_release : (k : ℕ) → of_release releases first k ≡ of_release releases m k
    one_release k = ap (λ (r : ℕ). has releases r k) walks.place.1

    pub walks_past : (next : Option ℕ) → slice_index contents m ≡ slice_index contents first
        → IsFirst (rivals releases contents m) (m + 1) (length releases) next → Walks before found next
    walks_past next alike is =
        let same : (k : ℕ) → rivals releases contents first k ≡ rivals releases contents m k =
        λ k. ap (λ (b : Bool). b && not (has contents (slice_index contents first) k)) (one_release k)
        ∙ ap (λ (s : ℕ). of_release releases m k && not (has contents s k)) (sym alike) in
        let here : rival_findings releases contents first m ≡ [] =
        no_rival m (and_right (of_release releases first m) (not (has contents (slice_index contents first) m)) (not_from_true _ (eq-eqb (slice_index contents first) (slice_index contents m) (sym alike)))) in
        record {
          put = ap (λ (xs : List LinkFinding). found ++ (xs ++ from_first (rival_findings releases contents first) (length releases) next)) (sym here)
              ∙ ap (λ (xs : List LinkFinding). found ++ xs)
              (sym (walks_on (rival_findings releases contents first) (rivals releases contents m) m (length releases) next walks.place.0 (λ k e. no_rival k (same k ∙ e)) is))
              ∙ walks.put;
          place = place_of (rivals releases contents m) (m + 1) next
              (λ k e. walks.place.1 ∙ eqb-true (slice_index releases m) (slice_index releases k) (and_parts (of_release releases m k) (not (has contents (slice_index contents m) k)) e).0) is;
        }

    pub walks_over : (next : Option ℕ) (one : LinkFinding) → one ≡ record { kind = 4; first = first + 1; second = m + 1 } → (slice_index contents m ≡ slice_index contents first → ⊥)
        → IsFirst (of_release releases m) (m + 1) (length releases) next → Walks before (found ++ one ∷ []) next
    walks_over next one one_is apart is =
        let shows : rivals releases contents first m ≡ true =
        and_from (of_release releases first m) (not (has contents (slice_index contents first) m)) (eq-eqb (slice_index releases first) (slice_index releases m) walks.place.1)
        (not_from_false _ (ne_eqb (slice_index contents first) (slice_index contents m) (λ q. apart (sym q)))) in
        let here : rival_findings releases contents first m ≡ one ∷ [] =
        ap (λ (b : Bool). finding 4 b (first + 1) (m + 1)) shows ∙ ap (λ (x : LinkFinding). x ∷ []) (sym one_is) in
        record {
          put = append_assoc found (one ∷ []) (from_first (rival_findings releases contents first) (length releases) next)
              ∙ ap (λ (xs : List LinkFinding). found ++ (xs ++ from_first (rival_findings releases contents first) (length releases) next)) (sym here)
              ∙ ap (λ (xs : List LinkFinding). found ++ xs)
              (sym (walks_on (rival_findings releases contents first) (of_release releases m) m (length releases) next walks.place.0
              (λ k e. no_rival k (and_left (of_release releases first k) (not (has contents (slice_index contents first) k)) (one_release k ∙ e))) is))
              ∙ walks.put;
          place = place_of (of_release releases m) (m + 1) next
              (λ k e. walks.place.1 ∙ eqb-true (slice_index releases m) (slice_index releases k) e) is;
        }
