-- What is listed of pairs of tags, a tag at a time.
use Rattle.std.proofs.Common.{◌≡◌, ℕ, zero, suc, ◌+◌, ◌-◌, ◌<◌, ◌&&◌, not, Bool, true, false, List, [], ◌∷◌, ◌++◌, length, get_or, drop, refl, sym, ap, ◌∙◌, subst, arith, length-drop, get_or-drop, Result, Ok, Err, OnOk}
use Rattle.std.proofs.lemmas.List.{drop_all, drop_more, get_or_default}
use Rattle.coswid_tag.specs.declared.tag.Tag.{Tag}
use Rattle.coswid_links.specs.declared.finding.LinkFinding.{LinkFinding}
use Rattle.coswid_links.specs.RivalChains.{all_rivals, has, rivals, rival_findings, rivals_of, span}
use Rattle.coswid_links.specs.Listed.{finding, each_from, each_pair_from}
use Rattle.coswid_links.specs.FirstEqual.{Tells}
use Rattle.coswid_links.proofs.Numbers.{some_of}
use Rattle.coswid_links.specs.Rivals.{are_rivals, same_release, same_spelling, pair_findings}

-- What is given of places one after another is what is listed of the values there.
span_each : {A B : Type 0} (f : ℕ → A → List B) (h : ℕ → List B) (xs : List A) (n : ℕ)
    → ((j : ℕ) (d : A) → j < length xs → h (n + j) ≡ f (n + j + 1) (get_or xs j d)) → span h n (length xs) ≡ each_from f (n + 1) xs
span_each f h [] n same = refl
span_each f h (x ∷ xs) n same =
    let none : n + 0 ≡ n = omega arith in
    let here : h n ≡ f (n + 1) x = subst (λ (m : ℕ). h m ≡ f (m + 1) x) none (same 0 x (omega arith)) in
    let next : (j : ℕ) → n + suc j ≡ n + 1 + j = λ j. omega arith in
    ap (λ (ys : List _). ys ++ span h (n + 1) (length xs)) here
    ∙ ap (λ (ys : List _). f (n + 1) x ++ ys)
    (span_each f h xs (n + 1) (λ j d lt. subst (λ (m : ℕ). h m ≡ f (m + 1) (get_or xs j d)) (next j) (same (suc j) d (omega arith))))

-- whether the tags are of one release and are written alike
abbrev pub one_content : Tag → Tag → Bool
one_content g h = same_release g h && same_spelling g h

of_one_release : (a b : Bool) → (a && not (a && b)) ≡ (a && not b)
of_one_release true b = refl
of_one_release false b = refl

module _ (gs : List Tag) (releases contents : List ℕ) (by_release : Tells same_release gs releases) (by_content : Tells one_content gs contents) where
  -- There is a number of each kind for each tag.
  pub same_lengths : length contents ≡ length releases
  same_lengths = by_content.one_each ∙ sym by_release.one_each

  rivals_told : (i k : ℕ) (d : Tag) → i < length gs → k < length gs → rivals releases contents i k ≡ are_rivals (get_or gs i d) (get_or gs k d)
  rivals_told i k d lt below =
      ap (λ (b : Bool). b && not (has contents (get_or contents i 0) k)) (by_release.apart i k d lt below)
      ∙ ap (λ (b : Bool). same_release (get_or gs i d) (get_or gs k d) && not b) (by_content.apart i k d lt below)
      ∙ of_one_release (same_release (get_or gs i d) (get_or gs k d)) (same_spelling (get_or gs i d) (get_or gs k d))

  rivals_listed : (i : ℕ) (g : Tag) → i < length gs → g ≡ get_or gs i g
      → rivals_of releases contents i ≡ each_from (pair_findings (i + 1) g) (i + 1 + 1) (drop (i + 1) gs)
  rivals_listed i g lt is =
      let count : length releases - (i + 1) ≡ length (drop (i + 1) gs) = ap (λ (n : ℕ). n - (i + 1)) by_release.one_each ∙ sym (length-drop (i + 1) gs) in
      ap (λ (n : ℕ). span (rival_findings releases contents i) (i + 1) n) count
      ∙ span_each (pair_findings (i + 1) g) (rival_findings releases contents i) (drop (i + 1) gs) (i + 1)
      (λ j d below.
      let within : i + 1 + j < length gs = omega (arith, length-drop (i + 1) gs) in
      ap (λ (b : Bool). finding 4 b (i + 1) (i + 1 + j + 1)) (rivals_told i (i + 1 + j) d lt within)
      ∙ ap (λ (h : Tag). pair_findings (i + 1) h (i + 1 + j + 1) (get_or gs (i + 1 + j) d)) (get_or_default gs i d g lt ∙ sym is)
      ∙ ap (λ (h : Tag). pair_findings (i + 1) g (i + 1 + j + 1) h) (sym (get_or-drop (i + 1) gs j d)))

  -- The findings of the places from one on are those of the pairs of the tags there.
  pairs_from : (i n : ℕ) → i + n ≡ length gs → span (rivals_of releases contents) i n ≡ each_pair_from pair_findings (i + 1) (drop i gs)
  pairs_from i zero all = ap (λ (ys : List Tag). each_pair_from pair_findings (i + 1) ys) (sym (drop_all i gs (omega (arith, all))))
  pairs_from i (suc n) all =
      let lt : i < length gs = omega (arith, all) in
      let some = some_of gs (omega (arith, lt)) in
      let g = get_or gs i some in
      let is : g ≡ get_or gs i g = get_or_default gs i some g lt in
      let parts : g ∷ drop (i + 1) gs ≡ drop i gs = ap (λ (h : Tag). h ∷ drop (i + 1) gs) is ∙ sym (drop_more gs i g lt) in
      ap (λ (ys : List LinkFinding). ys ++ span (rivals_of releases contents) (i + 1) n) (rivals_listed i g lt is)
      ∙ ap (λ (ys : List LinkFinding). each_from (pair_findings (i + 1) g) (i + 1 + 1) (drop (i + 1) gs) ++ ys) (pairs_from (i + 1) n (omega (arith, all)))
      ∙ ap (λ (ys : List Tag). each_pair_from pair_findings (i + 1) ys) parts

  -- So those of all places are those of all pairs.
  pub all_pairs : all_rivals releases contents ≡ each_pair_from pair_findings 1 gs
  all_pairs = pairs_from 0 (length releases) (omega (arith, by_release.one_each))

-- What was put is the same in other words.
pub put_as : {T E : Type 0} (result : Result T E) (old given wanted new : List LinkFinding) → given ≡ wanted → OnOk result (new ≡ old ++ given) → OnOk result (new ≡ old ++ wanted)
put_as (Ok value) old given wanted new same put = put ∙ ap (λ (ys : List LinkFinding). old ++ ys) same
put_as (Err why) old given wanted new same put = put
