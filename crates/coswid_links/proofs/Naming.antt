-- The names of tags, a tag at a time.
use Rattle.std.proofs.Common.{◌≡◌, ℕ, ◌+◌, ◌<◌, Bool, true, false, ◌&&◌, ◌||◌, true≢false, List, [], ◌∷◌, length, take, get_or, Option, Some, None, unwrap_or, if◌then◌else◌, ⊎_elim, refl, sym, ap, ◌∙◌}
use Rattle.std.proofs.Common.{cond, bytes_eq}
use Rattle.std.specs.List.{list_any}
use Rattle.std.proofs.lemmas.Bool.{cases_Bool, cond-true, cond-false}
use Rattle.std.proofs.lemmas.Cmp.{nat_list_eq_equiv}
use Rattle.std.proofs.lemmas.List.Folds.{list_any_more}
use Rattle.std.proofs.lemmas.Slice.Eq.{bytes_eq-Decides}
use Rattle.coswid_tag.specs.declared.tag.Tag.{Tag}
use Rattle.coswid_links.specs.Aims.{is_called, is_primary}
use Rattle.coswid_links.specs.Names.{primary_of}

neither : (a b s t : Bool) → (a || s) ≡ false → (s ≡ false → t ≡ false) → ((a && b) || t) ≡ false
neither true b s t h f = absurd (true≢false h)
neither false b s t h f = f h

-- Where nothing passes the first test, nothing passes both.
none_both : {A : Type 0} (p q : A → Bool) (xs : List A) → list_any p xs ≡ false → list_any (λ x. p x && q x) xs ≡ false
none_both p q [] h = refl
none_both p q (x ∷ xs) h = neither (p x) (q x) (list_any p xs) (list_any (λ y. p y && q y) xs) h (none_both p q xs)

or_false : (t : Bool) → t ≡ (t || false)
or_false true = refl
or_false false = refl

one_more : (a q s t : Bool) → (s ≡ false → t ≡ false)
    → (if a then Some (unwrap_or (if s then Some t else None) false || q) else (if s then Some t else None))
    ≡ (if (s || a) then Some (t || (a && q)) else None)
one_more true q true t f = refl
one_more true q false t f = ap (λ (b : Bool). Some (b || q)) (sym (f refl))
one_more false q true t f = ap (λ (b : Bool). Some b) (or_false t)
one_more false q false t f = refl

-- What is known of a name where another one was put.
pub name_put : (old new : List ℕ → Option Bool) (put own name : List ℕ) (value known primary : Bool) → put ≡ own → new name ≡ cond (bytes_eq put name) (Some value) (old name)
    → known ≡ unwrap_or (old put) false → value ≡ (known || primary)
    → new name ≡ (if bytes_eq name own then Some (unwrap_or (old name) false || primary) else old name)
name_put old new put own name value known primary put_is step known_is value_is =
    let turned : bytes_eq name own ≡ bytes_eq put name = ap (λ (xs : List ℕ). bytes_eq name xs) (sym put_is) ∙ nat_list_eq_equiv.symm name put in
    let wanted = Some (unwrap_or (old name) false || primary) in
    ⊎_elim
    (λ same.
    let one : put ≡ name = (bytes_eq-Decides put name).0 same in
    step ∙ cond-true (bytes_eq put name) (Some value) (old name) same
    ∙ ap (λ (b : Bool). Some b) (value_is ∙ ap (λ (b : Bool). b || primary) (known_is ∙ ap (λ (xs : List ℕ). unwrap_or (old xs) false) one))
    ∙ sym (cond-true (bytes_eq name own) wanted (old name) (turned ∙ same)))
    (λ apart.
    step ∙ cond-false (bytes_eq put name) (Some value) (old name) apart ∙ sym (cond-false (bytes_eq name own) wanted (old name) (turned ∙ apart)))
    (cases_Bool (bytes_eq put name))

-- What is known of a name with one tag more.
pub known_more : (gs : List Tag) (i : ℕ) (g : Tag) (name : List ℕ) (old new : Option Bool) → i < length gs → g ≡ get_or gs i g
    → old ≡ primary_of (take i gs) name
    → new ≡ (if is_called name g then Some (unwrap_or old false || is_primary g) else old)
    → new ≡ primary_of (take (i + 1) gs) name
known_more gs i g name old new lt at before step =
    let p : Tag → Bool = λ h. is_called name h in
    let q : Tag → Bool = λ h. is_primary h in
    let some = list_any p (take i gs) in
    let primary = list_any (λ h. p h && q h) (take i gs) in
    let called = list_any_more p gs i g lt ∙ ap (λ (h : Tag). some || p h) (sym at) in
    let both = list_any_more (λ h. p h && q h) gs i g lt ∙ ap (λ (h : Tag). primary || (p h && q h)) (sym at) in
    step
    ∙ ap (λ (o : Option Bool). if p g then Some (unwrap_or o false || q g) else o) before
    ∙ one_more (p g) (q g) some primary (none_both p q (take i gs))
    ∙ ap (λ (b : Bool). if b then Some (primary || (p g && q g)) else None) (sym called)
    ∙ ap (λ (b : Bool). if list_any p (take (i + 1) gs) then Some b else None) (sym both)
