-- What is wrong with a link, by what is known of its name.
use Rattle.std.proofs.Common.{◌≡◌, ℕ, Bool, true, false, not, ◌&&◌, ◌||◌, true≢false, List, [], ◌∷◌, ◌++◌, take, drop, Option, Some, None, if◌then◌else◌, refl, sym, ap, ◌∙◌, subst, bytes_eq, is_some, unwrap_or, take-append-drop}
use Rattle.std.proofs.lemmas.Slice.Eq.{bytes_eq-Decides}
use Rattle.std.specs.List.{list_any}
use Rattle.coswid_tag.specs.declared.link.LinkEntry.{LinkEntry}
use Rattle.coswid_tag.specs.declared.tag.Tag.{Tag}
use Rattle.coswid_tag.specs.Codes.{patches, requires_it, supplements}
use Rattle.coswid_links.specs.declared.finding.LinkFinding.{LinkFinding}
use Rattle.coswid_links.specs.Aims.{scheme, name_of, is_called, is_primary, is_reference, aims_at, aims_at_some, aims_at_primary}
use Rattle.coswid_links.specs.Listed.{finding}
use Rattle.coswid_links.specs.Links.{link_findings}
use Rattle.coswid_links.specs.Names.{named_in, primary_of, judged, listed}

-- the findings, by what they rest on: whether the link is a reference, aims at some tag, aims at
-- some primary one, requires it, changes it
abbrev told : Bool → Bool → Bool → Bool → Bool → ℕ → ℕ → List LinkFinding
told r s t q c i j = finding 1 (r && not s && not q) i j ++ finding 2 (c && s && not t) i j ++ finding 3 (r && not s && q) i j

told_by : (s t q c : Bool) (i j : ℕ) → listed (judged (if s then Some t else None) q c) i j ≡ told true s t q c i j
told_by false t true true i j = refl
told_by false t true false i j = refl
told_by false t false true i j = refl
told_by false t false false i j = refl
told_by true true true true i j = refl
told_by true true true false i j = refl
told_by true true false true i j = refl
told_by true true false false i j = refl
told_by true false true true i j = refl
told_by true false true false i j = refl
told_by true false false true i j = refl
told_by true false false false i j = refl

told_none : (t q c : Bool) (i j : ℕ) → [] ≡ told false false t q c i j
told_none t q true i j = refl
told_none t q false i j = refl

never : {A : Type 0} (p : A → Bool) (xs : List A) → ((x : A) → p x ≡ false) → list_any p xs ≡ false
never p [] h = refl
never p (x ∷ xs) h = ap (λ (b : Bool). b || list_any p xs) (h x) ∙ never p xs h

bytes_same : (xs ys : List ℕ) → bytes_eq xs ys ≡ true → xs ≡ ys
bytes_same xs ys e = (bytes_eq-Decides xs ys).0 e

unnamed : (b : Bool) (rest : List ℕ) → (if b then Some rest else None) ≡ None → b ≡ false
unnamed true rest e = absurd (true≢false (ap (λ (o : Option (List ℕ)). is_some o) e))
unnamed false rest e = refl

named : (b : Bool) (rest name : List ℕ) → (if b then Some rest else None) ≡ Some name → (b ≡ true) × (rest ≡ name)
named true rest name e = (refl, ap (λ (o : Option (List ℕ)). unwrap_or o []) e)
named false rest name e = absurd (true≢false (sym (ap (λ (o : Option (List ℕ)). is_some o) e)))

-- a link whose reference begins with another text aims at nothing
begins : (href name : List ℕ) (b : Bool) → bytes_eq href (scheme ++ name) ≡ b → bytes_eq (take 5 href) scheme ≡ false → b ≡ false
begins href name false e h = refl
begins href name true e h =
    let same : href ≡ scheme ++ name = bytes_same href (scheme ++ name) e in
    absurd (true≢false (subst (λ (xs : List ℕ). bytes_eq (take 5 xs) scheme ≡ false) same h))

pub finds_nothing : (gs : List Tag) (l : LinkEntry) (i j : ℕ) → named_in l.href ≡ None → [] ≡ link_findings gs i j l
finds_nothing gs l i j none =
    let outside = unnamed (bytes_eq (take 5 l.href) scheme) (drop 5 l.href) none in
    let nothing = never (aims_at l) gs (λ g. begins l.href (name_of g.tag_id) (aims_at l g) refl outside) in
    told_none (aims_at_primary gs l) (requires_it l.rel) (patches l.rel || supplements l.rel) i j
    ∙ ap (λ (b : Bool). told b false (aims_at_primary gs l) (requires_it l.rel) (patches l.rel || supplements l.rel) i j) (sym outside)
    ∙ ap (λ (b : Bool). told (is_reference l) b (aims_at_primary gs l) (requires_it l.rel) (patches l.rel || supplements l.rel) i j) (sym nothing)

pub finds : (gs : List Tag) (l : LinkEntry) (i j : ℕ) (name : List ℕ) (known : Option Bool) → named_in l.href ≡ Some name → known ≡ primary_of gs name
    → listed (judged known (requires_it l.rel) (patches l.rel || supplements l.rel)) i j ≡ link_findings gs i j l
finds gs l i j name known is known_is =
    let q = requires_it l.rel in
    let c = patches l.rel || supplements l.rel in
    let some = list_any (is_called name) gs in
    let primary = list_any (λ g. is_called name g && is_primary g) gs in
    let parts = named (bytes_eq (take 5 l.href) scheme) (drop 5 l.href) name is in
    let front : take 5 l.href ≡ scheme = bytes_same (take 5 l.href) scheme parts.0 in
    let whole : l.href ≡ scheme ++ name =
    sym (take-append-drop 5 l.href) ∙ ap (λ (xs : List ℕ). xs ++ drop 5 l.href) front ∙ ap (λ (xs : List ℕ). scheme ++ xs) parts.1 in
    let aims : aims_at_some gs l ≡ some = ap (λ (href : List ℕ). list_any (λ g. bytes_eq href (scheme ++ name_of g.tag_id)) gs) whole in
    let aims_primary : aims_at_primary gs l ≡ primary =
    ap (λ (href : List ℕ). list_any (λ g. bytes_eq href (scheme ++ name_of g.tag_id) && is_primary g) gs) whole in
    ap (λ (o : Option Bool). listed (judged o q c) i j) known_is
    ∙ told_by some primary q c i j
    ∙ ap (λ (b : Bool). told b some primary q c i j) (sym parts.0)
    ∙ ap (λ (b : Bool). told (is_reference l) b primary q c i j) (sym aims)
    ∙ ap (λ (b : Bool). told (is_reference l) (aims_at_some gs l) b q c i j) (sym aims_primary)
