-- A directory that was entered may be left: the path is cut where its parts begin.
use Rattle.std.proofs.Common.{◌≡◌, ◌≤◌, ℕ, List, [], ◌∷◌, ◌++◌, length, take, IsUtf8, IsCharBoundary, refl, sym, ap, subst, ◌∙◌, arith}
use Rattle.std.proofs.lemmas.List.{append-nil, append_assoc, length-take, take_at}
use Rattle.std.proofs.lemmas.Str.{IsCharBoundary-from_take}
use Rattle.coswid_res.specs.Listing.{with_part}

extends : (path part : List ℕ) → (more : List ℕ) × (with_part path part ≡ path ++ more)
extends [] part = (part, refl)
extends (octet ∷ path) [] = ([], sym (append-nil (octet ∷ path)))
extends (octet ∷ path) (first ∷ part) = (0x2f ∷ first ∷ part, refl)

cut_back : (path location name : List ℕ) → take (length path) (with_part (with_part path location) name) ≡ path
cut_back path location name =
    let one = extends path location in
    let two = extends (with_part path location) name in
    ap (λ (p : List ℕ). take (length path) p) (two.1 ∙ ap (λ (p : List ℕ). p ++ two.0) one.1 ∙ append_assoc path one.0 two.0) ∙ take_at path (one.0 ++ two.0) (length path) refl

pub may_be_cut : (before location name after : List ℕ) (len : ℕ) → IsUtf8 before → IsUtf8 after → len ≡ length before → after ≡ with_part (with_part before location) name → IsCharBoundary after len
may_be_cut before location name after len utf8 all same is =
    let kept : take len after ≡ before = ap (λ (n : ℕ). take n after) same ∙ ap (λ (p : List ℕ). take (length before) p) is ∙ cut_back before location name in
    let within : len ≤ length after = omega (arith, ap length kept, length-take len after, same) in
    IsCharBoundary-from_take after len all within (subst IsUtf8 (sym kept) utf8)
