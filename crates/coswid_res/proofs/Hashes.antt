-- An array of another number than two is no hash, and a hash is spelled in its three parts.
use Rattle.std.proofs.Common.{◌≡◌, ℕ, ℤ, List, [], ◌∷◌, ◌++◌, length, map, refl, sym, ap, ◌∙◌, subst, Option, append_assoc}
use Rattle.std.proofs.lemmas.List.{append-nil}
use Rattle.cbor_det.specs.Canonical.{canon, short_head}
use Rattle.cbor_det.specs.Term.{integer, octets, array, term, no_terms}
use Rattle.cbor_det.specs.declared.item.Item.{Item}
use Rattle.coswid_res.specs.declared.fault.FormFault.{FormFault}
use Rattle.coswid_res.specs.declared.fault.FormRefused.{FormRefused}
use Rattle.coswid_res.specs.declared.fault.FormRefused.TheVariants as refused
use Rattle.cbor_det.specs.View.{view, terms_of}
use Rattle.coswid_res.specs.Fault.{hash_fault, wrong_form}
use Rattle.coswid_res.specs.Reading.{Tells}

others : (xs : List Item) → (length xs ≡ 2 → ⊥) → hash_fault (terms_of (map view xs)) ≡ wrong_form
others (x ∷ y ∷ []) not = absurd (not refl)
others xs not = refl

here_told : (first : Option FormFault) (e : FormRefused) → first ≡ wrong_form → e ≡ refused.Form (record { kind = 2; path = [] }) → Tells first e
here_told first e wrong is = let P : FormRefused → Type 0 = λ r. Tells first r in subst P (sym is) wrong

pub other_told : (xs : List Item) (e : FormRefused) → (length xs ≡ 2 → ⊥) → e ≡ refused.Form (record { kind = 2; path = [] }) → Tells (hash_fault (terms_of (map view xs))) e
other_told xs e not is = here_told (hash_fault (terms_of (map view xs))) e (others xs not) is

pub hash_laid : (algorithm : ℤ) (value bytes start one two after : List ℕ) → one ≡ start ++ short_head 4 2 → two ≡ one ++ canon (integer algorithm) → after ≡ two ++ canon (octets bytes) → bytes ≡ value
    → after ≡ start ++ canon (array (term (integer algorithm) (term (octets value) no_terms)))
hash_laid algorithm value bytes start one two after first second third is =
    third ∙ ap (λ (o : List ℕ). o ++ canon (octets bytes)) (second ∙ ap (λ (o : List ℕ). o ++ canon (integer algorithm)) first)
    ∙ append_assoc (start ++ short_head 4 2) (canon (integer algorithm)) (canon (octets bytes))
    ∙ append_assoc start (short_head 4 2) (canon (integer algorithm) ++ canon (octets bytes))
    ∙ ap (λ (o : List ℕ). start ++ (short_head 4 2 ++ (canon (integer algorithm) ++ o))) (ap (λ (s : List ℕ). canon (octets s)) is ∙ sym (append-nil (canon (octets value))))
