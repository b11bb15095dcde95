-- The text of octets, by the prefix of them that stands for itself.
use Rattle.std.proofs.Common.{◌≡◌, ℕ, suc, ◌+◌, Bool, true, false, cond, List, [], ◌∷◌, ◌++◌, length, take, drop, refl, sym, ap, ◌∙◌, append_assoc, arith}
use Rattle.std.specs.Prelude.{◌==◌}
use Rattle.std.proofs.lemmas.List.{append-nil}
use Rattle.std.specs.List.{flat_map, prefix_len}
use Rattle.wire_base.specs.Escaped.{escaped, escaped_octet, hex_octet, is_plain}

one_more : (n : ℕ) → suc n ≡ 1 + n
one_more n = omega arith

text_step : (octet : ℕ) (octets : List ℕ) (plain : Bool) (n : ℕ) → is_plain octet ≡ plain → flat_map escaped_octet octets ≡ take n octets ++ flat_map escaped_octet (drop n octets)
    → flat_map escaped_octet (octet ∷ octets) ≡ take (cond plain (1 + n) 0) (octet ∷ octets) ++ flat_map escaped_octet (drop (cond plain (1 + n) 0) (octet ∷ octets))
text_step octet octets true n is later = ap (λ (p : Bool). cond p (octet ∷ []) (hex_octet octet) ++ flat_map escaped_octet octets) is ∙ ap (λ (o : List ℕ). octet ∷ o) later
    ∙ ap (λ (m : ℕ). take m (octet ∷ octets) ++ flat_map escaped_octet (drop m (octet ∷ octets))) (one_more n)
text_step octet octets false n is later = refl

-- The text is that prefix, and the text of the octets after it.
front_text : (octets : List ℕ) → flat_map escaped_octet octets ≡ take (prefix_len is_plain octets) octets ++ flat_map escaped_octet (drop (prefix_len is_plain octets) octets)
front_text [] = refl
front_text (octet ∷ octets) = text_step octet octets (is_plain octet) (prefix_len is_plain octets) refl (front_text octets)

stops_step : (octet first : ℕ) (octets behind : List ℕ) (plain : Bool) (n : ℕ) → is_plain octet ≡ plain → (drop n octets ≡ first ∷ behind → is_plain first ≡ false)
    → drop (cond plain (1 + n) 0) (octet ∷ octets) ≡ first ∷ behind → is_plain first ≡ false
stops_step octet first octets behind true n is later e = later (ap (λ (m : ℕ). drop m (octet ∷ octets)) (one_more n) ∙ e)
stops_step octet first octets behind false n is later e = let same : octet ≡ first = cc in ap is_plain (sym same) ∙ is

-- The octet after it does not stand for itself.
stops : (octets : List ℕ) (first : ℕ) (behind : List ℕ) → drop (prefix_len is_plain octets) octets ≡ first ∷ behind → is_plain first ≡ false
stops [] first behind e = absurd (cc)
stops (octet ∷ octets) first behind e = stops_step octet first octets behind (is_plain octet) (prefix_len is_plain octets) refl (stops octets first behind) e

-- That prefix was put, and the octet after it.
pub put_past : (rest plain others behind before between after all : List ℕ) (count first : ℕ) → count ≡ prefix_len is_plain rest → plain ≡ take count rest → others ≡ drop count rest → others ≡ first ∷ behind
    → between ≡ before ++ plain → after ≡ between ++ hex_octet first → before ++ flat_map escaped_octet rest ≡ all → after ++ flat_map escaped_octet behind ≡ all
put_past rest plain others behind before between after all count first counted front left split put spelled was =
    let hex : escaped_octet first ≡ hex_octet first = ap (λ (p : Bool). cond p (first ∷ []) (hex_octet first)) (stops rest first behind (ap (λ (n : ℕ). drop n rest) (sym counted) ∙ sym left ∙ split)) in
    let text : flat_map escaped_octet rest ≡ plain ++ (hex_octet first ++ flat_map escaped_octet behind) =
    front_text rest ∙ ap (λ (n : ℕ). take n rest ++ flat_map escaped_octet (drop n rest)) (sym counted)
    ∙ ap (λ (o : List ℕ). o ++ flat_map escaped_octet (drop count rest)) (sym front) ∙ ap (λ (o : List ℕ). plain ++ flat_map escaped_octet o) (sym left ∙ split)
    ∙ ap (λ (o : List ℕ). plain ++ (o ++ flat_map escaped_octet behind)) hex in
    ap (λ (o : List ℕ). o ++ flat_map escaped_octet behind) (spelled ∙ ap (λ (o : List ℕ). o ++ hex_octet first) put)
    ∙ append_assoc (before ++ plain) (hex_octet first) (flat_map escaped_octet behind) ∙ append_assoc before plain (hex_octet first ++ flat_map escaped_octet behind)
    ∙ ap (λ (o : List ℕ). before ++ o) (sym text) ∙ was

-- That prefix was put, and nothing is after it.
pub put_all : (rest plain others before after all : List ℕ) (count : ℕ) → count ≡ prefix_len is_plain rest → plain ≡ take count rest → others ≡ drop count rest → others ≡ []
    → after ≡ before ++ plain → before ++ flat_map escaped_octet rest ≡ all → after ≡ all
put_all rest plain others before after all count counted front left none put was =
    put ∙ ap (λ (o : List ℕ). before ++ o) (sym (front_text rest
    ∙ ap (λ (n : ℕ). take n rest ++ flat_map escaped_octet (drop n rest)) (sym counted)
    ∙ ap (λ (o : List ℕ). o ++ flat_map escaped_octet (drop count rest)) (sym front) ∙ ap (λ (o : List ℕ). plain ++ flat_map escaped_octet o) (sym left ∙ none) ∙ append-nil plain)) ∙ was

-- Some octets are said by the text of each.
pub said : (octets : List ℕ) (empty : Bool) → empty ≡ (length octets == 0) → empty ≡ false → escaped octets ≡ flat_map escaped_octet octets
said [] empty is not = absurd (cc)
said (octet ∷ octets) empty is not = refl
