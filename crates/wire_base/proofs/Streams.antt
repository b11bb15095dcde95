-- What passes in several calls passes as it would in one: octets, or items of any other type.
use Rattle.std.proofs.Common.{◌++◌, List, [], Option, Some, None, refl, sym, ap, ◌∙◌, append_assoc, take, drop}
use Rattle.std.specs.Option.{option_map}
use Rattle.std.proofs.lemmas.List.{take-append-drop, append-nil}
use Rattle.std.specs.Prelude.{ℕ}
use Rattle.wire_base.specs.Outside.{Moves, Adds}
use Rattle.wire_base.specs.Passing.{WroteFront}

-- Nothing that is added changes nothing.
pub adds_none : {A : Type 0} (before : Option (List A)) → Adds before before []
adds_none None = refl
adds_none {A = A} (Some written) = ap (λ (items : List A). Some items) (sym (append-nil written))

-- What is added to what was added is added.
pub adds_more : {A : Type 0} (before mid after : Option (List A)) (first second : List A) → Adds before mid first → Adds mid after second → Adds before after (first ++ second)
adds_more {A = A} None mid after first second a b = b ∙ ap (λ (o : Option (List A)). option_map (λ written. written ++ second) o) a
adds_more {A = A} (Some written) mid after first second a b =
    b ∙ ap (λ (o : Option (List A)). option_map (λ items. items ++ second) o) a ∙ ap (λ (items : List A). Some items) (append_assoc written first second)

-- Nothing that is moved changes nothing.
pub moves_none : {A : Type 0} (left : Option (List A)) → Moves left left []
moves_none None = refl
moves_none (Some items) = refl

-- What is moved after what was moved is moved.
pub moves_more : {A : Type 0} (before mid after : Option (List A)) (first second : List A) → Moves before mid first → Moves mid after second → Moves before after (first ++ second)
moves_more {A = A} before mid None first second a b = a ∙ ap (λ (o : Option (List A)). option_map (λ left. first ++ left) o) b
moves_more {A = A} before mid (Some left) first second a b =
    a ∙ ap (λ (o : Option (List A)). option_map (λ items. first ++ items) o) b ∙ ap (λ (items : List A). Some items) (sym (append_assoc first second left))

-- A prefix of the rest that is written makes the prefix that was written longer.
pub wrote_more : (before mid after : Option (List ℕ)) (text rest : List ℕ) (count : ℕ) → WroteFront before mid text rest → Adds mid after (take count rest) → WroteFront before after text (drop count rest)
wrote_more before mid after text rest count wrote adds = record {
  front = wrote.front ++ take count rest;
  parts = append_assoc wrote.front (take count rest) (drop count rest) ∙ ap (λ (octets : List ℕ). wrote.front ++ octets) (take-append-drop count rest) ∙ wrote.parts;
  wrote = adds_more before mid after wrote.front (take count rest) wrote.wrote adds;
}
