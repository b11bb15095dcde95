-- What the readers of words find, and that it is one value.
use Rattle.std.proofs.Common.{◌≡◌, inl, inr, ℕ, List, length, Option, Some, None, Result, Ok, Err, refl, sym, ap, ◌∙◌, subst, arith}
use Rattle.std.specs.Fmt.{decimal}
use Rattle.wire_base.specs.Escaped.{escaped}
use Rattle.wire_base.specs.Layout.{AreOctets}
use Rattle.wire_base.specs.Texts.{IsU32, ReadsTextExactly, Spells, StopsAt}
use Rattle.wire_base.specs.declared.values.text_refused.TextRefused.{TextRefused}
use Rattle.wire_base.specs.declared.values.text_refused.TextRefused.TheVariants as refused
use Rattle.wire_base.specs.declared.values.memory.Memory.{Memory}
use Rattle.wire_base.proofs.Decimals.{decimal_or_fault}
use Rattle.wire_base.proofs.Unescaping.{escaped_or_fault}
use Rattle.swima_model.specs.declared.record.Content.{Content}
use Rattle.swima_model.specs.declared.record.Model.{Model}
use Rattle.line_words.specs.Reading.{Finds, FindsExactly, IsHex, IsNumber, IsText, IsWithin}

-- ---- one value

pub one_number : (word : List ℕ) (one other : ℕ) → IsNumber word one → IsNumber word other → one ≡ other
one_number word one other a b = (decimal_or_fault word).one_value one other a b

pub one_text : (limit : ℕ) (word one other : List ℕ) → IsText limit word one → IsText limit word other → one ≡ other
one_text limit word one other a b = (escaped_or_fault word).one_value one other (a.are, a.is) (b.are, b.is)

abbrev decoded : (E : Type 0) → List ℕ → Result (List ℕ) E
decoded E octets = Ok octets

ok_same : {E : Type 0} (xs ys : List ℕ) → decoded E xs ≡ decoded E ys → xs ≡ ys
ok_same xs ys e = cc

pub one_hex : (word one other : List ℕ) → IsHex word one → IsHex word other → one ≡ other
one_hex word one other (inl a) (inl b) = a.1 ∙ sym b.1
one_hex word one other (inl a) (inr b) = absurd (b.0 a.0)
one_hex word one other (inr a) (inl b) = absurd (a.0 b.0)
one_hex word one other (inr a) (inr b) = ok_same one other (sym a.2 ∙ b.2)

pub content_same : (a b : Content) → a.model ≡ b.model → a.source ≡ b.source → a.ident ≡ b.ident → a.locator ≡ b.locator → a.body ≡ b.body → a ≡ b
content_same a b model source ident locator body =
    ap (λ (m : Model). record a { model = m }) model ∙ ap (λ (n : ℕ). record a { model = b.model; source = n }) source
    ∙ ap (λ (i : List ℕ). record a { model = b.model; source = b.source; ident = i }) ident
    ∙ ap (λ (l : List ℕ). record b { locator = l; body = a.body }) locator ∙ ap (λ (o : List ℕ). record b { body = o }) body

-- Where one value can be found, one answer can be given.
pub found_one : {A : Type 0} (Is : A → Type 0) → ((a b : A) → Is a → Is b → a ≡ b) → (one other : Option A) → FindsExactly Is one → FindsExactly Is other → one ≡ other
found_one Is same (Some a) (Some b) this that = ap Some (same a b this that)
found_one Is same (Some a) None this that = absurd (that a this)
found_one Is same None (Some b) this that = absurd (this b that)
found_one Is same None None this that = refl

-- ---- what is found of one thing is found of another

-- Where each value of the one kind is one of the other, and the reverse.
pub finds_by : {A : Type 0} (Is Also : A → Type 0) (result : Result (Option A) Memory) → ((value : A) → Is value → Also value) → ((value : A) → Also value → Is value)
    → Finds Is result → Finds Also result
finds_by Is Also (Ok (Some value)) to from found = to value found
finds_by Is Also (Ok None) to from found = λ value also. found value (from value also)
finds_by Is Also (Err memory) to from found = tt

-- Octets within the limit are those of the text.
pub finds_text : (limit : ℕ) (word octets : List ℕ) (result : Result (Option (List ℕ)) Memory) → Spells escaped AreOctets word octets
    → Finds (IsWithin limit octets) result → Finds (IsText limit word) result
finds_text limit word octets result spelled found =
    finds_by (IsWithin limit octets) (IsText limit word) result
    (λ made is. record {
      are = subst AreOctets (sym is.is) spelled.0;
      is = ap escaped is.is ∙ spelled.1;
      within = omega (arith, ap (λ (o : List ℕ). length o) is.is, is.within);
    })
    (λ made is.
    let same = (escaped_or_fault word).one_value made octets (is.are, is.is) spelled in
    record { is = same; within = omega (arith, ap (λ (o : List ℕ). length o) same, is.within) })
    found

-- ---- nothing is found

pub no_number : (word : List ℕ) (why : TextRefused) → ReadsTextExactly decimal IsU32 word (Err why) → (number : ℕ) → IsNumber word number → ⊥
no_number word (refused.Fault place) stops number spells = stops.no_value number spells
no_number word refused.Memory stops number spells = stops

pub no_text : (limit place : ℕ) (word : List ℕ) → StopsAt escaped AreOctets word place → (octets : List ℕ) → IsText limit word octets → ⊥
no_text limit place word stops octets is = stops.no_value octets (is.are, is.is)
