-- The items that octets are, as a source goes on from one to the next.
use Rattle.std.proofs.Common.{◌≡◌, ◌⊎◌, inl, inr, ◌+◌, ◌<◌, ◌≤◌, ℕ, List, [], ◌∷◌, ◌++◌, length, take, drop, refl, sym, ap, ◌∙◌, subst, arith, length-append}
use Rattle.std.proofs.lemmas.List.{take-append-le, drop-append-le}
use Rattle.wire_base.specs.Counter.{next}
use Rattle.source_set.specs.Items.{Tells}
use Rattle.source_lines.specs.LineItems.{IsItem}
use Rattle.source_lines.specs.Lines.{AreItems, BeginsLine, BeginsLong, IsUnfinished, MOST_OCTETS, before_feed}
use Rattle.source_set.specs.declared.told.Told.{Told}
use Rattle.source_set.specs.declared.told.Told.TheVariants as told
use Rattle.source_lines.proofs.Feeds.{feed_le, feed_more, feed_short}
use Rattle.source_lines.proofs.OneItem.{one_item}

-- The item comes first, and the items of the rest come later.
pub record Comes (number : ℕ) (items : List Told) (item : Told) (rest : List ℕ) : Type 0 where
  pub later : List Told
  pub tells : Tells items item later
  pub are : AreItems (next number) rest later

-- ---- a line that is short enough

line_first : (number : ℕ) (octets more : List ℕ) (item first : Told) (others : List Told) (rest : List ℕ) → before_feed octets < length octets → before_feed octets ≤ MOST_OCTETS
    → IsItem number (take (before_feed octets) octets) item → BeginsLine number (octets ++ more) first rest ⊎ BeginsLong number (octets ++ more) first rest
    → (item ≡ first) × (rest ≡ drop (before_feed octets + 1) octets ++ more)
line_first number octets more item first others rest less short is (inl line) =
    let same = feed_short octets more less in
    let front = ap (λ (n : ℕ). take n (octets ++ more)) same ∙ take-append-le (before_feed octets) octets more (omega (arith, less)) in (
      one_item number (take (before_feed octets) octets) item first is (subst (λ (o : List ℕ). IsItem number o first) front line.says),
      line.leaves ∙ ap (λ (n : ℕ). drop (n + 1) (octets ++ more)) same ∙ drop-append-le (before_feed octets + 1) octets more (omega (arith, less)),
    )
line_first number octets more item first others rest less short is (inr long) = absurd (omega (arith, long.long, short, feed_short octets more less))

pub line_comes : (number : ℕ) (octets more : List ℕ) (item : Told) (items : List Told) → before_feed octets < length octets → before_feed octets ≤ MOST_OCTETS
    → IsItem number (take (before_feed octets) octets) item → AreItems number (octets ++ more) items
    → Comes number items item (drop (before_feed octets + 1) octets ++ more)
line_comes number octets more item [] less short is are = absurd (omega (arith, are.open_end, feed_short octets more less, length-append octets more, less))
line_comes number octets more item (first ∷ others) less short is are =
    let one = line_first number octets more item first others are.0 less short is are.1 in
    record { later = others; tells = (one.0, refl); are = subst (λ (o : List ℕ). AreItems (next number) o others) one.1 are.2 }

-- ---- a line that is too long

long_first : (number : ℕ) (octets more : List ℕ) (first : Told) (rest : List ℕ) → MOST_OCTETS < before_feed octets
    → BeginsLine number (octets ++ more) first rest ⊎ BeginsLong number (octets ++ more) first rest → (told.Bad number ≡ first) × (rest ≡ drop MOST_OCTETS octets ++ more)
long_first number octets more first rest long (inl line) = absurd (omega (arith, line.short, long, feed_more octets more))
long_first number octets more first rest long (inr bad) = (sym bad.bad, bad.leaves ∙ drop-append-le MOST_OCTETS octets more (omega (arith, long, feed_le octets)))

pub long_comes : (number : ℕ) (octets more : List ℕ) (items : List Told) → MOST_OCTETS < before_feed octets → AreItems number (octets ++ more) items
    → Comes number items (told.Bad number) (drop MOST_OCTETS octets ++ more)
long_comes number octets more [] long are = absurd (omega (arith, are.short, long, feed_le octets, length-append octets more))
long_comes number octets more (first ∷ others) long are =
    let one = long_first number octets more first are.0 long are.1 in
    record { later = others; tells = (one.0, refl); are = subst (λ (o : List ℕ). AreItems (next number) o others) one.1 are.2 }

-- ---- no whole line

none_first : (number : ℕ) (octets : List ℕ) (first : Told) (rest : List ℕ) → IsUnfinished octets → BeginsLine number octets first rest ⊎ BeginsLong number octets first rest → ⊥
none_first number octets first rest left (inl line) = omega (arith, line.ended, left.open_end)
none_first number octets first rest left (inr long) = omega (arith, long.long, left.open_end, left.short)

pub none_comes : (number : ℕ) (octets : List ℕ) (items : List Told) → IsUnfinished octets → AreItems number octets items → items ≡ []
none_comes number octets [] left are = refl
none_comes number octets (first ∷ others) left are = absurd (none_first number octets first are.0 left are.1)
