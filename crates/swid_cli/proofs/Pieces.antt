-- A text that is written in parts.
use Rattle.std.proofs.Common.{◌≡◌, ℕ, ◌≤◌, List, [], ◌++◌, length, drop, Option, refl, sym, ap, subst, ◌∙◌, append_assoc}
use Rattle.std.specs.List.{flat_map}
use Rattle.std.proofs.lemmas.List.{append-nil}
use Rattle.wire_base.specs.Outside.{Adds}
use Rattle.wire_base.specs.Passing.{AddsFront}
use Rattle.wire_base.proofs.Streams.{adds_more, adds_none}
use Rattle.validator_core.specs.Held.{Held}
use Rattle.command_text.specs.Text.{lines_between, listed, mirror_head, mirror_text, record_line}
use Rattle.command_text.proofs.Printed.{lines_before, lines_join, text_parts, text_whole}

-- ---- a part of a text

-- Nothing was written.
pub none_written : (before : Option (List ℕ)) (text : List ℕ) → AddsFront before before text
none_written before text = (text, record { front = []; parts = refl; wrote = adds_none before })

-- A prefix of the first part was written.
pub first_part : (before after : Option (List ℕ)) (part others : List ℕ) → AddsFront before after part → AddsFront before after (part ++ others)
first_part before after part others (unwritten, wrote) = (
  unwritten ++ others,
  record { front = wrote.front; parts = sym (append_assoc wrote.front unwritten others) ∙ ap (λ (o : List ℕ). o ++ others) wrote.parts; wrote = wrote.wrote },
)

-- A prefix of a part was written after the parts before it.
pub next_part : (before mid after : Option (List ℕ)) (done part others text : List ℕ) → (done ++ part) ++ others ≡ text → Adds before mid done → AddsFront mid after part → AddsFront before after text
next_part before mid after done part others text whole adds (unwritten, wrote) = (
  unwritten ++ others,
  record {
    front = done ++ wrote.front;
    parts = append_assoc done wrote.front (unwritten ++ others)
        ∙ ap (λ (o : List ℕ). done ++ o) (sym (append_assoc wrote.front unwritten others) ∙ ap (λ (o : List ℕ). o ++ others) wrote.parts)
        ∙ sym (append_assoc done part others) ∙ whole;
    wrote = adds_more before mid after done wrote.front adds wrote.wrote;
  },
)

-- ---- the text of a mirror

-- The first line, and the lines of the records before a place.
abbrev pub so_far : ℕ → Held → List ℕ
so_far place m = mirror_head m.point (length m.records) ++ lines_before place m

-- The first line was written, and no record's yet.
pub head_written : (before after : Option (List ℕ)) (m : Held) (head : List ℕ) → head ≡ mirror_head m.point (length m.records) → Adds before after head → Adds before after (so_far 0 m)
head_written before after m head is adds = subst (λ (o : List ℕ). Adds before after o) (is ∙ sym (append-nil (mirror_head m.point (length m.records)))) adds

-- A prefix of the first line was written.
pub head_begun : (before after : Option (List ℕ)) (m : Held) (head : List ℕ) → head ≡ mirror_head m.point (length m.records) → AddsFront before after head → AddsFront before after (mirror_text m)
head_begun before after m head is front =
    first_part before after (mirror_head m.point (length m.records)) (flat_map (record_line m.kind) (listed m.point m.records)) (subst (λ (o : List ℕ). AddsFront before after o) is front)

joined : (m : Held) (start end : ℕ) → start ≤ end → so_far start m ++ lines_between start end m ≡ so_far end m
joined m start end order = append_assoc (mirror_head m.point (length m.records)) (lines_before start m) (lines_between start end m) ∙ ap (λ (o : List ℕ). mirror_head m.point (length m.records) ++ o) (lines_join m start end order)

-- A piece was written after those before it.
pub piece_written : (before mid after : Option (List ℕ)) (m : Held) (start end : ℕ) → start ≤ end → Adds before mid (so_far start m) → Adds mid after (lines_between start end m) → Adds before after (so_far end m)
piece_written before mid after m start end order adds piece =
    subst (λ (o : List ℕ). Adds before after o) (joined m start end order) (adds_more before mid after (so_far start m) (lines_between start end m) adds piece)

-- A prefix of a piece was written after those before it.
pub piece_begun : (before mid after : Option (List ℕ)) (m : Held) (start end : ℕ) → start ≤ end → end ≤ length (listed m.point m.records) → Adds before mid (so_far start m) → AddsFront mid after (lines_between start end m)
    → AddsFront before after (mirror_text m)
piece_begun before mid after m start end order within adds piece =
    next_part before mid after (so_far start m) (lines_between start end m) (flat_map (record_line m.kind) (drop end (listed m.point m.records))) (mirror_text m)
    (ap (λ (o : List ℕ). o ++ flat_map (record_line m.kind) (drop end (listed m.point m.records))) (joined m start end order) ∙ text_parts m end within) adds piece

-- All pieces were written.
pub all_written : (before after : Option (List ℕ)) (m : Held) (place : ℕ) → place ≡ length (listed m.point m.records) → Adds before after (so_far place m) → Adds before after (mirror_text m)
all_written before after m place all adds = subst (λ (o : List ℕ). Adds before after o) (ap (λ (n : ℕ). so_far n m) all ∙ text_whole m) adds

-- What was written in all is a prefix of itself.
pub all_begun : (before after : Option (List ℕ)) (text : List ℕ) → Adds before after text → AddsFront before after text
all_begun before after text adds = ([], record { front = text; parts = append-nil text; wrote = adds })
