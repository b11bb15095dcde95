-- The lines of records: one place after another, and one part of the places after another.
use Rattle.std.proofs.Common.{◌≡◌, ◌∙◌, ℕ, zero, suc, ◌+◌, ◌-◌, ◌≤◌, ◌++◌, List, [], ◌∷◌, length, take, drop, Option, Some, None, refl, sym, ap, append_assoc, arith}
use Rattle.std.specs.Prelude.{option_to_list, slice_get}
use Rattle.std.specs.List.{flat_map}
use Rattle.std.proofs.lemmas.Grind.{flat_map-append}
use Rattle.std.proofs.lemmas.List.{append-nil, flat_map_more, take-append-drop, take_all}
use Rattle.std.proofs.Math.Seq.{take-add}
use Rattle.swima_model.specs.declared.record.Record.{Record}
use Rattle.swima_model.specs.declared.report.Point.{Point}
use Rattle.validator_core.specs.Held.{Held}
use Rattle.command_text.specs.Text.{lines_between, listed, mirror_head, mirror_text, record_line}

-- ---- one place after another

one_more : (k : ℕ) (rs : List Record) → take (suc k) rs ≡ take k rs ++ option_to_list (slice_get rs k)
one_more zero [] = refl
one_more zero (r ∷ rs) = refl
one_more (suc k) [] = refl
one_more (suc k) (r ∷ rs) = ap (λ (l : List Record). r ∷ l) (one_more k rs)

-- The record at a place of the records from `start` on.
found_after : (start k : ℕ) (rs : List Record) → slice_get (drop start rs) k ≡ slice_get rs (start + k)
found_after zero k rs = ap (λ (n : ℕ). slice_get rs n) (omega arith)
found_after (suc start) k [] = refl
found_after (suc start) k (r ∷ rs) =
    let next : suc (start + k) ≡ suc start + k = omega arith in
    found_after start k rs ∙ ap (λ (n : ℕ). slice_get (r ∷ rs) n) next

one_place_more : (start place : ℕ) (rs : List Record) (found : Option Record) → start ≤ place → slice_get rs place ≡ found
    → take (place - start) (drop start rs) ++ option_to_list found ≡ take (place + 1 - start) (drop start rs)
one_place_more start place rs found past at =
    let there : place ≡ start + (place - start) = omega (arith, past) in
    let next : suc (place - start) ≡ place + 1 - start = omega (arith, past) in
    ap (λ (o : Option Record). take (place - start) (drop start rs) ++ option_to_list o) (sym at ∙ ap (λ (k : ℕ). slice_get rs k) there ∙ sym (found_after start (place - start) rs))
    ∙ sym (one_more (place - start) (drop start rs))
    ∙ ap (λ (n : ℕ). take n (drop start rs)) next

-- Where there is a record at the place, its line is put.
pub line_put : (m : Held) (start place : ℕ) (r : Record) (old out new : List ℕ) → start ≤ place → slice_get m.records place ≡ Some r → out ≡ old ++ lines_between start place m
    → new ≡ out ++ record_line m.kind r → new ≡ old ++ lines_between start (place + 1) m
line_put m start place r old out new past at so_far put =
    put ∙ ap (λ (o : List ℕ). o ++ record_line m.kind r) so_far ∙ flat_map_more (record_line m.kind) old (take (place - start) (drop start m.records)) r
    ∙ ap (λ (l : List Record). old ++ flat_map (record_line m.kind) l) (one_place_more start place m.records (Some r) past at)

-- Where there is none, all are put.
pub none_put : (m : Held) (start place : ℕ) (old out : List ℕ) → start ≤ place → slice_get m.records place ≡ None → out ≡ old ++ lines_between start place m
    → out ≡ old ++ lines_between start (place + 1) m
none_put m start place old out past at so_far =
    so_far ∙ ap (λ (l : List Record). old ++ flat_map (record_line m.kind) l)
    (sym (append-nil (take (place - start) (drop start m.records))) ∙ one_place_more start place m.records None past at)

-- All places were gone over.
pub all_put : (m : Held) (start end place : ℕ) (old out : List ℕ) → place - start ≡ end - start → out ≡ old ++ lines_between start place m → out ≡ old ++ lines_between start end m
all_put m start end place old out as_many so_far =
    so_far ∙ ap (λ (n : ℕ). old ++ flat_map (record_line m.kind) (take n (drop start m.records))) as_many

-- ---- one part of the places after another

-- The lines of the records before a place.
abbrev pub lines_before : ℕ → Held → List ℕ
lines_before place m = flat_map (record_line m.kind) (take place m.records)

-- The lines before a place, and then those from there up to another, are the lines before that one.
pub lines_join : (m : Held) (place end : ℕ) → place ≤ end → lines_before place m ++ lines_between place end m ≡ lines_before end m
lines_join m place end before =
    let whole : place + (end - place) ≡ end = omega (arith, before) in
    sym (flat_map-append (record_line m.kind) (take place m.records) (take (end - place) (drop place m.records)))
    ∙ ap (λ (l : List Record). flat_map (record_line m.kind) l) (sym (take-add place (end - place) m.records))
    ∙ ap (λ (n : ℕ). flat_map (record_line m.kind) (take n m.records)) whole

-- The records before a place and those that are listed from there on are all that are listed.
listed_parts : (point : Option Point) (rs : List Record) (place : ℕ) → place ≤ length (listed point rs) → take place rs ++ drop place (listed point rs) ≡ listed point rs
listed_parts None rs zero within = refl
listed_parts None rs (suc place) within = absurd (omega (arith, within))
listed_parts (Some point) rs place within = take-append-drop place rs

listed_all : (point : Option Point) (rs : List Record) → take (length (listed point rs)) rs ≡ listed point rs
listed_all None rs = refl
listed_all (Some point) rs = take_all (length rs) rs (omega arith)

-- The first line and the lines before a place are a prefix of the text.
pub text_parts : (m : Held) (place : ℕ) → place ≤ length (listed m.point m.records)
    → (mirror_head m.point (length m.records) ++ lines_before place m) ++ flat_map (record_line m.kind) (drop place (listed m.point m.records)) ≡ mirror_text m
text_parts m place within =
    let head = mirror_head m.point (length m.records) in
    let rest = drop place (listed m.point m.records) in
    append_assoc head (lines_before place m) (flat_map (record_line m.kind) rest)
    ∙ ap (λ (o : List ℕ). head ++ o) (sym (flat_map-append (record_line m.kind) (take place m.records) rest) ∙ ap (λ (l : List Record). flat_map (record_line m.kind) l) (listed_parts m.point m.records place within))

-- The first line and the lines of all records that are listed are the text.
pub text_whole : (m : Held) → mirror_head m.point (length m.records) ++ lines_before (length (listed m.point m.records)) m ≡ mirror_text m
text_whole m = ap (λ (l : List Record). mirror_head m.point (length m.records) ++ flat_map (record_line m.kind) l) (listed_all m.point m.records)
