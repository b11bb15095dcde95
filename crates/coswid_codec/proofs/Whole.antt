-- Items that are tags: what is read, what is written, and what is read again.
use Rattle.std.proofs.Common.{◌≡◌, ◌≤◌, ◌<◌, ◌==◌, ◌+◌, ◌^◌, ◌&&◌, ℕ, Bool, true, false, not, nat_le, List, [], length, take, Option, Some, None, is_some, if◌then◌else◌, refl, sym, ap, ◌∙◌, subst, arith, length-take}
use Rattle.std.proofs.lemmas.Bool.{cond-false, leb-false}
use Rattle.cbor_det.specs.Canonical.{canon}
use Rattle.cbor_det.specs.Faults.{Begins}
use Rattle.cbor_det.specs.Lookup.{value_under}
use Rattle.cbor_det.specs.Proper.{IsProper}
use Rattle.cbor_det.specs.Term.{Term, array, map, tagged, depth}
use Rattle.cbor_det.proofs.Counts.{most, spelled_most}
use Rattle.cbor_det.proofs.Written.{few_same, spelled_proper, written_begins}
use Rattle.coswid_res.specs.Columns.{MapOf, map_of}
use Rattle.coswid_res.specs.Fault.{field_fault, fault}
use Rattle.coswid_res.specs.Schema.{one, a_map}
use Rattle.coswid_res.specs.Schema as schema
use Rattle.coswid_res.specs.Words.{Agree}
use Rattle.coswid_res.specs.Resources.{PayloadMap, EvidenceMap}
use Rattle.coswid_tag.specs.declared.tag.Tag.{Tag}
use Rattle.coswid_codec.specs.Answers.{limits, BeginsTag}
use Rattle.coswid_codec.specs.Forms.{tag_table, TagForm}
use Rattle.coswid_codec.specs.Items.{tag_item}
use Rattle.coswid_codec.specs.HasItem.{IsItemOf, HasItem}
use Rattle.coswid_codec.specs.SizesFit.{SizesFit}
use Rattle.coswid_codec.specs.Laws.{NoFaultOrNoTag, OneTag, HasItemWhereSome, ReadHasItem, WrittenIsRead, ReadIsWritten, OneTagOneSpelling}
use Rattle.coswid_codec.specs.Marked.{coswid, content, has_both, is_deep}
use Rattle.coswid_codec.specs.TagFault.{tag_fault}
use Rattle.coswid_codec.proofs.Sizes.{evidence_under, payload_under, read_fits}
use Rattle.coswid_codec.proofs.Tags.{tag_law as law}

-- What a tag is read from has no fault.
pub form_none : (g : Tag) (t : Term) → TagForm g t → tag_fault t ≡ None
form_none g t form = cond-false _ _ _ form.shallow ∙ cond-false _ _ _ form.one_of_them ∙ (law.told g (content t) form.keys).none

pub one_tag : OneTag
one_tag g h t first second = law.same g h (content t) first.keys second.keys

some_by : (b both : Bool) (t : Term) → is_deep t ≡ b → has_both (content t) ≡ both
    → (if b then fault 4 [] else (if both then fault 3 [] else field_fault (one (a_map schema.tag)) (content t))) ≡ None → (g : Tag) × TagForm g t
some_by false false t deep apart none = let found = law.some (content t) none in (found.0, record { keys = found.1; one_of_them = apart; shallow = deep })
some_by b both t deep apart none = absurd cc

pub no_fault_or_no_tag : NoFaultOrNoTag
no_fault_or_no_tag t = (some_by (is_deep t) (has_both (content t)) t refl refl, λ found. form_none found.0 t found.1)

-- A map has both where the tag that is read from it has.

agrees : {A : Type 0} (Is : A → Term → Type 0) (x : Option A) (o : Option Term) → Agree Is x o → is_some o ≡ is_some x
agrees Is None (Some t) is = absurd is
agrees Is (Some v) None is = absurd is
agrees Is x o is = refl

both_of : (g : Tag) (t : Term) → MapOf tag_table g t → has_both t ≡ (is_some g.evidence && is_some g.payload)
both_of g (map ps) is =
    ap (λ (b : Bool). b && is_some (value_under 6 ps)) (agrees EvidenceMap g.evidence (value_under 3 ps) (evidence_under g ps is))
    ∙ ap (λ (b : Bool). is_some g.evidence && b) (agrees PayloadMap g.payload (value_under 6 ps) (payload_under g ps is))
both_of g t is = absurd is

-- How deep the written item is.

under_tag : (b : Bool) (n : ℕ) (t : Term) → (not b && nat_le 64 (depth (tagged n t))) ≡ false → depth (tagged n t) ≤ 64 → depth (if b then t else tagged n t) ≤ 63
under_tag true n t shallow deep = omega (arith, deep)
under_tag false n t shallow deep = let l : depth t + 1 < 64 = leb-false 64 (depth t + 1) shallow in omega (arith, l)

content_depth : (t : Term) → is_deep t ≡ false → depth t ≤ 64 → depth (content t) ≤ 63
content_depth (tagged n t) shallow deep = under_tag (n == coswid) n t shallow deep
content_depth (array ts) shallow deep = let l : depth (array ts) < 64 = leb-false 64 (depth (array ts)) shallow in omega (arith, l)
content_depth (map ps) shallow deep = let l : depth (map ps) < 64 = leb-false 64 (depth (map ps)) shallow in omega (arith, l)
content_depth t shallow deep = omega arith

pub written_depth : (g : Tag) (t : Term) → depth t ≤ 64 → TagForm g t → depth (tag_item g) ≤ 64
written_depth g t deep form =
    let l : depth (map_of tag_table g) ≤ 63 = (law.told g (content t) form.keys).within 63 (omega arith) (content_depth t form.shallow deep) in
    omega (arith, l)

-- What is written is read again.

proper_by : (b : Bool) (n : ℕ) (t : Term) → IsProper (tagged n t) → IsProper (if b then t else tagged n t)
proper_by true n t proper = proper.1
proper_by false n t proper = proper

content_proper : (t : Term) → IsProper t → IsProper (content t)
content_proper (tagged n t) proper = proper_by (n == coswid) n t proper
content_proper t proper = proper

written_proper : (g : Tag) (t : Term) → IsProper t → TagForm g t → IsProper (tag_item g)
written_proper g t proper form = (omega arith, (law.told g (content t) form.keys).proper (content_proper t proper))

-- The sizes in what is read of a spelling are below 2^63.
pub read_sizes : (g : Tag) (t : Term) (input : List ℕ) (len : ℕ) → Begins limits input t len → TagForm g t → SizesFit g
read_sizes g t input len begins form = read_fits g (content t) form.keys (content_proper t (spelled_proper t _ begins.spelled))

-- What is read is read again from the item that it is written as.
pub written_form : (g : Tag) (t : Term) → TagForm g t → TagForm g (tag_item g)
written_form g t form =
    let again = (law.told g (content t) form.keys).again in
    record { keys = again; one_of_them = both_of g (map_of tag_table g) again ∙ sym (both_of g (content t) form.keys) ∙ form.one_of_them; shallow = refl }

written_item : (g : Tag) (t : Term) → IsItemOf g t → HasItem g
written_item g t is = record {
  proper = written_proper g t is.proper is.form;
  shallow = written_depth g t is.shallow is.form;
  form = written_form g t is.form;
}

pub has_item_where_some : HasItemWhereSome
has_item_where_some g = (λ found. written_item g found.0 found.1, λ is. (tag_item g, is))

pub read_has_item : ReadHasItem
read_has_item g n input is = written_item g is.item (record { proper = spelled_proper is.item _ is.begins.spelled; shallow = is.begins.shallow; form = is.form })

pub written_is_read : WrittenIsRead
written_is_read g tail is room = record {
  item = tag_item g;
  begins = written_begins limits (tag_item g) tail is.proper (omega (arith, room)) room is.shallow;
  form = is.form;
}

pub read_is_written : ReadIsWritten
read_is_written g n input tail is room = written_is_read g tail (read_has_item g n input is) room

-- No part of what is written has 2 ^ 64 octets, elements or pairs.

content_by : (b : Bool) (n : ℕ) (t : Term) → most (if b then t else tagged n t) ≤ most t
content_by true n t = omega arith
content_by false n t = omega arith

content_most : (t : Term) → most (content t) ≤ most t
content_most (tagged n t) = content_by (n == coswid) n t
content_most t = omega arith

written_few : (g : Tag) (n : ℕ) (input : List ℕ) → BeginsTag input g n → most (tag_item g) < 2 ^ 64
written_few g n input is =
    let read : most is.item ≤ length (take n input) = spelled_most is.item (take n input) is.begins.spelled in
    let short : n ≤ 8388608 = is.begins.short in
    let all : most (map_of tag_table g) ≤ 8388608 + 16 =
    (law.told g (content is.item) is.form.keys).few 8388608 (omega (arith, content_most is.item, read, short, length-take n input)) in
    omega (arith, all)

pub one_tag_one_spelling : OneTagOneSpelling
one_tag_one_spelling g h n m input other first second = (
  (λ e.
      let item : HasItem g = read_has_item g n input first in
      let another : HasItem h = read_has_item h m other second in
      let one : tag_item g ≡ tag_item h = few_same (tag_item g) (tag_item h) item.proper another.proper (written_few g n input first) (written_few h m other second) e in
      let P : Term → Type 0 = λ t. TagForm h t in
      one_tag g h (tag_item g) item.form (subst P (sym one) another.form)),
  (λ same. ap (λ (k : Tag). canon (tag_item k)) same),
)
