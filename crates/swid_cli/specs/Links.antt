-- What `links` prints, of all octets of the input.
use Rattle.std.specs.Prelude.{◌≡◌, ◌+◌, ◌==◌, ◌&&◌, ℕ, Bool, true, false, List, [], ◌∷◌, ◌++◌, length, take, nat_lt, codes, decimal, if◌then◌else◌}
use Rattle.std.specs.List.{flat_map}
use Rattle.cbor_det.specs.FaultKinds.{fault_number}
use Rattle.cbor_det.specs.declared.fault.CborFault.{CborFault}
use Rattle.cbor_det.specs.declared.fault.CborFaultKind.TheVariants.{Truncated}
use Rattle.coswid_links.specs.LinkFindings.{findings}
use Rattle.coswid_links.specs.declared.finding.LinkFinding.{LinkFinding}
use Rattle.coswid_tag.specs.declared.tag.Tag.{Tag}
use Rattle.command_text.specs.declared.answer.Answer.{Answer}
use Rattle.command_text.specs.declared.ending.Ending.{Ending}
use Rattle.swid_cli.specs.declared.links.tag_list.Behind.{Behind}
use Rattle.swid_cli.specs.declared.links.tag_list.Behind.TheVariants as behind
use Rattle.swid_cli.specs.declared.links.tag_list.TagList.{TagList}
use Rattle.command_text.specs.Answer.{ending_of, limit_answer, refusal_answer}
use Rattle.swid_cli.specs.TagList.{IsTagList, LIST_TAGS}
use Rattle.swid_cli.specs.Tagging.{form_line}
use Rattle.command_text.specs.Text.{fault_line, line}

-- The most octets of the input.
abbrev pub LIST_OCTETS : ℕ
LIST_OCTETS = 67108864

-- A finding: its number, and the numbers of a tag and its link, or of two tags.
abbrev pub finding_line : LinkFinding → List ℕ
finding_line found = line (codes "link" ∷ (codes "L" ++ decimal found.kind) ∷ decimal found.first ∷ decimal found.second ∷ [])

-- That many tags, and all that is wrong between them.
abbrev pub findings_text : ℕ → List LinkFinding → List ℕ
findings_text count found = line (codes "tags" ∷ decimal count ∷ []) ++ flat_map finding_line found

-- The line of a refusal of the tag of this number.
abbrev pub at_tag : ℕ → List ℕ → List ℕ
at_tag number refusal = codes "at-tag " ++ (decimal number ++ (codes " " ++ refusal))

-- the fault of octets that are cut short
abbrev pub is_cut : CborFault → Bool
is_cut fault = fault.kind == fault_number Truncated

-- What is printed of tags and what stands after them, where the input has more octets than may be
-- looked at, or has not. What is cut by that limit alone is no fault of the tag.
abbrev pub answer_behind : List Tag → Bool → Behind → Answer
answer_behind gs false behind.Nothing = record { text = findings_text (length gs) (findings gs); ending = ending_of (findings gs) }
answer_behind gs true behind.Nothing = limit_answer LIST_OCTETS
answer_behind gs goes_on behind.More = limit_answer LIST_TAGS
answer_behind gs goes_on (behind.NoItem fault) =
    if goes_on && is_cut fault then limit_answer LIST_OCTETS else refusal_answer (at_tag (length gs + 1) (fault_line fault.kind fault.at))
answer_behind gs goes_on (behind.NoTag fault) = refusal_answer (at_tag (length gs + 1) (form_line fault))

abbrev pub list_answer : TagList → Bool → Answer
list_answer list goes_on = answer_behind list.tags goes_on list.behind

-- The text that is printed of all octets of the input, and how it ends: that of the tags in those
-- that may be looked at.
pub record LinksTells (octets text : List ℕ) (how : Ending) : Type 0 where
  pub list : TagList
  pub read : IsTagList (take LIST_OCTETS octets) list
  pub answer : list_answer list (nat_lt LIST_OCTETS (length octets)) ≡ record { text = text; ending = how }
