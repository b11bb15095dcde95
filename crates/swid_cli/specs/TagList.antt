-- Tags one after another, as octets begin with them.
use Rattle.std.specs.Prelude.{◌≡◌, ◌≢◌, ◌<◌, ◌≤◌, ℕ, List, [], ◌∷◌, ◌++◌, length, drop}
use Rattle.cbor_det.specs.Answers.{IsRefusal}
use Rattle.cbor_det.specs.declared.fault.CborRefused.TheVariants as refused
use Rattle.coswid_tag.specs.declared.tag.Tag.{Tag}
use Rattle.coswid_codec.specs.Answers.{limits, BeginsTag, BeginsFaulty}
use Rattle.swid_cli.specs.declared.links.tag_list.Behind.{Behind}
use Rattle.swid_cli.specs.declared.links.tag_list.Behind.TheVariants as behind
use Rattle.swid_cli.specs.declared.links.tag_list.TagList.{TagList}

-- The most tags of a list.
abbrev pub LIST_TAGS : ℕ
LIST_TAGS = 10000

-- The octets begin with these tags, one after another, and `rest` stands after them.
pub data BeginsTags (octets : List ℕ) : List Tag → List ℕ → Type 0 where
  no_tags : BeginsTags octets [] octets
  one_more : (gs : List Tag) (rest : List ℕ) (g : Tag) (len : ℕ) → BeginsTags octets gs rest → BeginsTag rest g len → BeginsTags octets (gs ++ g ∷ []) (drop len rest)

-- After that many tags `rest` stands, and no other tag is read from it. Nothing is there, or the
-- tags are as many as a list may have, or it begins with no item, or with one that is no tag.
abbrev pub StandsBehind : ℕ → List ℕ → Behind → Type 0
StandsBehind count rest behind.Nothing = (count ≤ LIST_TAGS) × (rest ≡ [])
StandsBehind count rest behind.More = (count ≡ LIST_TAGS) × (rest ≢ [])
StandsBehind count rest (behind.NoItem fault) = (count < LIST_TAGS) × (rest ≢ []) × IsRefusal limits rest (refused.Fault fault)
StandsBehind count rest (behind.NoTag fault) = (count < LIST_TAGS) × BeginsFaulty rest fault

-- The octets are these tags and what stands after them.
abbrev pub IsTagList : List ℕ → TagList → Type 0
IsTagList octets list = (rest : List ℕ) × BeginsTags octets list.tags rest × StandsBehind (length list.tags) rest list.behind
