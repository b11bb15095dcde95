-- What is wrong with a tag by itself. The first five are the rules of RFC 9393, section 2.4 and
-- 2.7; each has a number.
use Rattle.std.specs.Prelude.{ℕ, Bool, true, false, not, ◌&&◌, ◌||◌, List, [], ◌∷◌, ◌++◌, Option, Some, None, if◌then◌else◌}
use Rattle.std.specs.List.{list_any}
use Rattle.coswid_tag.specs.declared.entity.Entity.{Entity}
use Rattle.coswid_tag.specs.declared.tag.Tag.{Tag}
use Rattle.coswid_tag.specs.Codes.{is_creator, patches, supplements}
use Rattle.coswid_tag.specs.Kind.{is_true}

abbrev pub is_there : {A : Type 0} → Option A → Bool
is_there None = false
is_there (Some v) = true

-- the values of a list that need not be there
abbrev pub all_of : {A : Type 0} → Option (List A) → List A
all_of None = []
all_of (Some vs) = vs

-- an entity that created the tag
abbrev pub created : Entity → Bool
created e = list_any is_creator e.role

-- 1: It is a patch and supplemental at once.
abbrev pub patch_and_supplemental : Tag → Bool
patch_and_supplemental g = is_true g.patch && is_true g.supplemental

-- 2: It is neither corpus nor patch nor supplemental, and has no software version.
abbrev pub primary_without_version : Tag → Bool
primary_without_version g = not (is_true g.corpus || is_true g.patch || is_true g.supplemental) && not (is_there g.software_version)

-- 3: It is corpus, and has no software version.
abbrev pub corpus_without_version : Tag → Bool
corpus_without_version g = is_true g.corpus && not (is_there g.software_version)

-- 4: It is a patch, and no link of it says what is patched.
abbrev pub patch_without_link : Tag → Bool
patch_without_link g = is_true g.patch && not (list_any (λ l. patches l.rel) (all_of g.link))

-- 5: It is supplemental, and no link of it says to what.
abbrev pub supplemental_without_link : Tag → Bool
supplemental_without_link g = is_true g.supplemental && not (list_any (λ l. supplements l.rel) (all_of g.link))

-- 6: No entity created it.
abbrev pub without_creator : Tag → Bool
without_creator g = not (list_any created g.entity)

abbrev pub finding : ℕ → Bool → List ℕ
finding n shows = if shows then n ∷ [] else []

-- all that show, in order
abbrev pub findings : Tag → List ℕ
findings g =
    finding 1 (patch_and_supplemental g) ++ finding 2 (primary_without_version g) ++ finding 3 (corpus_without_version g)
    ++ finding 4 (patch_without_link g) ++ finding 5 (supplemental_without_link g) ++ finding 6 (without_creator g)
