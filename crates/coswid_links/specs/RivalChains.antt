-- Places in a list, and those after a place. Two lists of numbers give the releases and the
-- contents of tags: of two places the numbers are equal exactly where the releases are, and where
-- the releases and the canonical octets are.
use Rattle.std.specs.Prelude.{◌≡◌, ℕ, zero, suc, ◌+◌, ◌-◌, ◌<◌, ◌≤◌, ◌==◌, Bool, true, false, not, ◌&&◌, List, [], ◌++◌, length, slice_index, slice_index_or, Option, MatchOption}
use Rattle.coswid_links.specs.declared.rival_chain.Following.{Following}
use Rattle.coswid_links.specs.declared.rival_chain.RivalChains.{RivalChains}
use Rattle.coswid_links.specs.declared.finding.LinkFinding.{LinkFinding}
use Rattle.coswid_links.specs.Listed.{finding}

-- r is the first place from `from` on, below `to`, that passes the test.
abbrev pub IsFirst : (ℕ → Bool) → ℕ → ℕ → Option ℕ → Type 0
IsFirst test from to r = MatchOption r ((k : ℕ) → from ≤ k → k < to → test k ≡ false)
    (λ m. (from ≤ m) × (m < to) × (test m ≡ true) × ((k : ℕ) → from ≤ k → k < m → test k ≡ false))

-- whether the number stands at the place
abbrev pub has : List ℕ → ℕ → ℕ → Bool
has numbers number k = number == slice_index numbers k

-- whether both places are of one release
abbrev pub of_release : List ℕ → ℕ → ℕ → Bool
of_release releases at = has releases (slice_index releases at)

-- whether they are and are not written alike
abbrev pub rivals : List ℕ → List ℕ → ℕ → ℕ → Bool
rivals releases contents at k = of_release releases at k && not (has contents (slice_index contents at) k)

-- What is said to follow a place does: the next place of its release, and the next that is
-- its rival.
abbrev pub IsFollowing : List ℕ → List ℕ → ℕ → Following → Type 0
IsFollowing releases contents at b =
    IsFirst (of_release releases at) (at + 1) (length releases) b.next × IsFirst (rivals releases contents at) (at + 1) (length releases) b.other

abbrev pub AreFollowing : List ℕ → List ℕ → List Following → Type 0
AreFollowing releases contents bs =
    (length bs ≡ length releases) × ((at : ℕ) (d : Following) → at < length bs → IsFollowing releases contents at (slice_index_or bs at d))

-- What these places say to follow each does.
abbrev pub ArePlaces : RivalChains → Type 0
ArePlaces p = (length p.contents.items ≡ length p.releases.items) × AreFollowing p.releases.items p.contents.items p.following.items

-- what f gives of each of the n places from `at` on
abbrev pub span : {B : Type 0} → (ℕ → List B) → ℕ → ℕ → List B
span f at zero = []
span f at (suc n) = f at ++ span f (at + 1) n

-- the finding on two places, where they are rivals; places count from 0, and findings from 1
abbrev pub rival_findings : List ℕ → List ℕ → ℕ → ℕ → List LinkFinding
rival_findings releases contents at k = finding 4 (rivals releases contents at k) (at + 1) (k + 1)

-- the findings on the place and each rival after it
abbrev pub rivals_of : List ℕ → List ℕ → ℕ → List LinkFinding
rivals_of releases contents at = span (rival_findings releases contents at) (at + 1) (length releases - (at + 1))

-- the findings on all pairs of rivals, in order of the first and then of the second
abbrev pub all_rivals : List ℕ → List ℕ → List LinkFinding
all_rivals releases contents = span (rivals_of releases contents) 0 (length releases)

-- Each number is below the length of the list, as a place is.
abbrev pub AreBelow : List ℕ → Type 0
AreBelow numbers = (k : ℕ) → k < length numbers → slice_index numbers k < length numbers
