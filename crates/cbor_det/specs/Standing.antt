-- Where a reader stands after octets that are neither an item nor a fault (RFC 8949, section 3): an
-- initial byte is due, or a head's argument or a definite string is half in. It speaks of octets
-- alone, in the words of `Spelling` and `Faults`.
use Rattle.std.specs.Prelude.{◌≡◌, ◌≤◌, ◌+◌, ◌*◌, ℕ, List, [], ◌∷◌, ◌++◌, length, map, Option, Some, None}
use Rattle.wire_base.specs.Layout.{AreOctets}
use Rattle.wire_base.specs.Numbers.{number_of}
use Rattle.cbor_det.specs.declared.frame.Frame.{Frame}
use Rattle.cbor_det.specs.declared.frame.Frame.TheVariants as frame
use Rattle.cbor_det.specs.declared.frame.Phase.{Phase}
use Rattle.cbor_det.specs.declared.frame.Phase.TheVariants as phase
use Rattle.cbor_det.specs.declared.initial.Major.{Major}
use Rattle.cbor_det.specs.declared.initial.Major.TheVariants.{String}
use Rattle.cbor_det.specs.declared.string_kind.StringKind.{StringKind}
use Rattle.cbor_det.specs.declared.limits.Limits.{Limits}
use Rattle.cbor_det.specs.Initial.{number_of_major}
use Rattle.cbor_det.specs.Term.{Term, Pairs}
use Rattle.cbor_det.specs.Spelling.{IsHead, major_of}
use Rattle.cbor_det.specs.Faults.{Place, top, at_chunk, at_element, at_key, at_value, at_content, Admits, Upto}
use Rattle.cbor_det.specs.Held.{members_view, due_key}
use Rattle.cbor_det.specs.View.{view, terms_of}

-- The place inside the frames that the code keeps open, of which the last is the innermost. A key
-- is due in a map, or the value of this one.
abbrev pub map_place : ℕ → Option ℕ → Pairs → Option Term → Place → Place
map_place at all ps None p = at_key at all ps p
map_place at all ps (Some k) p = at_value at all ps k p

abbrev pub inside : Place → Frame → Place
inside p (frame.Chunks at kind joined) = at_chunk at kind joined p
inside p (frame.Elements at all items) = at_element at all (terms_of (map view items)) p
inside p (frame.Map at all members) = map_place at all (members_view members) (due_key members) p
inside p (frame.Content at number) = at_content at number p

abbrev pub within : Place → List Frame → Place
within p [] = p
within p (f ∷ fs) = within (inside p f) fs

abbrev pub place : List Frame → Place
place fs = within top fs

-- A head of this type may stand here: as a chunk of its own kind (section 3.2.3), or as an item.
abbrev pub AdmitsHead : Limits → Place → Major → Type 0
AdmitsHead limits (at_chunk at kind s p) m = m ≡ String kind
AdmitsHead limits p m = Admits limits p 1

-- This is the initial byte of a head whose argument is that many octets after it (section 3).
pub data BeginsHead (m : Major) : ℕ → ℕ → Type 0 where
  one_more : BeginsHead m 1 (32 * number_of_major m + 24)
  two_more : BeginsHead m 2 (32 * number_of_major m + 25)
  four_more : BeginsHead m 4 (32 * number_of_major m + 26)
  eight_more : BeginsHead m 8 (32 * number_of_major m + 27)

-- A head's initial byte came, and of its argument's octets these, which stand for a number; `left`
-- octets of it are due.
pub record InArgument (limits : Limits) (o : List ℕ) (p : Place) (at : ℕ) (m : Major) (left number : ℕ) : Type 0 where
  pub before : List ℕ
  pub lead : ℕ
  pub came : List ℕ
  pub size : ℕ
  pub upto : Upto limits p before
  pub ready : AdmitsHead limits p m
  pub begins : BeginsHead m size lead
  pub parts : o ≡ before ++ (lead ∷ came)
  pub at_is : at ≡ length before
  pub len : length came + left ≡ size
  pub some : 1 ≤ left
  pub stand_for : number ≡ number_of came
  pub are : AreOctets came

-- A definite string's head came, and these octets of the string, which fits the limit on octets;
-- `left` octets of it are due.
pub record InContent (limits : Limits) (o : List ℕ) (p : Place) (at : ℕ) (kind : StringKind) (left : ℕ) (came : List ℕ) : Type 0 where
  pub before : List ℕ
  pub h : List ℕ
  pub all : ℕ
  pub upto : Upto limits p before
  pub ready : AdmitsHead limits p (String kind)
  pub is : IsHead (major_of kind) all h
  pub room : length before + length h + all ≤ limits.octets
  pub parts : o ≡ before ++ (h ++ came)
  pub at_is : at ≡ length before
  pub len : length came + left ≡ all
  pub some : 1 ≤ left

-- What is read at the place, after these octets.
abbrev pub IsAt : Limits → Place → Phase → List ℕ → Type 0
IsAt limits p phase.Due o = Upto limits p o
IsAt limits p (phase.Head head) o = InArgument limits o p head.at head.major head.left head.number
IsAt limits p (phase.String string) o = InContent limits o p string.at string.kind string.left string.came

-- These octets of an item were taken, and a reader with these frames stands after them.
pub record Stands (limits : Limits) (fs : List Frame) (phase : Phase) (taken : ℕ) (before : List ℕ) : Type 0 where
  pub are : AreOctets before
  pub short : length before ≤ limits.octets
  pub taken_is : taken ≡ length before
  pub reads : IsAt limits (place fs) phase before
