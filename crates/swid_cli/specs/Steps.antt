-- What the calls of `mirror` do. A clause on octets holds where the input exposes what is left of
-- it.
use Rattle.std.specs.Prelude.{◌≡◌, ◌<◌, ◌≤◌, ◌+◌, ℕ, min, false, List, Option, Some, None, length, drop}
use Rattle.pa_attrs.specs.Numbers.{HEADER, MOST_OCTETS}
use Rattle.pa_attrs.specs.Header.{header_of}
use Rattle.pa_attrs.specs.Faults.{is_refused}
use Rattle.pa_attrs.specs.Stream.{Feeding, More, front_of}
use Rattle.validator_core.specs.Held.{Held}
use Rattle.command_text.specs.Text.{mirror_text}
use Rattle.command_text.specs.declared.ending.Ending.{Ending}
use Rattle.command_text.specs.declared.ending.Ending.TheVariants as ending
use Rattle.swid_cli.specs.declared.mirror.first_attribute.Front.{Front}
use Rattle.swid_cli.specs.declared.mirror.first_attribute.Front.TheVariants as front
use Rattle.swid_cli.specs.declared.mirror.step.Step.{Step}
use Rattle.swid_cli.specs.declared.mirror.step.Step.TheVariants as step
use Rattle.swid_cli.specs.Front.{REPORT_TYPES, first_of, left_behind}
use Rattle.swid_cli.specs.Stream.{INPUT_OCTETS, StepOf, Goes, Ends, step_of}

-- What stands first in octets of which `room` may be looked at, and what is left after it.
abbrev pub TakesFirst : ℕ → List ℕ → Option (List ℕ) → Front → Type 0
TakesFirst room octets after first = (first ≡ first_of room octets) × (after ≡ Some (left_behind room octets first))

-- What stood first in what was left.
abbrev pub TakesFront : ℕ → Option (List ℕ) → Option (List ℕ) → Front → Type 0
TakesFront room before after first = (octets : List ℕ) → before ≡ Some octets → TakesFirst room octets after first

-- A feed has begun an attribute of that many octets. The header is there, without a fault and of an
-- attribute that is not refused. Some octets are missing, and all that it holds may be looked at.
pub record IsBegun (room len : ℕ) (feed : Feeding) : Type 0 where
  pub goes : feed.stopped ≡ None
  pub header : HEADER ≤ length feed.octets
  pub more : front_of feed.octets ≡ More
  pub said : (header_of feed.octets).length ≡ len
  pub passed : is_refused REPORT_TYPES (header_of feed.octets) ≡ false
  pub within : length feed.octets ≤ room

-- A whole attribute has a header and is within what may be looked at, and a fault lies in the
-- header, whether the input exposes its octets or not.
abbrev pub IsWithin : ℕ → Front → Type 0
IsWithin room (front.Whole attr len) = (len ≡ HEADER + length attr.value) × (len ≤ min room MOST_OCTETS)
IsWithin room (front.Faulty fault) = fault.at < HEADER
IsWithin room other = Unit {0}

-- This line is printed, of an attribute of this length, and the mirror after it is this one.
abbrev pub IsNext : StepOf → List ℕ → ℕ → Held → Type 0
IsNext (Goes line len judged) text taken mirror = (text ≡ line) × (taken ≡ len) × (mirror ≡ judged)
IsNext (Ends printed) text taken mirror = ⊥

-- The last text is this one, and it ends so.
abbrev pub IsLast : StepOf → List ℕ → Ending → Type 0
IsLast (Goes line len judged) text ended = ⊥
IsLast (Ends printed) text ended = (text ≡ printed.text) × (ended ≡ printed.ending)

-- What a value makes is as defined, and so is the mirror after it where it was taken. At the end of
-- the input the last text is that of the mirror.
abbrev pub IsStep : StepOf → Step → Held → Type 0
IsStep made (step.Goes text taken) mirror = IsNext made text taken mirror
IsStep made (step.Refused text) mirror = IsLast made text ending.Refused
IsStep made step.End mirror = IsLast made (mirror_text mirror) ending.Whole

-- What is left of the octets after what an attribute makes.
abbrev pub left_of : StepOf → List ℕ → List ℕ
left_of (Goes line len judged) octets = drop len octets
left_of (Ends printed) octets = printed.left

-- A step over what was left at the place `at` is as defined, and so is what is left.
abbrev pub TakesStep : ℕ → Held → Option (List ℕ) → Option (List ℕ) → Step → Held → Type 0
TakesStep at before left-before left-after taken after = (octets : List ℕ) → left-before ≡ Some octets
    → IsStep (step_of at before octets) taken after × (left-after ≡ Some (left_of (step_of at before octets) octets))

-- A step that goes on takes a header at least, and no more than may be looked at, whether the input
-- exposes its octets or not.
abbrev pub Advances : ℕ → Step → Type 0
Advances at (step.Goes text taken) = (HEADER ≤ taken) × (at + taken ≤ INPUT_OCTETS)
Advances at (step.Refused text) = Unit {0}
Advances at step.End = Unit {0}
