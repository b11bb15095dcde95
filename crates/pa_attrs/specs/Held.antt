-- How a feed holds octets: those of the header, and after them those of the value.
use Rattle.std.specs.Prelude.{◌≡◌, ◌<◌, ◌≤◌, ◌+◌, ℕ, List, [], ◌++◌, Option, Some, None, Result, Ok, Err, length, take}
use Rattle.pa_attrs.specs.declared.attr.Attr.{Attr}
use Rattle.wire_base.specs.declared.layout.field_refused.Refused.{Refused}
use Rattle.wire_base.specs.declared.layout.field_refused.Refused.TheVariants as refused
use Rattle.pa_attrs.specs.declared.fault.AttrFault.{AttrFault}
use Rattle.pa_attrs.specs.declared.held.Held.{Held}
use Rattle.pa_attrs.specs.Numbers.{HEADER}
use Rattle.pa_attrs.specs.Stream.{More, Bad, Whole, front_of}

-- The octets that are held.
abbrev pub octets_of_held : Held → List ℕ
octets_of_held held = take held.header_len held.header ++ held.value.items

-- Octets of the value come after all of those of the header.
pub record IsInOrder (held : Held) : Type 0 where
  pub size : length held.header ≡ HEADER
  pub within : held.header_len ≤ HEADER
  pub first : held.header_len < HEADER → held.value.items ≡ []

-- What becomes of octets that are held, and of a piece after them.
abbrev pub Holds : List ℕ → List ℕ → Result (Option (Attr × ℕ)) (Refused AttrFault) → List ℕ → Type 0
Holds before piece (Ok None) after = (front_of (before ++ piece) ≡ More) × (after ≡ before ++ piece)
Holds before piece (Ok (Some done)) after = (front_of (before ++ piece) ≡ Whole done.0 (length before + done.1)) × (0 < done.1) × (done.1 ≤ length piece) × (after ≡ [])
Holds before piece (Err (refused.Fault fault)) after = (front_of (before ++ piece) ≡ Bad fault) × (after ≡ take HEADER (before ++ piece))
Holds before piece (Err refused.Memory) after = after ≡ before
