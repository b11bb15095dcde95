-- What `links` prints of each input is one text.
use Rattle.std.specs.Prelude.{◌≡◌, ℕ, List}
use Rattle.wire_base.specs.Layout.{AreOctets}
use Rattle.command_text.specs.declared.ending.Ending.{Ending}
use Rattle.swid_cli.specs.Links.{LinksTells}

-- An input has at most one text, and one ending.
abbrev pub OneLinksText : Type 0
OneLinksText = (octets text other : List ℕ) (how also : Ending) → LinksTells octets text how → LinksTells octets other also → (text ≡ other) × (how ≡ also)

-- Each input, of numbers below 256, has one.
abbrev pub SomeLinksText : Type 0
SomeLinksText = (octets : List ℕ) → AreOctets octets → (text : List ℕ) × (how : Ending) × LinksTells octets text how
