-- Which command the words say.
use Rattle.std.specs.Prelude.{ℕ, List}
use Rattle.swid_cli.specs.declared.command.Command.{Command}
use Rattle.swid_cli.specs.declared.command.Command.TheVariants.{Mirror, Tag, Links, Replay, Make}
use Rattle.swid_cli.specs.declared.command.Scope.TheVariants as scope
use Rattle.swid_cli.specs.Words.{IsMirror, IsTag, IsTagVerify, IsLinks, IsReplay, IsMake}

-- The words say the command.
abbrev pub Says : Command → List (List ℕ) → Type 0
Says (Mirror kind) words = IsMirror kind words
Says (Tag scope.Tag) words = IsTag words
Says (Tag scope.Files) words = IsTagVerify words
Says Links words = IsLinks words
Says Replay words = IsReplay words
Says (Make count) words = IsMake count words
