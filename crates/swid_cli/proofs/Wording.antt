-- Words that say a command are a command line.
use Rattle.std.proofs.Common.{inl, inr, ℕ, List, Option, Some, None, refl}
use Rattle.std.specs.Prelude.{◌↔◌, IsTrue, is_some}
use Rattle.line_words.specs.Reading.{FindsExactly}
use Rattle.swima_model.specs.declared.report.Kind.TheVariants as kinds
use Rattle.swid_cli.specs.declared.command.Command.{Command}
use Rattle.swid_cli.specs.declared.command.Command.TheVariants.{Mirror, Tag, Links, Replay, Make}
use Rattle.swid_cli.specs.declared.command.Scope.TheVariants as scope
use Rattle.swid_cli.specs.Commands.{Says}
use Rattle.swid_cli.specs.Words.{IsCommandLine}

pub said_line : (which : Command) (words : List (List ℕ)) → Says which words → IsCommandLine words
said_line (Mirror kinds.Ids) words said = inl said
said_line (Mirror kinds.Full) words said = inr (inl said)
said_line (Tag scope.Tag) words said = inr (inr (inl said))
said_line (Tag scope.Files) words said = inr (inr (inr (inl said)))
said_line Links words said = inr (inr (inr (inr (inl said))))
said_line Replay words said = inr (inr (inr (inr (inr (inl said)))))
said_line (Make count) words said = inr (inr (inr (inr (inr (inr (count, said))))))

line_said : (words : List (List ℕ)) → IsCommandLine words → (which : Command) × Says which words
line_said words (inl ids) = (Mirror kinds.Ids, ids)
line_said words (inr (inl full)) = (Mirror kinds.Full, full)
line_said words (inr (inr (inl tag))) = (Tag scope.Tag, tag)
line_said words (inr (inr (inr (inl verify)))) = (Tag scope.Files, verify)
line_said words (inr (inr (inr (inr (inl links))))) = (Links, links)
line_said words (inr (inr (inr (inr (inr (inl replay)))))) = (Replay, replay)
line_said words (inr (inr (inr (inr (inr (inr make)))))) = (Make make.0, make.1)

-- Words that say no command are no command line.
pub no_line : (words : List (List ℕ)) → ((which : Command) → Says which words → ⊥) → IsCommandLine words → ⊥
no_line words none line = let which = line_said words line in none which.0 which.1

-- A command is found exactly where they are one.
pub found_line : (words : List (List ℕ)) (found : Option Command) → FindsExactly (λ (which : Command). Says which words) found → IsTrue (is_some found) ↔ IsCommandLine words
found_line words (Some which) said = (λ _. said_line which words said, λ _. refl)
found_line words None none = (λ never. absurd cc, λ line. absurd (no_line words none line))
