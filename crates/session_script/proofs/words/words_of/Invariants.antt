-- The words so far, and those that are left, are those of the line.
use Rattle.std.proofs.Common.{◌≡◌, ◌++◌, length}
use Rattle.line_words.specs.Words.{words}
use Rattle.session_script.proofs.Wording.{texts}
use Rattle.session_script.proofs.words.words_of.Given as goal

abbrev pub invariant-loop : goal.invariant-loop
invariant-loop l = (texts l.found.items ++ l.words ≡ words l.fn.line) × (length l.found.items ≡ l.counter)
