-- The words read so far, and those of the attributes that are left, are those of all.
use Rattle.std.proofs.Common.{◌≡◌, drop}
use Rattle.session_rules.specs.Saying.{words_of}
use Rattle.session_words.proofs.Words.{with_words}
use Rattle.session_words.proofs.said.words.Given as goal

abbrev pub invariant-loop-placed : goal.invariant-loop-placed
invariant-loop-placed g l = with_words l.words (words_of (g.R.WordReader.reading l.reader) (drop l.placed-index l.attrs)) ≡ words_of (g.R.WordReader.reading l.reader) l.attrs
