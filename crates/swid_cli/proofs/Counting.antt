-- Which words are a number of packages.
use Rattle.std.proofs.Common.{ℕ, List, subst, arith}
use Rattle.line_words.specs.Reading.{IsNumber}
use Rattle.line_words.proofs.Finding.{one_number}
use Rattle.session_day.specs.Day.{IsCount}
use Rattle.swid_cli.specs.Words.{IsCountWord}

count_is_number : (word : List ℕ) (count : ℕ) → IsCountWord word count → IsNumber word count
count_is_number word count is = (omega (arith, is.0.1), is.1)

-- A word that is a number that no day may have is none of packages.
pub no_count : (word : List ℕ) (number : ℕ) → IsNumber word number → (IsCount number → ⊥) → (count : ℕ) → IsCountWord word count → ⊥
no_count word number is none count other = none (subst IsCount (one_number word count number (count_is_number word count other) is) other.0)
