-- What is refused of a word is refused of the line.
use Rattle.std.proofs.Common.{ℕ, List, Err}
use Rattle.line_words.specs.Reading.{IsNumber, IsText}
use Rattle.source_lines.specs.LineFaults.{BodyFault, DigitsFault, GivesOr, HasValue}
use Rattle.source_lines.specs.declared.line_fault.LineFault.{LineFault}
use Rattle.source_lines.specs.declared.line_fault.LineFault.TheVariants as faults
use Rattle.source_lines.specs.declared.line_fault.LineRefused.{LineRefused}
use Rattle.source_lines.specs.declared.line_fault.LineRefused.TheVariants as refused

-- A refusal that names a fault of a part names one of the whole.
pub refuses : {A B : Type 0} (Is : A → Type 0) (Of : LineFault → Type 0) (All : B → Type 0) (Has : LineFault → Type 0) (why : LineRefused)
    → ((fault : LineFault) → Of fault → Has fault) → GivesOr Is Of (Err why) → GivesOr All Has (Err why)
refuses Is Of All Has (refused.Fault fault) so told = so fault told
refuses Is Of All Has refused.Memory so told = tt

-- A fault of the digits, after words that have values.
pub no_body : (key ident locator digits : List ℕ) → HasValue (IsNumber key) → HasValue (IsText 65535 ident) → HasValue (IsText 65535 locator)
    → (fault : LineFault) → DigitsFault digits fault → BodyFault key ident locator digits fault
no_body key ident locator digits number name place faults.Digits has = (number, name, place, has)
no_body key ident locator digits number name place faults.Octets has = (number, name, place, has.0, has.1, has.2)
no_body key ident locator digits number name place faults.Long has = has
no_body key ident locator digits number name place faults.Words has = has
no_body key ident locator digits number name place faults.Key has = absurd has
no_body key ident locator digits number name place faults.Text has = absurd has
