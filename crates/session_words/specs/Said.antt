-- What a message says, as the value of a call.
use Rattle.session_rules.specs.Saying.{Said, Says, Refused}
use Rattle.session_words.specs.declared.said.Said.{Said as SaidValue}
use Rattle.session_words.specs.declared.said.Said.TheVariants as said

abbrev pub said_of : {W : Type 0} → SaidValue W → Said W
said_of (said.Says words) = Says words
said_of (said.Refused error) = Refused error
