-- Numbers in messages: that many octets, the most significant first ("network byte order").
use Rattle.std.specs.Prelude.{◌+◌, ◌*◌, ◌/◌, ◌%◌, ℕ, zero, suc, List, [], ◌∷◌, ◌++◌, fold}

-- The number that some octets stand for.
abbrev pub number_of : List ℕ → ℕ
number_of octets = fold (λ number octet. 256 * number + octet) 0 octets

-- The octets of a number, as many as are asked for.
unfoldable pub octets_of : ℕ → ℕ → List ℕ
octets_of zero number = []
octets_of (suc size) number = octets_of size (number / 256) ++ (number % 256) ∷ []
