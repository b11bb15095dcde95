-- Words before those that are still read: the loop over attributes keeps that these are all words.
use Rattle.std.proofs.Common.{ℕ, List, ◌++◌, Result, Ok, Err}

abbrev pub with_words : {W : Type 0} → List W → Result (List W) ℕ → Result (List W) ℕ
with_words words (Ok later) = Ok (words ++ later)
with_words words (Err place) = Err place
