-- How a session ended, as commands print it. Numbers are decimal.
use Rattle.std.specs.Prelude.{ℕ, List, [], ◌∷◌, codes}
use Rattle.std.specs.Fmt.{decimal}
use Rattle.session_rules.specs.declared.end.SessionEnd.{SessionEnd}
use Rattle.session_rules.specs.declared.end.SessionEnd.TheVariants as end

-- How an end is over.
abbrev pub end_words : SessionEnd → List (List ℕ)
end_words end.Closed = codes "closed" ∷ []
end_words end.PeerClosed = codes "peer-closed" ∷ []
end_words (end.PeerError vendor code) = codes "peer-error" ∷ decimal vendor ∷ decimal code ∷ []
end_words (end.Refused code offset) = codes "refused" ∷ decimal code ∷ decimal offset ∷ []
end_words end.Ended = codes "ended" ∷ []
end_words (end.Torn have) = codes "torn" ∷ decimal have ∷ []
end_words end.LinkFault = codes "link-fault" ∷ []
end_words (end.IdleOut turns) = codes "idle-out" ∷ decimal turns ∷ []
end_words end.Enough = codes "enough" ∷ []
end_words end.Memory = codes "memory" ∷ []
