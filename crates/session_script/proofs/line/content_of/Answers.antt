use Rattle.session_script.proofs.line.content_of.Goals as goal

pub returns-in_default-2 : goal.returns-in_default-2
returns-in_default-2 c = record { content = λ content is. (rw c.in_default-2.is at c.in_ok-octets.ensures.octets) is.octets is.hex }
