use Rattle.line_words.proofs.Finding.{finds_text}
use Rattle.line_words.proofs.reading.read_text.Goals as goal

pub returns-in-Ok : goal.returns-in-Ok
returns-in-Ok g c = record { text = finds_text g.L.Limit.OCTETS c.args.word.now c.in-Ok.octets c.bounded.result c.in-Ok.ensures.octets (rw c.as_slice.ensures.items at c.bounded.ensures.within) }
