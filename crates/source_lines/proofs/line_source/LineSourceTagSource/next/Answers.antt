use Rattle.source_lines.specs.Lines.{WillReport}
use Rattle.source_lines.proofs.Holding.{leaves_item, reported_item}
use Rattle.source_lines.proofs.line_source.LineSourceTagSource.next.Goals as goal

pub returns-in-Ok-clause-reported : goal.returns-in-Ok-clause-reported
returns-in-Ok-clause-reported g c = reported_item (WillReport g.S.Source.left) c.args.self.now c.read_item.new.self c.in-Ok.told c.in-Ok.ensures.item.2

pub returns-in-Ok-clause-unread : goal.returns-in-Ok-clause-unread
returns-in-Ok-clause-unread g c = leaves_item (WillReport g.S.Source.left) c.args.self.now c.read_item.new.self c.in-Ok.told c.in-Ok.ensures.item.0 c.in-Ok.ensures.item.1
