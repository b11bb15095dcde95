use Rattle.std.proofs.Common.{rules}
use Rattle.std.proofs.lemmas.Result.{on_ok_weaker}
use Rattle.swima_reports.proofs.Writing.{events_writable}
use Rattle.swima_reports.proofs.write.put_events.Goals as goal

pub returns-clause-writable : goal.returns-clause-writable
returns-clause-writable c = on_ok_weaker c.put_entries.result
    (events_writable c.args.kind c.args.fulfil c.args.id c.args.point c.args.consulted c.args.events.now (search rules) (search rules)
    (search rules) (search rules) (search rules) (search rules)
    c.requires.stamps)
    c.put_entries.ensures.room
