use Rattle.pb_machine.proofs.Sending.{may_close}
use Rattle.validator_session.proofs.writing.refuse.Goals as goal

pub send-requires : goal.send-requires
send-requires c = record { may = may_close c.args.standing.now.machine.role c.args.standing.now.machine.state c.requires.live }
