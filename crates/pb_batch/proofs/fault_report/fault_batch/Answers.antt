use Rattle.pb_batch.proofs.FaultBatch.{fault_is_batch}
use Rattle.pb_batch.proofs.fault_report.fault_batch.Goals as goal

pub write_batch-requires : goal.write_batch-requires
write_batch-requires c = rw (c.in_ok-push.ensures.appended, c.new-messages.ensures.empty, c.in_ok-fault_info.ensures.info) (record { batch = fault_is_batch c.args.from_server c.args.fault.now c.requires.code })
