use Rattle.pb_batch.specs.FieldReading.{read_message}
use Rattle.pb_batch.specs.Front.{value_of}
use Rattle.pb_batch.specs.Types.{type_of}
use Rattle.wire_base.specs.Reading.{value_alone}
use Rattle.pb_batch.proofs.FieldsRead.{gives_ok, gives_err, value_read}
use Rattle.pb_batch.proofs.message_value.read_value.Goals as goal

pub returns-in-Ok : goal.returns-in-Ok
returns-in-Ok c =
    let is = value_read c.args.at c.args.rest.now c.args.head c.requires.head c.requires.within c.requires.may in
    record { value = gives_ok c.in-Ok.message _ _ (rw c.new-cursor.ensures.rest at c.in-Ok.ensures.message) is }

pub returns-in-Err : goal.returns-in-Err
returns-in-Err c =
    let is = value_read c.args.at c.args.rest.now c.args.head c.requires.head c.requires.within c.requires.may in
    rw c.in_value.ensures.refused (record { value = gives_err c.in-Err.refused _ _ (rw c.new-cursor.ensures.rest at c.in-Err.ensures.message) is })
