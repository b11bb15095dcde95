use Rattle.pa_attrs.proofs.AttrsRead.{attrs_read}
use Rattle.pa_attrs.proofs.read.read_message.Goals as goal

pub returns-in-Ok-clause-few : goal.returns-in-Ok-clause-few
returns-in-Ok-clause-few c = (attrs_read _ _ _ _ c.in-Ok.ensures.message).few

pub returns-in-Ok-clause-within : goal.returns-in-Ok-clause-within
returns-in-Ok-clause-within c = (attrs_read _ _ _ _ c.in-Ok.ensures.message).within

pub returns-in-Ok-clause-supported : goal.returns-in-Ok-clause-supported
returns-in-Ok-clause-supported c = (attrs_read _ _ _ _ c.in-Ok.ensures.message).supported
