use Rattle.std.proofs.Common.{refl}
use Rattle.pa_attrs.proofs.FieldsRead.{fields_read, fields_are}
use Rattle.pa_attrs.proofs.header.read_fields.Goals as goal

pub unwrap-requires : goal.unwrap-requires
unwrap-requires c = rw (fields_read c.args.octets.now c.fields.result c.requires (rw c.new.ensures.rest at c.fields.ensures.fields)) refl

pub returns : goal.returns
returns c = record { fields = fields_are c.args.octets.now c.fields.result c.unwrap.result c.requires (rw c.new.ensures.rest at c.fields.ensures.fields) c.unwrap.ensures }
