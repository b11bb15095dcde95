-- There is one.
use Rattle.session_day.proofs.Packed.{one_description}
use Rattle.session_day.proofs.package.described.Goals as goal

pub returns : goal.returns
returns c = record { described = one_description c.args.letters _ _ c.description_of.result _ c.new-metas.ensures.empty c.in_ok-push.ensures.appended c.description_of.ensures.fields c.in_ok-summary.ensures.text }
