use Rattle.session_script.proofs.Playings.{stamp_is}
use Rattle.session_script.proofs.inventory.stamp_at.Goals as goal

pub returns-clause-text : goal.returns-clause-text
returns-clause-text c = stamp_is _ c.args.second c.stamp_text.result c.unwrap.result c.from.ensures c.unwrap.ensures c.stamp_text.ensures.text
