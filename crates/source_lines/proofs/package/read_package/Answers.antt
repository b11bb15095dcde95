use Rattle.source_lines.proofs.Finding.{no_tag_found}
use Rattle.source_lines.proofs.package.read_package.Goals as goal

pub returns-in-Err : goal.returns-in-Err
returns-in-Err c = record { whole = no_tag_found c.args.octets.now c.in-Err.refused c.no_tag.result c.in-Err.ensures.refused c.no_tag.ensures.none }
