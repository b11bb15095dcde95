use Rattle.source_lines.proofs.Finding.{finds_package, no_package_behind}
use Rattle.source_lines.proofs.package.package_of_all.Goals as goal

pub returns-then-used-octets : goal.returns-then-used-octets
returns-then-used-octets c = record { whole = no_package_behind c.args.octets.now c.args.tag.now c.args.used c.requires.begins c.if-used-octets.true }

pub returns : goal.returns
returns c = record { whole = finds_package c.args.octets.now c.args.tag.now c.args.used c.package_of.result c.requires.begins c.if-used-octets.false c.package_of.ensures.parts }
