-- The fields of the tag.
use Rattle.session_day.proofs.Packed.{package_packed}
use Rattle.session_day.proofs.package.package_tag.Goals as goal

pub returns : goal.returns
returns c = record {
  tag = package_packed c.args.place c.args.version _ _ _ _ _ _ _ c.in_ok-name.ensures.name c.in_ok-software_name.ensures.name c.in_ok-release.ensures.octets c.in_ok-makers.ensures.makers c.in_ok-metas.ensures.described
      c.tag_of.ensures.fields;
}
