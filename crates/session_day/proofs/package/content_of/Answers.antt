-- The identifier and the octets of its tag.
use Rattle.session_day.proofs.Contents.{content_is, has_identifier, short_body}
use Rattle.session_day.proofs.package.content_of.Goals as goal

pub identifier-requires : goal.identifier-requires
identifier-requires c =
    let p = c.requires.of_package in
    record { some = has_identifier p.0 p.1 p.2 c.args.tag.now p.4 p.3 }

pub from_octets-requires : goal.from_octets-requires
from_octets-requires c =
    let p = c.requires.of_package in
    short_body p.0 p.1 p.2 c.args.tag.now p.4 c.in_ok-octets.octets c.as_slice.result.now p.3 c.in_ok-octets.ensures.canonical c.as_slice.ensures.items

pub returns : goal.returns
returns c = record {
  content = λ place version number few is. content_is place version number c.args.tag.now is c.in_ok-ident.ident c.empty.result c.in_ok-octets.octets c.as_slice.result.now c.in_ok-body.body
      c.in_ok-ident.ensures.identifier c.empty.ensures.empty c.in_ok-octets.ensures.canonical c.as_slice.ensures.items c.in_ok-body.ensures.octets;
}
