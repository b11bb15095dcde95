use Rattle.std.proofs.Common.{◌≤◌, length, ap, arith, List, subst, sym}
use Rattle.std.specs.List.{All}
use Rattle.cbor_det.specs.Term.{depth}
use Rattle.coswid_tag.specs.declared.tag.Tag.{Tag}
use Rattle.coswid_codec.specs.Items.{tag_item}
use Rattle.coswid_codec.specs.SizesFit.{SizesFit}
use Rattle.swid_cli.specs.declared.links.tag_list.TagList.{TagList}
use Rattle.swid_cli.proofs.Reading.{more_read, none_read, one_longer, one_more_holds}
use Rattle.swid_cli.proofs.links.tag_list.read_tags.Goals as goal

pub loop-rest-init : goal.loop-rest-init
loop-rest-init c = record {
  begins = none_read c.args.octets.now c.new-tags.result c.new-tags.ensures.empty;
  within = let size = ap (λ (gs : List Tag). length gs) c.new-tags.ensures.empty in omega (arith, size);
  shallow = λ k d less. let size = ap (λ (gs : List Tag). length gs) c.new-tags.ensures.empty in absurd (omega (arith, size, less));
  sizes = λ k d less. let size = ap (λ (gs : List Tag). length gs) c.new-tags.ensures.empty in absurd (omega (arith, size, less));
}

pub loop-rest-preserved : goal.loop-rest-preserved
loop-rest-preserved c =
    let tags = c.in_ok-push-in-Ok.ensures.appended in
    record {
      begins = more_read c.args.octets.now c.loop-rest.rest.now _ c.loop-rest.tags _ c.in-Ok.tag c.in-Ok.used c.loop-rest.invariant.begins c.in-Ok.ensures.found tags c.split_at.ensures.back;
      within = let size = one_longer c.loop-rest.tags _ c.in-Ok.tag tags in omega (arith, size, c.loop-rest.invariant.within, c.if-len-eq-MOST_TAGS.false);
      shallow = one_more_holds (λ (g : Tag). depth (tag_item g) ≤ 64) c.loop-rest.tags _ c.in-Ok.tag c.loop-rest.invariant.shallow c.in-Ok.ensures.shallow tags;
      sizes = one_more_holds SizesFit c.loop-rest.tags _ c.in-Ok.tag c.loop-rest.invariant.sizes c.in-Ok.ensures.sizes tags;
    }

pub returns-then-len-eq-MOST_TAGS-clause-sizes : goal.returns-then-len-eq-MOST_TAGS-clause-sizes
returns-then-len-eq-MOST_TAGS-clause-sizes c = subst (λ (read : TagList). All SizesFit read.tags) (sym c.ended.ensures.list) c.loop-rest.invariant.sizes

pub returns-in-Err-Cbor-clause-sizes : goal.returns-in-Err-Cbor-clause-sizes
returns-in-Err-Cbor-clause-sizes c = subst (λ (read : TagList). All SizesFit read.tags) (sym c.ended-in-Err-Cbor.ensures.list) c.loop-rest.invariant.sizes

pub returns-in-Err-Form-clause-sizes : goal.returns-in-Err-Form-clause-sizes
returns-in-Err-Form-clause-sizes c = subst (λ (read : TagList). All SizesFit read.tags) (sym c.ended-in-Err-Form.ensures.list) c.loop-rest.invariant.sizes

pub returns-clause-sizes : goal.returns-clause-sizes
returns-clause-sizes c = subst (λ (read : TagList). All SizesFit read.tags) (sym c.ended-2.ensures.list) c.loop-rest.invariant.sizes
