use Rattle.std.proofs.Common.{◌≡◌, ◌≤◌, ◌++◌, ◌∷◌, [], Bool, true, false, List, if◌then◌else◌, is_ok, sym, subst}
use Rattle.std.specs.List.{All}
use Rattle.std.proofs.lemmas.List.Elements.{All-push}
use Rattle.cbor_det.specs.Term.{depth}
use Rattle.coswid_codec.specs.Items.{tag_item}
use Rattle.coswid_codec.specs.SizesFit.{SizesFit}
use Rattle.conformance_tags.proofs.links.tags_of.Goals as goal

-- What holds of all and of one more holds of all, whether there was room for it or not.
all_put : {A : Type 0} (P : A → Type 0) (room : Bool) (xs ys : List A) (x : A) → ys ≡ (if room then xs ++ x ∷ [] else xs) → All P xs → P x → All P ys
all_put P true xs ys x is before one = subst (λ (zs : List _). All P zs) (sym is) (All-push P xs x before one)
all_put P false xs ys x is before one = subst (λ (zs : List _). All P zs) (sym is) before

pub loop-rest-preserved : goal.loop-rest-preserved
loop-rest-preserved c = record {
  shallow = all_put (λ g. depth (tag_item g) ≤ 64) (is_ok c.push.result) c.loop-rest.tags.items c.push.new.self.items c.in_ok-tag.tag c.push.ensures.items c.loop-rest.invariant.shallow
      c.in_ok-tag.ensures.shallow;
  sizes = all_put SizesFit (is_ok c.push.result) c.loop-rest.tags.items c.push.new.self.items c.in_ok-tag.tag c.push.ensures.items c.loop-rest.invariant.sizes c.in_ok-tag.ensures.sizes;
}
