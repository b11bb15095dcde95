-- What holds of each tag that was read holds with one tag more.
use Rattle.std.proofs.Common.{◌≡◌, ◌≤◌, ◌++◌, ◌∷◌, [], List, sym, subst}
use Rattle.std.specs.List.{All}
use Rattle.std.proofs.lemmas.List.Elements.{All-push}
use Rattle.cbor_det.specs.Term.{depth}
use Rattle.coswid_codec.specs.Items.{tag_item}
use Rattle.coswid_codec.specs.SizesFit.{SizesFit}
use Rattle.bench.proofs.links.tags_of.Goals as goal

more_holds : {A : Type 0} (P : A → Type 0) (xs ys : List A) (x : A) → ys ≡ xs ++ x ∷ [] → All P xs → P x → All P ys
more_holds P xs ys x is before one = subst (λ (zs : List _). All P zs) (sym is) (All-push P xs x before one)

pub loop-rest-preserved : goal.loop-rest-preserved
loop-rest-preserved c = record {
  shallow = more_holds (λ g. depth (tag_item g) ≤ 64) c.loop-rest.tags c.push.new.self c.in_ok-tag.tag c.in_ok-push.ensures.appended c.loop-rest.invariant.shallow c.in_ok-tag.ensures.shallow;
  sizes = more_holds SizesFit c.loop-rest.tags c.push.new.self c.in_ok-tag.tag c.in_ok-push.ensures.appended c.loop-rest.invariant.sizes c.in_ok-tag.ensures.sizes;
}
