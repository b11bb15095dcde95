use Rattle.std.proofs.Common.{◌≡◌, ◌∙◌, ap, sym, subst, rules}
use Rattle.std.specs.Prelude.{filter}
use Rattle.indexmap.proofs.CallerLemmas.{filter-RetainsPairs}
use Rattle.collector_core.specs.Places.{ArePlaces, standing}
use Rattle.collector_core.proofs.Placed.{here_places, here_standing, is_here}
use Rattle.collector_core.proofs.live.drop_empty.Goals as goal

pub returns : goal.returns
returns c =
    let kept : c.retain.new.self.entries ≡ filter is_here c.args.places.now.entries = filter-RetainsPairs _ is_here _ (λ k v b w g call. search rules) _ _ c.retain.ensures.filtered in
    record {
      records = ap standing kept ∙ here_standing c.args.places.now.entries;
      places = λ next empty is. subst (ArePlaces next 0) (sym kept) (here_places next empty c.args.places.now.entries is);
    }
