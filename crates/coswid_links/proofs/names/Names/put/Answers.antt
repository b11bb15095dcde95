use Rattle.std.proofs.Common.{◌||◌, ℕ, Bool, List, Option, false, unwrap_or, string_bytes, ap, ◌∙◌}
use Rattle.std.specs.BTreeMap.{get_by_text}
use Rattle.std.proofs.lemmas.Map.Text.{btree_map_updates_text}
use Rattle.coswid_links.specs.Aims.{is_primary, name_of}
use Rattle.coswid_links.proofs.Naming.{name_put}
use Rattle.coswid_links.proofs.names.Names.put.Goals as goal

pub returns : goal.returns
returns c =
    let old = c.args.self.now.is_primary in
    let put = string_bytes c.in_ok-name.name in
    let known = unwrap_or c.get.result false in
    record {
      puts = λ name.
          name_put (λ bs. get_by_text old bs) (λ bs. get_by_text c.insert.new.self bs) put (name_of c.args.tag.now.tag_id) name c.any_primary-any.result known (is_primary c.args.tag.now)
          c.in_ok-name.ensures.name
          (btree_map_updates_text put old c.insert.new.self _ c.in_ok-insert.ensures.updates name)
          (ap (λ (o : Option Bool). unwrap_or o false) c.get.ensures.known ∙ ap (λ (bs : List ℕ). unwrap_or (get_by_text old bs) false) c.as_str.ensures.value)
          (c.any_primary-any.ensures.any ∙ ap (λ (b : Bool). known || b) c.is_primary.ensures.primary);
    }
