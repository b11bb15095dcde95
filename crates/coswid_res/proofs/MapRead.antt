-- An item is read as a map by its pairs.
use Rattle.std.proofs.Common.{◌≡◌, Option, Result, sym, ap, ◌∙◌, subst}
use Rattle.cbor_det.specs.Term.{Term, Pairs}
use Rattle.cbor_det.specs.View.{view, pairs_view}
use Rattle.cbor_det.specs.declared.item.Item.{Item}
use Rattle.cbor_det.specs.declared.item.Item.TheVariants as code
use Rattle.cbor_det.specs.declared.item.Pairs as held
use Rattle.cbor_det.proofs.Views.{view_map}
use Rattle.coswid_res.specs.declared.fault.FormFault.{FormFault}
use Rattle.coswid_res.specs.declared.fault.FormRefused.{FormRefused}
use Rattle.coswid_res.specs.Fault.{field_fault}
use Rattle.coswid_res.specs.Reading.{Gives, keys_fault}
use Rattle.coswid_res.specs.Schema.{Name, one, a_map}
use Rattle.coswid_res.specs.Words.{IsMap}
use Rattle.coswid_res.proofs.Maps.{map_told}

pub map_read : {A : Type 0} (name : Name) (Keys : A → Pairs → Type 0) (item : Item) (p : held.Pairs) (r : Result A FormRefused) → item ≡ code.Map p
    → Gives (λ v. Keys v (pairs_view p)) (keys_fault name (pairs_view p)) r → Gives (λ v. IsMap (Keys v) (view item)) (field_fault (one (a_map name)) (view item)) r
map_read {A} name Keys item p r is told =
    let P : Option FormFault → Type 0 = λ first. Gives (λ v. Keys v (pairs_view p)) first r in
    let Q : Term → Type 0 = λ t. Gives (λ v. IsMap (Keys v) t) (field_fault (one (a_map name)) t) r in
    subst Q (sym (ap view is ∙ view_map p)) (subst P (sym (map_told name (pairs_view p))) told)
