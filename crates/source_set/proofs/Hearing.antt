-- What a source reports is something to be done, or not.
use Rattle.std.proofs.Common.{ℕ, Bool, List, Result, Err, refl, sym, subst}
use Rattle.collector_core.specs.declared.chronicle.Mark.{Mark}
use Rattle.collector_core.specs.Chronicle.{Chronicle}
use Rattle.source_set.specs.Asking.{Hears, IsItem, NoItem, Refused, Stand}
use Rattle.source_set.specs.declared.seat.Stop.{Stop}
use Rattle.source_set.specs.declared.told.Told.{Told}
use Rattle.source_set.specs.declared.told.Told.TheVariants as told

module _ {B D : Type 0} (stands : D → Chronicle → Type 0) (went : D → List Mark → D → Type 0) (stamp : List ℕ) where
  -- Nothing was done.
  pub hears_none : (number : ℕ) (item : Told) (stand : Stand B D) (answer : Result Bool Stop) → NoItem number item answer → Hears stands went stamp item number stand stand answer
  hears_none number (told.Add key content) stand answer is = absurd is
  hears_none number (told.Change key content) stand answer is = absurd is
  hears_none number (told.Gone key) stand answer is = absurd is
  hears_none number told.Ended stand answer is = absurd is
  hears_none number (told.Bad line) stand answer is = subst (Hears stands went stamp (told.Bad line) number stand stand) (sym is) (refl, refl)
  hears_none number told.Quiet stand answer is = subst (Hears stands went stamp told.Quiet number stand stand) (sym is) (refl, refl)
  hears_none number told.Failed stand answer is = subst (Hears stands went stamp told.Failed number stand stand) (sym is) (refl, refl)
  hears_none number told.Memory stand answer is = subst (Hears stands went stamp told.Memory number stand stand) (sym is) (refl, refl)

  -- The item was refused.
  pub hears_refused : (number : ℕ) (item : Told) (before after : Stand B D) (stop : Stop) → IsItem item → Refused stands went stamp item number before after stop
      → Hears stands went stamp item number before after (Err stop)
  hears_refused number (told.Add key content) before after stop is not-done = not-done
  hears_refused number (told.Change key content) before after stop is not-done = not-done
  hears_refused number (told.Gone key) before after stop is not-done = not-done
  hears_refused number told.Ended before after stop is not-done = not-done
  hears_refused number (told.Bad line) before after stop is not-done = absurd is
  hears_refused number told.Quiet before after stop is not-done = absurd is
  hears_refused number told.Failed before after stop is not-done = absurd is
  hears_refused number told.Memory before after stop is not-done = absurd is
