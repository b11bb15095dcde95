use Rattle.std.proofs.Common.{subst, sym, List, ℕ}
use Rattle.source_lines.specs.Package.{IsPackage}
use Rattle.source_lines.proofs.line_item.tagged.Goals as goal

pub returns-in_default-4 : goal.returns-in_default-4
returns-in_default-4 c = record {
  tag = (
    (c.in-Some.key, c.in-Some.ensures.number),
    (c.in-Some-2.locator, rw c.in-Some-2.is at c.in_ok-locator.ensures.text),
    c.in-Some-3.octets,
    rw c.in-Some-3.is at c.in_ok-octets.ensures.octets,
    λ made is.
        (rw c.in_default-4.is at c.in_ok-package.ensures.whole) made (subst (λ (octets : List ℕ). IsPackage octets made) (sym c.as_slice.ensures.items) is),
  );
}
