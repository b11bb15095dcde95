use Rattle.std.proofs.Common.{ℕ, Option, sym, ap, ◌∙◌}
use Rattle.coswid_links.specs.Names.{listed}
use Rattle.coswid_links.proofs.Found.{finds_nothing, finds}
use Rattle.coswid_links.proofs.link.finding_of.Goals as goal

pub returns-in-None : goal.returns-in-None
returns-in-None c = record { finding = λ gs i j names. finds_nothing gs c.args.link.now i j (sym c.in-None.ensures.name) }

pub returns-in-Some : goal.returns-in-Some
returns-in-Some c = record {
  finding = λ gs i j names.
      ap (λ (kind : Option ℕ). listed kind i j) c.judge.ensures.judged
      ∙ finds gs c.args.link.now i j c.in-Some.name.now c.get.result (sym c.in-Some.ensures.name) (c.get.ensures.known ∙ names c.in-Some.name.now);
}
