use Rattle.std.proofs.Common.{ℕ, take, ap, ◌∙◌}
use Rattle.swid_cli.proofs.LinksTelling.{answer_tells}
use Rattle.swid_cli.proofs.links.answer_to.Goals as goal

pub returns : goal.returns
returns c = record {
  told = answer_tells c.args.octets.now _ c.in_ok-list.list c.answer_to_list.result (c.split_at.ensures.front ∙ ap (λ (n : ℕ). take n c.args.octets.now) c.min.ensures) c.in_ok-list.ensures.list c.answer_to_list.ensures.answer;
}
