use Rattle.std.proofs.Common.{◌∙◌, ap, map, subst}
use Rattle.clap.specs.Words.{App, is_simple_and_free}
use Rattle.command_options.specs.Given.{Finds}
use Rattle.command_options.proofs.CollectTaken.{is_plain}
use Rattle.command_options.proofs.collect.collect_found.Goals as goal

pub found-requires : goal.found-requires
found-requires c = record { simple = ap is_simple_and_free c.in_ok-collect_command.ensures.app ∙ is_plain }

pub returns : goal.returns
returns c = record { found = subst (λ (a : App). Finds a (map (λ word. word.now) c.args.words.now) c.found.result) c.in_ok-collect_command.ensures.app c.found.ensures.found }
