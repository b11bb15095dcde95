use Rattle.std.proofs.Common.{List, map, subst, sym}
use Rattle.clap.specs.Words.{Row, Text}
use Rattle.command_options.specs.Collect.{CollectMeans, CollectThere}
use Rattle.command_options.proofs.CollectTaken.{collect_there, collect_within}
use Rattle.command_options.proofs.collect.collect_options.Goals as goal

pub options_of-requires : goal.options_of-requires
options_of-requires c = record { there = subst CollectThere (sym c.in_ok-matches.ensures.found.1) (collect_there (map (λ word. word.now) c.args.words.now) c.in_ok-matches.ensures.found.0) }

pub returns-clause-within : goal.returns-clause-within
returns-clause-within c =
    let words : List Text = map (λ word. word.now) c.args.words.now in
    collect_within words c.in_ok-options_of.field-0 (
      c.in_ok-matches.ensures.found.0,
      subst (λ (rows : List Row). CollectMeans rows c.in_ok-options_of.field-0) c.in_ok-matches.ensures.found.1 c.in_ok-options_of.ensures.options,
    )
