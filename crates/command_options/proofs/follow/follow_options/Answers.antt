use Rattle.std.proofs.Common.{List, map, subst, sym}
use Rattle.clap.specs.Words.{Row, Text, matches_of}
use Rattle.command_options.specs.Follow.{FollowMeans, FollowThere, FollowWithin, IsFollow, follow_app}
use Rattle.command_options.specs.Given.{Reads}
use Rattle.command_options.proofs.FollowTaken.{follow_there, follow_within}
use Rattle.command_options.proofs.Refusals.{never_ok, options_up, refused_up, within_up}
use Rattle.command_options.proofs.follow.follow_options.Goals as goal

pub options_of-requires : goal.options_of-requires
options_of-requires c = record { there = subst FollowThere (sym c.in_ok-matches.ensures.found.1) (follow_there (map (λ word. word.now) c.args.words.now) c.in_ok-matches.ensures.found.0) }

pub returns-clause-within : goal.returns-clause-within
returns-clause-within c =
    let words : List Text = map (λ word. word.now) c.args.words.now in
    let means : Reads (FollowMeans (matches_of follow_app words)) c.options_of.result =
    subst (λ (rows : List Row). Reads (FollowMeans rows) c.options_of.result) c.in_ok-matches.ensures.found.1 c.options_of.ensures.options in
    let says : Reads (IsFollow words) c.options_of.result =
    options_up (FollowMeans (matches_of follow_app words)) (IsFollow words) c.options_of.result means (λ options is. (c.in_ok-matches.ensures.found.0, is)) (λ options is. is.1) in
    within_up (IsFollow words) FollowWithin c.options_of.result says (follow_within words)

pub returns-in_err-matches : goal.returns-in_err-matches
returns-in_err-matches c =
    let words : List Text = map (λ word. word.now) c.args.words.now in
    record {
      options = refused_up (FollowMeans (matches_of follow_app words)) follow_app words c.from_residual.result _ c.from_residual.ensures.1 c.in_err-matches.ensures.found;
      within = never_ok c.from_residual.result _ FollowWithin c.from_residual.ensures.1;
    }
