use Rattle.std.proofs.Common.{◌≡◌, ◌∙◌, [], Some, ap, map, sym}
use Rattle.std.proofs.lemmas.Result.{IfOk-weaker}
use Rattle.std.specs.Prelude.{unwrap_or}
use Rattle.clap.specs.Words.{all_of, found_of, rows_of}
use Rattle.clap.proofs.WalkLemmas.{raw_values-rows}
use Rattle.command_options.specs.Given.{texts_of}
use Rattle.command_options.proofs.given.texts_of.Goals as goal

pub returns-in-Some : goal.returns-in-Some
returns-in-Some c =
    let rows = rows_of (found_of c.args.matches.now) in
    let all : Some (map (λ v. v.now) c.in-Some.words.now) ≡ all_of c.args.id.now rows = c.in-Some.ensures ∙ raw_values-rows (found_of c.args.matches.now) c.args.id.now in
    let are : texts_of c.args.id.now rows ≡ map (λ v. v.now) c.in-Some.words.now = ap (λ o. unwrap_or o []) (sym all) in
    record { texts = IfOk-weaker c.copied.result _ _ (λ texts h. are ∙ sym h) c.copied.ensures.texts }

pub returns-in-None : goal.returns-in-None
returns-in-None c =
    record { texts = ap (λ o. unwrap_or o []) (sym (c.in-None.ensures ∙ raw_values-rows (found_of c.args.matches.now) c.args.id.now)) ∙ sym c.new.ensures.empty }
