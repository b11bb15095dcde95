use Rattle.std.proofs.Common.{◌∙◌, sym, refl}
use Rattle.std.specs.Str.Parse.{ExplainsUnsignedError, HasUnsignedDigitsIfOk, ParsesUnsigned}
use Rattle.clap.specs.Words.{found_of, rows_of}
use Rattle.clap.proofs.WalkLemmas.{one_text-rows}
use Rattle.command_options.proofs.Values.{number_is, number_read}
use Rattle.command_options.proofs.given.number_of.Goals as goal

pub unwrap-requires : goal.unwrap-requires
unwrap-requires c =
    let one = c.get_one.ensures.value c.requires.there.text (one_text-rows (found_of c.args.matches.now) c.args.id.now ∙ c.requires.there.read) in
    let is = number_read _ (λ bs r. ParsesUnsigned 32 10 bs r × ExplainsUnsignedError 10 bs r × HasUnsignedDigitsIfOk bs r) c.requires.there.text c.get_one.result one (λ u x g. g.0) c.requires.there.number in
    rw is refl

pub returns : goal.returns
returns c =
    let one = c.get_one.ensures.value c.requires.there.text (one_text-rows (found_of c.args.matches.now) c.args.id.now ∙ c.requires.there.read) in
    let is = number_read _ (λ bs r. ParsesUnsigned 32 10 bs r × ExplainsUnsignedError 10 bs r × HasUnsignedDigitsIfOk bs r) c.requires.there.text c.get_one.result one (λ u x g. g.0) c.requires.there.number in
    record { number = number_is c.args.id.now (rows_of (found_of c.args.matches.now)) c.requires.there ∙ sym is ∙ c.unwrap.ensures }
