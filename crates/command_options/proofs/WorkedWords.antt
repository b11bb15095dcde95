-- Each computes.
use Rattle.std.proofs.Common.{◌≡◌, [], ◌∷◌, refl}
use Rattle.clap.specs.Words.{Kinds}
use Rattle.clap.specs.declared.error.kind.ErrorKind.{ErrorKind}
use Rattle.clap.specs.declared.error.kind.ErrorKind.TheVariants as kind
use Rattle.clap.proofs.OnLiterals.{clap_on_literals}
use Rattle.command_options.specs.Worked.{FewestOfCollect, FewestOfFollow, NamesOfCollect, RefusedOfCollect, RefusedOfFollow}

pub fewest_of_collect : FewestOfCollect
unfolding clap_on_literals
fewest_of_collect = (refl, record { listen = refl; epoch = refl; cap = refl; workers = refl; sessions = refl; sweeps = refl; names = refl })

pub names_of_collect : NamesOfCollect
unfolding clap_on_literals
names_of_collect = (refl, record { listen = refl; epoch = refl; cap = refl; workers = refl; sessions = refl; sweeps = refl; names = refl })

pub fewest_of_follow : FewestOfFollow
unfolding clap_on_literals
fewest_of_follow = (refl, record { kind = refl; subscribe = refl; rounds = refl; sessions = refl; addresses = refl })

some_kind : (k : ErrorKind) (ks : Kinds) → k ∷ ks ≡ [] → ⊥
some_kind k ks e = cc

pub refused_of_collect : RefusedOfCollect
unfolding clap_on_literals
refused_of_collect = record {
  cap = λ e. some_kind kind.ValueValidation [] e;
  nothing = λ e. some_kind kind.MissingRequiredArgument [] e;
  help = λ e. some_kind kind.UnknownArgument [] e;
}

pub refused_of_follow : RefusedOfFollow
unfolding clap_on_literals
refused_of_follow = record {
  nothing = λ e. some_kind kind.MissingRequiredArgument [] e;
  rounds = λ e. some_kind kind.ValueValidation [] e;
}
