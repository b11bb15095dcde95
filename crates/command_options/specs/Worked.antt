-- Words, and what they say.
use Rattle.std.specs.Prelude.{List, [], ◌∷◌, codes, false}
use Rattle.swima_model.specs.declared.report.Kind.TheVariants.{Ids}
use Rattle.clap.specs.Words.{Text}
use Rattle.command_options.specs.Collect.{IsCollect, collect_app}
use Rattle.command_options.specs.Follow.{IsFollow, follow_app}
use Rattle.command_options.specs.Given.{Takes}

-- `--listen a --epoch 7`, and words after them.
abbrev pub listening : List Text → List Text
listening words = codes "--listen" ∷ codes "a" ∷ codes "--epoch" ∷ codes "7" ∷ words

-- The fewest words of `collect` leave all numbers but the epoch as they are by default.
abbrev pub FewestOfCollect : Type 0
FewestOfCollect = IsCollect (listening []) (record {
  listen = codes "a";
  epoch = 7;
  cap = 1024;
  workers = 2;
  sessions = 1;
  sweeps = 1;
  names = [];
})

-- What follows options belongs to no option, and what follows `--` is no option.
abbrev pub NamesOfCollect : Type 0
NamesOfCollect = IsCollect (listening (codes "--cap=4096" ∷ codes "x" ∷ codes "--" ∷ codes "--y" ∷ [])) (record {
  listen = codes "a";
  epoch = 7;
  cap = 4096;
  workers = 2;
  sessions = 1;
  sweeps = 1;
  names = codes "x" ∷ codes "--y" ∷ [];
})

-- The fewest words of `follow` are an address.
abbrev pub FewestOfFollow : Type 0
FewestOfFollow = IsFollow (codes "a" ∷ []) (record {
  kind = Ids;
  subscribe = false;
  rounds = 1;
  sessions = 1;
  addresses = codes "a" ∷ [];
})

-- A cap above 4096 is refused, and so are no address to listen on, and a call for help.
pub record RefusedOfCollect : Type 0 where
  pub cap : Takes collect_app (listening (codes "--cap" ∷ codes "4097" ∷ [])) → ⊥
  pub nothing : Takes collect_app [] → ⊥
  pub help : Takes collect_app (listening (codes "--help" ∷ [])) → ⊥

-- No address is refused, and so are no rounds.
pub record RefusedOfFollow : Type 0 where
  pub nothing : Takes follow_app [] → ⊥
  pub rounds : Takes follow_app (codes "--rounds" ∷ codes "0" ∷ codes "a" ∷ []) → ⊥
