-- What the words of a command line ask for, and what a command is lent for them.
use Rattle.std.specs.Prelude.{◌≡◌, ◌≢◌, ◌≤◌, ◌⊎◌, ℕ, List, ◌∷◌, Result, Ok, Err, codes, length}
use Rattle.clap.specs.Words.{Text}
use Rattle.wire_base.specs.declared.values.memory.Memory.{Memory}
use Rattle.source_set.specs.Sweeping.{SetView, fresh}
use Rattle.command_options.specs.Collect.{CollectWithin, IsCollect}
use Rattle.command_options.specs.Follow.{FollowWithin, IsFollow}
use Rattle.command_options.specs.declared.collect.CollectOptions.{CollectOptions}
use Rattle.command_options.specs.declared.follow.FollowOptions.{FollowOptions}
use Rattle.swid_cli.specs.Words.{IsCommandLine}
use Rattle.swid_run.specs.declared.order.Order.{Order}
use Rattle.swid_run.specs.declared.order.Order.TheVariants as order
use Rattle.swid_run.specs.declared.plans.Plan.{Plan}
use Rattle.swid_run.specs.declared.plans.Plan.TheVariants as plan

-- ---- what they say

-- The words are `collect` and words that say these options.
abbrev pub SaysCollect : List Text → CollectOptions → Type 0
SaysCollect words options = (rest : List Text) × (words ≡ codes "collect" ∷ rest) × IsCollect rest options

-- The words are `follow` and words that say these options.
abbrev pub SaysFollow : List Text → FollowOptions → Type 0
SaysFollow words options = (rest : List Text) × (words ≡ codes "follow" ∷ rest) × IsFollow rest options

-- The words are a command line of neither.
pub record SaysNeither (words : List Text) : Type 0 where
  pub collect : (options : CollectOptions) → ¬ SaysCollect words options
  pub follow : (options : FollowOptions) → ¬ SaysFollow words options

-- The words are a command line.
abbrev pub IsLine : List Text → Type 0
IsLine words = IsCommandLine words ⊎ ((options : CollectOptions) × SaysCollect words options) ⊎ ((options : FollowOptions) × SaysFollow words options)

-- The first word is that of a command that waits for others.
abbrev pub Waits : List Text → Type 0
Waits words = (rest : List Text) × ((words ≡ codes "collect" ∷ rest) ⊎ (words ≡ codes "follow" ∷ rest))

-- ---- what is lent

-- For `collect` there are as many doors as workers and as many sources as files, for `follow` as
-- many doors as addresses and no source, and for other words neither.
pub record AreLent (words : List Text) (doors sources : ℕ) : Type 0 where
  pub collect : (options : CollectOptions) → SaysCollect words options → (doors ≡ options.workers) × (sources ≡ length options.names)
  pub follow : (options : FollowOptions) → SaysFollow words options → (doors ≡ length options.addresses) × (sources ≡ 0)
  pub other : SaysNeither words → (doors ≡ 0) × (sources ≡ 0)

-- The sources hold no key, and have no fault yet.
abbrev pub IsFresh : {B : Type 0} → SetView B → Type 0
IsFresh {B} set = (sources : List B) × (set ≡ fresh sources)

-- ---- what is to be made for them

-- What is to be made is so by the words. Memory runs out only where options are read.
abbrev pub Plans : List Text → Plan → Type 0
Plans words plan.Plain = IsCommandLine words
Plans words (plan.Collect listen workers names) =
    (options : CollectOptions) × SaysCollect words options × (listen ≡ options.listen) × (workers ≡ options.workers) × (names ≡ options.names)
Plans words (plan.Follow addresses) = (options : FollowOptions) × SaysFollow words options × (addresses ≡ options.addresses)
Plans words plan.Usage = ¬ IsLine words
Plans words plan.Memory = Waits words

-- Words say one thing that is to be made at most.
abbrev pub OnePlan : Type 0
OnePlan = (words : List Text) (one other : Plan) → Plans words one → Plans words other → one ≢ plan.Memory → other ≢ plan.Memory → one ≡ other

-- There are at most 255 files.
abbrev pub HasFewFiles : Plan → Type 0
HasFewFiles (plan.Collect listen workers names) = length names ≤ 255
HasFewFiles other = Unit {0}

-- What is to be made for the words is what a command is lent for them.
abbrev pub Lends : List Text → Plan → Type 0
Lends words plan.Plain = AreLent words 0 0
Lends words (plan.Collect listen workers names) = AreLent words workers (length names)
Lends words (plan.Follow addresses) = AreLent words (length addresses) 0
Lends words plan.Usage = AreLent words 0 0
Lends words plan.Memory = Unit {0}

-- What is to be made for words of neither command.
abbrev pub PlansOther : List Text → Plan → Type 0
PlansOther words plan.Plain = IsCommandLine words
PlansOther words plan.Usage = ¬ IsCommandLine words
PlansOther words other = ⊥

-- Which of the two commands the words ask for, with options within their ranges.
abbrev pub Orders : List Text → Result Order Memory → Type 0
Orders words (Ok order.Other) = SaysNeither words
Orders words (Ok (order.Collect options)) = SaysCollect words options × CollectWithin options
Orders words (Ok (order.Follow options)) = SaysFollow words options × FollowWithin options
Orders words (Err memory) = Waits words

-- So of the words after `collect`, and of those after `follow`.
abbrev pub OrdersCollect : List Text → Result Order Memory → Type 0
OrdersCollect words (Ok order.Other) = (options : CollectOptions) → ¬ IsCollect words options
OrdersCollect words (Ok (order.Collect options)) = IsCollect words options × CollectWithin options
OrdersCollect words (Ok (order.Follow options)) = ⊥
OrdersCollect words (Err memory) = Unit {0}

abbrev pub OrdersFollow : List Text → Result Order Memory → Type 0
OrdersFollow words (Ok order.Other) = (options : FollowOptions) → ¬ IsFollow words options
OrdersFollow words (Ok (order.Collect options)) = ⊥
OrdersFollow words (Ok (order.Follow options)) = IsFollow words options × FollowWithin options
OrdersFollow words (Err memory) = Unit {0}
