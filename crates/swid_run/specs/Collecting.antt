-- What `collect` does. All that it serves is one chronicle: it begins in the epoch of the options,
-- with their cap and without a record, and has the entries of the sweeps and no others.
use Rattle.std.specs.Prelude.{◌≡◌, ◌<◌, ◌⊎◌, ℕ, true, List, [], Option, None, Result, Ok, Err, length}
use Rattle.atomic_table.specs.Seated.{TableId}
use Rattle.wire_base.specs.Clocks.{Moments}
use Rattle.wire_base.specs.Turns.{Turn}
use Rattle.wire_base.specs.declared.outside.stopped.Stopped.{Stopped}
use Rattle.wire_base.specs.declared.outside.stopped.Stopped.TheVariants as stopped
use Rattle.wire_base.specs.declared.values.memory.Memory.{Memory}
use Rattle.collector_core.specs.Chronicle.{Chronicle, Start, live_now, point_of}
use Rattle.collector_core.specs.Desks.{AreOwn, entries}
use Rattle.collector_core.specs.Legal.{IsLegal}
use Rattle.collector_core.specs.Standing.{book_of}
use Rattle.book_lock.specs.Passes.{PassView}
use Rattle.source_set.specs.Sweeping.{SetView}
use Rattle.source_set.specs.declared.told.Told.{Told}
use Rattle.source_sweeps.specs.Sweepings.{sweeping}
use Rattle.session_door.specs.declared.work.Work.{Work}
use Rattle.session_door.specs.Serving.{EachOver}
use Rattle.session_door.specs.Visits.{DoorState}
use Rattle.session_pool.specs.declared.config.PoolConfig.{PoolConfig}
use Rattle.session_pool.specs.declared.pool.Served.{Served}
use Rattle.session_pool.specs.declared.stand.Stand.{Stand}
use Rattle.session_pool.specs.Servers.{ServesAndSweeps}
use Rattle.command_options.specs.declared.collect.CollectOptions.{CollectOptions}
use Rattle.command_text.specs.declared.ending.Ending.{Ending}
use Rattle.pool_text.specs.Endings.{collect_ending}
use Rattle.pool_text.specs.Text.{collect_text}
use Rattle.swid_run.specs.Ends.{OutputState, Prints}
use Rattle.swid_run.specs.Limits.{idle_turns, most_octets}

-- ---- how it begins

-- How the chronicle begins.
abbrev pub start_of : CollectOptions → Start
start_of options = record { epoch = options.epoch; cap = options.cap; contents = [] }

-- The first pass of a shelf with the inventory of that start. It is the only one that may change,
-- and has seen no entry.
abbrev pub opening : CollectOptions → TableId → PassView
opening options shelf = record { shelf = shelf; start = book_of (start_of options); seen = []; may_change = true; sole = true }

-- The chronicle of that start, without an entry; and of what a pass has seen since then.
abbrev pub beginning : CollectOptions → Chronicle
beginning options = record { start = start_of options; entries = [] }

abbrev pub chronicle_of : CollectOptions → PassView → Chronicle
chronicle_of options pass = record { start = start_of options; entries = entries pass.seen }

-- How the pool serves.
abbrev pub pool_config : CollectOptions → PoolConfig
pool_config options = record {
  serve = record { max = 16000000; reports = None; idle = idle_turns; octets = most_octets };
  sessions = options.sessions;
  sweeps = options.sweeps;
}

-- ---- what it works with

-- Sources, the moments that a clock will give, where it exposes them, stands with doors, and an
-- output.
pub record CollectState (B D : Type 0) : Type 0 where
  pub sources : SetView B
  pub moments : Option Moments
  pub doors : List (Stand D)
  pub output : OutputState

abbrev pub collect_state : {B D : Type 0} → SetView B → Option Moments → List (Stand D) → OutputState → CollectState B D
collect_state sources moments doors output = record { sources = sources; moments = moments; doors = doors; output = output }

-- ---- what it prints

-- The lines of the sessions, of the sweeps, and of the inventory of the chronicle were printed, and
-- the command ended as these say. Where memory ran out for a worker, nothing was printed.
abbrev pub PrintsServed : Served → Chronicle → OutputState → OutputState → Result Ending Stopped → Type 0
PrintsServed served chronicle before after ended =
    Prints (collect_text served.ends served.door_failed served.swept served.stopped (point_of chronicle) (length (live_now chronicle)))
    (collect_ending served.ends served.door_failed served.stopped) before after ended

abbrev pub PrintsIfServed : Result Served Memory → Chronicle → OutputState → OutputState → Result Ending Stopped → Type 0
PrintsIfServed (Ok served) chronicle before after ended = PrintsServed served chronicle before after ended
PrintsIfServed (Err memory) chronicle before after ended = (after ≡ before) × (ended ≡ Err stopped.Memory)

-- ---- what it does

-- Of any doors, of which `state` is what they expose, and any links.
module _ {D L : Type 0} (taken : L → Option (List Turn)) (given : L → Option (List ℕ)) (faults : L → ℕ) (state : D → DoorState L) where
  -- Of any sources, which report items, and of faults of theirs.
  module _ {B : Type 0} (reports : B → List Told → Type 0) (source_faults : B → ℕ) where
    -- A pool served an inventory that began without a record, from its opening to `done`. After the
    -- last sweep nothing was entered, and all entries are those of the sweeps. They make one legal
    -- chronicle. The sessions at each door are sessions over it, from what the first sweep made on.
    pub record Collects (c : CollectOptions) (before after : CollectState B D) (ended : Result Ending Stopped) : Type 0 where
      pub shelf : TableId
      pub done : PassView
      pub served : Result Served Memory
      pub serves : ServesAndSweeps taken given faults state reports source_faults (pool_config c)
          (sweeping before.sources (opening c shelf) before.moments) before.doors (sweeping after.sources done after.moments) after.doors served
      pub alone : done.seen ≡ serves.last.desk.seen
      pub swept : AreOwn done.seen
      pub legal : IsLegal (chronicle_of c done)
      pub each : (place : ℕ) (stand left : Stand D) (work : Work) (within : place < length before.doors)
          → EachOver taken given (chronicle_of c done) (pool_config c).serve (length serves.first.desk.seen) (length done.seen)
          (serves.serves.each place stand left work within).serves.works.visits
      pub prints : PrintsIfServed served (chronicle_of c done) before.output after.output ended

    -- The pool served; or memory ran out before anything was done.
    abbrev pub RunsCollect : CollectOptions → CollectState B D → CollectState B D → Result Ending Stopped → Type 0
    RunsCollect c before after ended = Collects c before after ended ⊎ ((ended ≡ Err stopped.Memory) × (after ≡ before))
