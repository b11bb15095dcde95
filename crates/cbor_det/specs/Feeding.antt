-- What a feed has taken, and what it answers for a piece.
use Rattle.std.specs.Prelude.{◌≡◌, ◌<◌, ◌≤◌, ◌⊎◌, ◌+◌, ◌^◌, ℕ, List, [], ◌++◌, length, refl}
use Rattle.std.specs.Coded.{Coded, code_by, coded×, coded_list, coded_ℕ}
use Rattle.cbor_det.specs.contracts.feed.Progress as progress_codes
use Rattle.cbor_det.specs.contracts.frame.Frame as frame
use Rattle.cbor_det.specs.contracts.limits.Limits as limits
use Rattle.cbor_det.specs.declared.fault.CborFault.{CborFault}
use Rattle.cbor_det.specs.declared.feed.CborFed.{CborFed}
use Rattle.cbor_det.specs.declared.feed.CborFed.TheVariants as fed
use Rattle.cbor_det.specs.declared.feed.Progress.{Progress}
use Rattle.cbor_det.specs.declared.feed.Progress.TheVariants as progress
use Rattle.cbor_det.specs.declared.frame.Frame.{Frame}
use Rattle.cbor_det.specs.declared.limits.Limits.{Limits}
use Rattle.cbor_det.specs.View.{view}
use Rattle.cbor_det.specs.Faults.{Begins, IsFault, IsCut}
use Rattle.cbor_det.specs.Standing.{Stands}

-- A feed as contracts see it: how many octets of its item it has taken, what is open round the
-- place where it stands, the innermost last, and how far it is.
pub record Feed : Type 0 where
  pub limits : Limits
  pub taken : ℕ
  pub frames : List Frame
  pub progress : Progress

-- It has a code, as its parts have.
abbrev pub feed_coded : Coded Feed
feed_coded = code_by (Limits × (ℕ × (List Frame × Progress)))
    (coded× limits.the_row.coded (coded× coded_ℕ (coded× (coded_list frame.the_row.coded) progress_codes.the_row.coded)))
    (λ f. (f.limits, (f.taken, (f.frames, f.progress))))
    (λ p. record { limits = p.0; taken = p.1.0; frames = p.1.1.0; progress = p.1.1.1 })
    (λ _. refl)

abbrev pub HasTakenAt : Progress → Feed → List ℕ → Type 0
HasTakenAt (progress.Reading reading) feed before = Stands feed.limits feed.frames reading.phase feed.taken before
HasTakenAt (progress.Failed f) feed before = IsFault feed.limits before f.kind f.at
HasTakenAt progress.OutOfMemory feed before = ⊥

-- The feed has taken these octets of its item, or has answered the fault that they show.
abbrev pub HasTaken : Feed → List ℕ → Type 0
HasTaken feed before = HasTakenAt feed.progress feed before

abbrev pub IsSpentAt : Progress → Type 0
IsSpentAt progress.OutOfMemory = Unit {0}
IsSpentAt (progress.Reading reading) = ⊥
IsSpentAt (progress.Failed f) = ⊥

-- The feed has answered that memory ran out.
abbrev pub IsSpent : Feed → Type 0
IsSpent feed = IsSpentAt feed.progress

-- The feed has answered this fault.
abbrev pub HasFailed : Feed → CborFault → Type 0
HasFailed feed f = feed.progress ≡ progress.Failed f

abbrev pub IsReleasedAt : Progress → List Frame → Type 0
IsReleasedAt (progress.Reading reading) frames = Unit {0}
IsReleasedAt (progress.Failed f) frames = frames ≡ []
IsReleasedAt progress.OutOfMemory frames = frames ≡ []

-- Where the feed has answered a fault or that memory ran out, it holds nothing of the arrays and
-- maps that were open.
abbrev pub IsReleased : Feed → Type 0
IsReleased feed = IsReleasedAt feed.progress feed.frames

-- A feed that has not answered that memory ran out has taken some octets of its item.
abbrev pub HasSome : Feed → Type 0
HasSome feed = IsSpent feed ⊎ ((before : List ℕ) × HasTaken feed before)

-- What is true of every feed.
pub record IsKept (feed : Feed) : Type 0 where
  pub small : feed.limits.octets ≤ 2 ^ 24
  pub room : feed.taken ≤ feed.limits.octets
  pub released : IsReleased feed
  pub some : HasSome feed

-- The answer for a piece after octets that were taken, and the feed afterwards. It is More exactly
-- where the joined octets are neither an item nor a fault. After an item the next one begins.
abbrev pub IsFed : Limits → List ℕ → List ℕ → CborFed → Feed → Type 0
IsFed limits before piece fed.More new = IsCut limits (before ++ piece) × HasTaken new (before ++ piece)
IsFed limits before piece (fed.Done item used) new =
    Begins limits (before ++ piece) (view item) (length before + used) × (0 < used) × (used ≤ length piece) × HasTaken new []
IsFed limits before piece (fed.Fault f) new =
    IsFault limits (before ++ piece) f.kind f.at × HasTaken new (before ++ piece) × HasFailed new f
IsFed limits before piece fed.Memory new = IsSpent new

abbrev pub IsMemory : CborFed → Type 0
IsMemory fed.Memory = Unit {0}
IsMemory fed.More = ⊥
IsMemory (fed.Done item used) = ⊥
IsMemory (fed.Fault f) = ⊥

-- An item takes some octets of the piece.
abbrev pub TakesSome : CborFed → List ℕ → Type 0
TakesSome (fed.Done item used) piece = (0 < used) × (used ≤ length piece)
TakesSome fed.More piece = Unit {0}
TakesSome (fed.Fault f) piece = Unit {0}
TakesSome fed.Memory piece = Unit {0}
