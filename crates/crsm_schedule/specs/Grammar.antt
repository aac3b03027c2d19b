-- The lines of a schedule, each without its line feed, and the events that have a line.
use Rattle.std.specs.Prelude.{◌≢◌, ℕ, ◌^◌, ◌<◌, ◌≤◌, List, [], ◌∷◌, length, codes, decimal}
use Rattle.std.specs.List.{AllByRecursion}
use Rattle.hex.specs.Hex.{encode_lower, IsBytes}
use Rattle.crsm_base.specs.declared.Command.{Command}
use Rattle.crsm_base.specs.Spelling.{FitsCommand}
use Rattle.crsm_base.specs.Members.{IsMembers}
use Rattle.crsm_text.specs.Words.{spaced, named, commas}
use Rattle.crsm_text.specs.Values.{op_text, HasBytes}
use Rattle.crsm_schedule.specs.declared.event.Single.{Single}
use Rattle.crsm_schedule.specs.declared.event.Single.TheVariants.{Request, Go, Again, Tick, Suspect, Junk}
use Rattle.crsm_schedule.specs.declared.event.Event.{Event}
use Rattle.crsm_schedule.specs.declared.event.Event.TheVariants.{One, Lose, Crash, Start, Settle, CutLost, CutKept, Batch, CutLostBatch, CutAt}

-- the first line, with the number of replicas
abbrev pub first_text : ℕ → List ℕ
first_text n = named (codes "replicas") (n ∷ [])

abbrev pub IsSize : ℕ → Type 0
IsSize n = (1 ≤ n) × (n ≤ 15)

-- the text of an event of one step
abbrev pub single_text : Single → List ℕ
single_text (Request replica reading command) =
    spaced (codes "request" ∷ decimal replica ∷ decimal reading ∷ decimal command.client ∷ decimal command.number ∷ op_text command.op ∷ [])
single_text (Go number reading) = named (codes "go") (number ∷ reading ∷ [])
single_text (Again number reading) = named (codes "again") (number ∷ reading ∷ [])
single_text (Tick replica reading) = named (codes "tick") (replica ∷ reading ∷ [])
single_text (Suspect replica reading members) = spaced (codes "suspect" ∷ decimal replica ∷ decimal reading ∷ commas members ∷ [])
single_text (Junk replica reading bytes) = spaced (codes "junk" ∷ decimal replica ∷ decimal reading ∷ encode_lower bytes ∷ [])

-- the text of a batch
abbrev pub batch_text : ℕ → List ℕ → List ℕ
batch_text reading numbers = spaced (codes "batch" ∷ decimal reading ∷ commas numbers ∷ [])

-- the text of an event
abbrev pub event_text : Event → List ℕ
event_text (One single) = single_text single
event_text (Lose number) = named (codes "lose") (number ∷ [])
event_text (Crash replica) = named (codes "crash") (replica ∷ [])
event_text (Start replica) = named (codes "start") (replica ∷ [])
event_text (Settle reading) = named (codes "settle") (reading ∷ [])
event_text (CutLost single) = spaced (codes "cut" ∷ codes "lost" ∷ single_text single ∷ [])
event_text (CutKept sends single) = spaced (codes "cut" ∷ decimal sends ∷ single_text single ∷ [])
event_text (Batch reading numbers) = batch_text reading numbers
event_text (CutLostBatch reading numbers) = spaced (codes "cut" ∷ codes "lost" ∷ batch_text reading numbers ∷ [])
event_text (CutAt calls fill single) = spaced (codes "cut" ∷ codes "at" ∷ decimal calls ∷ decimal fill ∷ single_text single ∷ [])

pub record FitsRequest (replica reading : ℕ) (command : Command) : Type 0 where
  pub replica_fits : replica < 2 ^ 64
  pub reading_fits : reading < 2 ^ 64
  pub command_fits : FitsCommand command
  pub bytes : HasBytes command.op

pub record FitsSuspect (replica reading : ℕ) (members : List ℕ) : Type 0 where
  pub replica_fits : replica < 2 ^ 64
  pub reading_fits : reading < 2 ^ 64
  pub are_members : IsMembers members

pub record FitsJunk (replica reading : ℕ) (bytes : List ℕ) : Type 0 where
  pub replica_fits : replica < 2 ^ 64
  pub reading_fits : reading < 2 ^ 64
  pub are_bytes : IsBytes bytes
  pub some : 1 ≤ length bytes
  pub most : length bytes ≤ 8192

-- the numbers are distinct
abbrev pub AreDistinct : List ℕ → Type 0
AreDistinct [] = Unit {0}
AreDistinct (n ∷ ns) = AllByRecursion (λ m. n ≢ m) ns × AreDistinct ns

-- numbers of datagrams that can be a batch: 1 to 32, distinct
pub record AreTogether (numbers : List ℕ) : Type 0 where
  pub fit : AllByRecursion (λ n. n < 2 ^ 64) numbers
  pub some : 1 ≤ length numbers
  pub most : length numbers ≤ 32
  pub distinct : AreDistinct numbers

abbrev pub FitsBatch : ℕ → List ℕ → Type 0
FitsBatch reading numbers = (reading < 2 ^ 64) × AreTogether numbers

-- the event of one step has a text
abbrev pub FitsSingle : Single → Type 0
FitsSingle (Request replica reading command) = FitsRequest replica reading command
FitsSingle (Go number reading) = (number < 2 ^ 64) × (reading < 2 ^ 64)
FitsSingle (Again number reading) = (number < 2 ^ 64) × (reading < 2 ^ 64)
FitsSingle (Tick replica reading) = (replica < 2 ^ 64) × (reading < 2 ^ 64)
FitsSingle (Suspect replica reading members) = FitsSuspect replica reading members
FitsSingle (Junk replica reading bytes) = FitsJunk replica reading bytes

-- the event has a text
abbrev pub FitsEvent : Event → Type 0
FitsEvent (One single) = FitsSingle single
FitsEvent (Lose number) = number < 2 ^ 64
FitsEvent (Crash replica) = replica < 2 ^ 64
FitsEvent (Start replica) = replica < 2 ^ 64
FitsEvent (Settle reading) = reading < 2 ^ 64
FitsEvent (CutLost single) = FitsSingle single
FitsEvent (CutKept sends single) = (sends < 2 ^ 64) × FitsSingle single
FitsEvent (Batch reading numbers) = FitsBatch reading numbers
FitsEvent (CutLostBatch reading numbers) = FitsBatch reading numbers
FitsEvent (CutAt calls fill single) = (calls ≤ 4) × (fill < 256) × FitsSingle single

-- the line is the text of no event
abbrev pub Unreadable : List ℕ → Type 0
Unreadable line = (e : Event) → FitsEvent e → line ≢ event_text e
