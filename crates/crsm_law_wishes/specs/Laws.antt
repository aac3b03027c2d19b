-- The laws of the turns that a node takes. A node's turns are as it wanted them: that is a clause of `node`.
use Rattle.std.specs.Prelude.{◌≡◌, ◌≢◌, ℕ, ◌+◌, ◌<◌, ◌≤◌, List, Some, slice_get, take}
use Rattle.crsm_spec.specs.Lists.{Among}
use Rattle.crsm_spec.specs.Log.{spec}
use Rattle.crsm_spec.specs.Node.{Turn}
use Rattle.crsm_spec.specs.Replica.{Replica}
use Rattle.crsm_replica_detector.specs.Watching.{unwatched}
use Rattle.crsm_spec_process.specs.Turns.{replica_after}
use Rattle.crsm_replica_detector.specs.Wished.{AreWished}
use Rattle.crsm_law_wishes.specs.Readings.{IsLastTick, IsLastWordOf, IsNow}

-- how long a node waits for a word of another: 5 seconds
abbrev pub patience : ℕ
patience = 5000000

-- how long after a tick the next is due: 10 milliseconds
abbrev pub pace : ℕ
pace = 10000

-- a node that booted as this replica took these turns, each as it wanted it
abbrev pub AreTurnsOf : Replica → List (Turn × ℕ) → Type 0
AreTurnsOf r turns = AreWished unwatched r turns

-- At this place the node suspects every replica of the known epoch's Spec but these.
pub record SuspectsAllBut (turns : List (Turn × ℕ)) (place : ℕ) (ms : List ℕ) : Type 0 where
  pub reading : ℕ
  pub there : slice_get turns place ≡ Some (Turn.Suspect ms, reading)

-- the Spec that the node knew before the turn at this place
abbrev pub spec_before : Replica → List (Turn × ℕ) → ℕ → List ℕ
spec_before r turns place = let s = replica_after r (take place turns) in spec s.n s.log

-- A replica of the Spec that was heard less than 5 seconds ago is not suspected.
abbrev pub HeardAreNotSuspected : Type 0
HeardAreNotSuspected =
    (r : Replica) (turns : List (Turn × ℕ)) → AreTurnsOf r turns → (place : ℕ) (ms : List ℕ) →
    SuspectsAllBut turns place ms → (k heard now : ℕ) → Among (spec_before r turns place) k →
    IsLastWordOf turns place k heard → IsNow turns place now → now < heard + patience → Among ms k

-- All others but the node itself are suspected.
abbrev pub OthersAreSuspected : Type 0
OthersAreSuspected =
    (r : Replica) (turns : List (Turn × ℕ)) → AreTurnsOf r turns → (place : ℕ) (ms : List ℕ) →
    SuspectsAllBut turns place ms → (k heard now : ℕ) → k ≢ (replica_after r (take place turns)).me →
    IsLastWordOf turns place k heard → IsNow turns place now → heard + patience ≤ now → Among ms k → ⊥

-- If 10 milliseconds have passed since the last tick, the next turn is a tick.
abbrev pub TicksAreTimely : Type 0
TicksAreTimely =
    (r : Replica) (turns : List (Turn × ℕ)) → AreTurnsOf r turns → (place reading ticked now : ℕ) (t : Turn) →
    slice_get turns place ≡ Some (t, reading) → IsLastTick turns place ticked → IsNow turns place now →
    ticked + pace ≤ now → t ≡ Turn.Tick

-- Two suspicions are at least 5 seconds apart, by the readings before them.
abbrev pub SuspicionsAreSpaced : Type 0
SuspicionsAreSpaced =
    (r : Replica) (turns : List (Turn × ℕ)) → AreTurnsOf r turns → (i j : ℕ) (ms others : List ℕ) → i < j →
    SuspectsAllBut turns i ms → SuspectsAllBut turns j others → (before now : ℕ) → IsNow turns i before →
    IsNow turns j now → before + patience ≤ now
