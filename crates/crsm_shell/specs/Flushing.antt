-- The effect of a flush on the port and on the disk.
use Rattle.std.specs.Prelude.{◌≡◌, ◌⊎◌, ℕ, ◌<◌, ◌≤◌, List, [], ◌∷◌, ◌++◌, length, map, take, IsTrue, Option, Some, None, if◌then◌else◌, option_map}
use Rattle.crsm_spec.specs.Draft.{Draft}
use Rattle.crsm_spec.specs.Log.{Log}
use Rattle.crsm_spec.specs.Moments.{is_kept}
use Rattle.crsm_spec.specs.Replica.{Replica}
use Rattle.crsm_port_faults.specs.Plan.{Plan}
use Rattle.crsm_port_image.specs.Calls.{Call, History}
use Rattle.crsm_port_image.specs.Image.{image_of}
use Rattle.crsm_port_faults.specs.Counts.{Rose}
use Rattle.crsm_disk.specs.Meaning.{LeavesOnly, Meaning, Same}
use Rattle.crsm_log.specs.Log.{Goes, Used, put_calls, recorded}
use Rattle.crsm_log.specs.Log as logs
use Rattle.crsm_log.specs.Format.{bodies_of, found, gate_in, reading}
use Rattle.crsm_port.specs.Meaning.{Meaning as PortMeaning, Packet}
use Rattle.crsm_replica_io.specs.Outgoing.{GoesOut, with_all_sent}
use Rattle.crsm_shell.specs.declared.errors.TurnError.{TurnError}
use Rattle.crsm_shell.specs.declared.errors.TurnError.TheVariants as errors
use Rattle.crsm_shell.specs.declared.shell.Shell.{Shell}
use Rattle.crsm_shell.specs.Shell.{HasLog, group_body}
use Rattle.crsm_shell.specs.Words.{disk_of, gate_of}

-- ---- the port

-- the port's plan is specified, and none of its calls fails
abbrev pub GoesWell : Option Plan → Type 0
GoesWell None = ⊥
GoesWell (Some p) = p.good ≡ None

-- All of these are sent, in order; at most as many are missing as the count of losses rose by, and none where all calls
-- of the port go well.
pub record SendsPackets (packets : List Packet) (old new : PortMeaning) : Type 0 where
  pub faults : new.faults ≡ old.faults
  pub empties : new.empties ≡ old.empties
  pub too_long : new.too_long ≡ old.too_long
  pub later : old.losses ≤ new.losses
  pub framing : new.framing ≡ old.framing
  pub borrowed_as : new.borrowed_as ≡ old.borrowed_as
  pub out : GoesOut packets old new
  pub whole : GoesWell old.plan → (new.traffic ≡ option_map (with_all_sent (map old.framing.wrap packets)) old.traffic) × (new.losses ≡ old.losses) × GoesWell new.plan

-- nothing is sent; there may be more room than before
pub record SendsNone (old new : PortMeaning) : Type 0 where
  pub same : new ≡ record old { plan = new.plan }
  pub good : (p : Plan) → old.plan ≡ Some p → (q : Plan) × (new.plan ≡ Some q) × (q.good ≡ p.good)

-- ---- the disk

-- the errors of a put
abbrev pub IsOfPut : TurnError → Type 0
IsOfPut errors.DiskFault = Unit {0}
IsOfPut errors.LogFull = Unit {0}
IsOfPut errors.NoMemory = Unit {0}
IsOfPut errors.PortFault = ⊥
IsOfPut errors.Failed = ⊥

-- the calls of the disk that keep a body behind this gate: none where there is no record
abbrev pub keep_calls : ℕ → List ℕ → List Call
keep_calls gate [] = []
keep_calls gate (b ∷ body) = put_calls gate (b ∷ body)

-- how many calls that are
abbrev pub keep_count : List ℕ → ℕ
keep_count [] = 0
keep_count (b ∷ body) = 4

-- the bodies of the file, with this one behind them where it is not empty
abbrev pub Adds : List ℕ → List ℕ → List ℕ → Type 0
Adds [] old new = new ≡ old
Adds (b ∷ body) old new = reading new ≡ found (bodies_of old ++ (b ∷ body) ∷ [])

-- the bodies, or the bodies with this one behind them where it is not empty
abbrev pub IsLeft : List (List ℕ) → List ℕ → List ℕ → Type 0
IsLeft bodies body file = (reading file ≡ found bodies) ⊎ ((0 < length body) × (reading file ≡ found (bodies ++ body ∷ [])))

-- no entry of this body may stand at this gate: it would pass the limit of a log file, or its length has no field
abbrev pub IsPast : ℕ → List ℕ → Type 0
IsPast gate body = (0 < length body) × logs.IsPast gate (length body)

-- no entry with this body fits after those of the file
abbrev pub IsFull : List ℕ → List ℕ → Type 0
IsFull file body = IsPast (gate_in file) body

-- The put of this body stopped: these calls of its four were made, and the next one failed. The image of such a disk,
-- whatever fills the ranges that were not synced, reads as before or, if all but the last sync were made and the fill
-- is the byte of an open gate, with the body.
pub record StopsPut (gate : ℕ) (body : List ℕ) (old new : Meaning) : Type 0 where
  pub made : ℕ
  pub short : made < 4
  pub history : new.history ≡ recorded (take made (put_calls gate body)) old.history
  pub good : (p : Plan) → IsTrue old.honest → old.plan ≡ Some p → p.good ≡ Some made
  pub image : (h : History) (fill : ℕ) → IsTrue old.honest → new.history ≡ Some h →
      reading (image_of h.first h.calls fill) ≡ found (if is_kept made fill then bodies_of old.seen ++ body ∷ [] else bodies_of old.seen)

-- A body was put on a disk; an empty one was not.
pub record KeptWell (gate : ℕ) (body : List ℕ) (old new : Meaning) : Type 0 where
  pub goes : Goes old new
  pub added : IsTrue old.honest → Adds body old.seen new.seen
  pub history : new.history ≡ recorded (keep_calls gate body) old.history
  pub plan : (p : Plan) → IsTrue old.honest → old.plan ≡ Some p → Used (keep_count body) p new.plan
  pub fits : IsPast gate body → ⊥
  pub any_moment : IsTrue old.honest → LeavesOnly old new (IsLeft (bodies_of old.seen) body)

-- It was not, and why.
pub record NotKept (why : TurnError) (gate : ℕ) (body : List ℕ) (old new : Meaning) : Type 0 where
  pub some : 0 < length body
  pub goes : Goes old new
  pub kind : IsOfPut why
  pub fault : why ≡ errors.DiskFault → Rose old.faults new.faults
  pub stops : why ≡ errors.DiskFault → StopsPut gate body old new
  pub unwritten : (why ≡ errors.DiskFault → ⊥) → Same old new
  pub full : why ≡ errors.LogFull → IsPast gate body
  pub fits : why ≡ errors.DiskFault → IsPast gate body → ⊥
  pub any_moment : IsTrue old.honest → LeavesOnly old new (IsLeft (bodies_of old.seen) body)

-- a crash leaves the log without the pending records or with all of them
abbrev pub IsOneOf : (me n : ℕ) → (kept log : Log) → List ℕ → Type 0
IsOneOf me n kept log file = HasLog me n file kept ⊎ HasLog me n file log

-- The put of the pending records stopped: these of its calls were made, and the next one failed. The image of such a
-- disk, whatever fills the ranges that were not synced, has the log without them or, if all but the last sync were made
-- and the fill is the byte of an open gate, with them.
pub record StopsFlush (gate : ℕ) (body : List ℕ) (kept : Log) (r : Replica) (old new : Meaning) : Type 0 where
  pub made : ℕ
  pub short : made < 4
  pub some : 0 < length body
  pub history : new.history ≡ recorded (take made (put_calls gate body)) old.history
  pub good : (p : Plan) → IsTrue old.honest → old.plan ≡ Some p → p.good ≡ Some made
  pub image : (h : History) (fill : ℕ) → IsTrue old.honest → new.history ≡ Some h →
      HasLog r.me r.n (image_of h.first h.calls fill) (if is_kept made fill then r.log else kept)

-- ---- the group of a shell

-- the body of the pending steps is behind those of the file; none is where they have no record
abbrev pub AddsGroup : {D : Type 0} {g : _} → (D → Meaning) → (before after : Shell D g) → List Draft → Type 0
AddsGroup meaning before after steps = Adds (group_body steps) (meaning (disk_of before)).seen (meaning (disk_of after)).seen

-- a crash at any moment leaves the bodies of the file, or these with the body of the pending steps behind them
abbrev pub LeavesGroup : {D : Type 0} {g : _} → (D → Meaning) → (before after : Shell D g) → List Draft → Type 0
LeavesGroup meaning before after steps = LeavesOnly (meaning (disk_of before)) (meaning (disk_of after)) (IsLeft (bodies_of (meaning (disk_of before)).seen) (group_body steps))

-- a crash at any moment leaves the log that is kept, or this one
abbrev pub LeavesLogs : {D : Type 0} {g : _} → (D → Meaning) → (before after : Shell D g) → (kept : Log) → Replica → Type 0
LeavesLogs meaning before after kept r = LeavesOnly (meaning (disk_of before)) (meaning (disk_of after)) (IsOneOf r.me r.n kept r.log)

-- the disk is full for these steps
abbrev pub IsFullFor : {D : Type 0} {g : _} → (D → Meaning) → Shell D g → List Draft → Type 0
IsFullFor meaning shell steps = IsFull (meaning (disk_of shell)).seen (group_body steps)

-- the put of these steps stopped
abbrev pub StopsGroup : {D : Type 0} {g : _} → (D → Meaning) → (before after : Shell D g) → (kept : Log) → Replica → List Draft → Type 0
StopsGroup meaning before after kept r steps = StopsFlush (gate_of before) (group_body steps) kept r (meaning (disk_of before)) (meaning (disk_of after))

-- the disk was called for these steps as a put calls it, or not at all where they have no record
abbrev pub CallsForGroup : {D : Type 0} {g : _} → (D → Meaning) → (before after : Shell D g) → List Draft → Type 0
CallsForGroup meaning before after steps = (meaning (disk_of after)).history ≡ recorded (keep_calls (gate_of before) (group_body steps)) (meaning (disk_of before)).history

-- the calls for the group are counted off the disk's plan, if it has one
abbrev pub SpendsForGroup : {D : Type 0} {g : _} → (D → Meaning) → (before after : Shell D g) → List Draft → Type 0
SpendsForGroup meaning before after steps = (p : Plan) → (meaning (disk_of before)).plan ≡ Some p → Used (keep_count (group_body steps)) p (meaning (disk_of after)).plan
