-- The invariant of a log, and the effect of its calls on its disk.
use Rattle.std.specs.Prelude.{◌≡◌, ◌≢◌, ◌⊎◌, ℕ, ◌+◌, ◌<◌, ◌≤◌, ◌-◌, List, [], ◌∷◌, ◌++◌, length, take, Bool, true, false, IsTrue, Option, Some, None, slice_index, Result, OnOk, OnErr, IfSome, if◌then◌else◌, nat_lt}
use Rattle.crsm_base.specs.declared.memory.Failed.{Failed}
use Rattle.crsm_base.specs.declared.limits.TheConstants.{MAX_LOG_BYTES}
use Rattle.crsm_port_faults.specs.Counts.{Rose}
use Rattle.crsm_port_faults.specs.Plan.{Plan}
use Rattle.crsm_port_image.specs.Calls.{Call, wrote, cut, synced, History, noted}
use Rattle.crsm_disk.specs.Meaning.{LeavesOnly, Meaning, Only}
use Rattle.crsm_log.specs.Format.{found, bad, reading, bodies_of, body_entry, cluster_of, gate_in, items_of, four_bytes, has_after, last_gate, length_of, may_stand, whole, Entry, entries_of}
use Rattle.crsm_log.specs.declared.errors.MountError.{MountError}
use Rattle.crsm_log.specs.declared.errors.MountError.TheVariants.{DiskFault, BadGate}

-- nothing was written or cut since the last sync
abbrev pub is_synced : List Call → Bool
is_synced [] = true
is_synced (synced ∷ calls) = true
is_synced (wrote at bytes ∷ calls) = false
is_synced (cut n ∷ calls) = false

abbrev pub is_quiet : Option History → Bool
is_quiet None = true
is_quiet (Some h) = is_synced h.calls

-- the file is whole, its closed gate is at this offset, and all of it is synced
pub record IsSettled (m : Meaning) (end : ℕ) : Type 0 where
  pub whole : reading m.seen ≡ found (bodies_of m.seen)
  pub place : end ≡ gate_in m.seen
  pub inside : end < length m.seen
  pub shut : slice_index m.seen end ≢ 1
  pub durable : Only m.seen m.may_leave
  pub quiet : IsTrue (is_quiet m.history)

-- an honest disk is settled, until a call of it failed
abbrev pub IsSound : Meaning → ℕ → Bool → Type 0
IsSound m end failed = IsTrue m.honest → failed ≡ false → IsSettled m end

-- the bodies, with or without one more
abbrev pub IsBeforeOrAfter : List (List ℕ) → List ℕ → List ℕ → Type 0
IsBeforeOrAfter bodies body file = (reading file ≡ found bodies) ⊎ (reading file ≡ found (bodies ++ body ∷ []))

-- the entries, with or without one more
abbrev pub IsWithOrWithout : List Entry → Entry → List ℕ → Type 0
IsWithOrWithout entries entry file = (items_of file ≡ whole entries) ⊎ (items_of file ≡ whole (entries ++ entry ∷ []))

-- bytes that a crash might have left before, or that hold the same entries
abbrev pub IsAsBefore : Meaning → List ℕ → Type 0
IsAsBefore old file = old.may_leave file ⊎ (items_of file ≡ items_of old.seen)

-- the file names this cluster, or none
abbrev pub HasCluster : Option ℕ → List ℕ → Type 0
HasCluster cluster file = cluster_of file ≡ cluster

-- the entry may follow these
pub record Follows (entries : List Entry) (entry : Entry) : Type 0 where
  pub long : length entry.bytes ≡ length_of entry.field
  pub may : may_stand (has_after false entries) entry.field entry.bytes ≡ true

-- no body of this length may be written at this gate: its entry would pass the limit of a log file, or its length has
-- no field
abbrev pub IsPast : ℕ → ℕ → Type 0
IsPast gate length = (MAX_LOG_BYTES < gate + 6 + length) ⊎ (2147483648 ≤ length)

-- the bytes after a gate: the length field, the content and the next gate, closed
abbrev pub entry_bytes : Entry → List ℕ
entry_bytes entry = four_bytes entry.field ++ entry.bytes ++ 0 ∷ []

-- the four disk calls that write an entry after the closed gate at this offset
abbrev pub entry_calls : ℕ → Entry → List Call
entry_calls gate entry = wrote (gate + 1) (entry_bytes entry) ∷ synced ∷ wrote gate (1 ∷ []) ∷ synced ∷ []

-- the four disk calls that write a body
abbrev pub put_calls : ℕ → List ℕ → List Call
put_calls gate body = entry_calls gate (body_entry body)

-- the history with these calls appended, in order
abbrev pub recorded : List Call → Option History → Option History
recorded [] h = h
recorded (call ∷ calls) h = recorded calls (noted call h)

-- n further calls succeed
abbrev pub Serves : ℕ → Option ℕ → Type 0
Serves n None = Unit {0}
Serves n (Some good) = n ≤ good

-- whatever was called, honesty, the fill and the borrowed name are unchanged, and the fault counter did not fall
pub record Goes (old new : Meaning) : Type 0 where
  pub honest : new.honest ≡ old.honest
  pub fill : new.fill ≡ old.fill
  pub borrowed_as : new.borrowed_as ≡ old.borrowed_as
  pub later : old.faults ≤ new.faults

-- Some of these calls were made and the next one failed; on a disk whose plan covers them, because no more succeed.
pub record StopsAt (calls : List Call) (serves : Plan → Type 0) (old new : Meaning) : Type 0 where
  pub made : ℕ
  pub short : made < length calls
  pub history : new.history ≡ recorded (take made calls) old.history
  pub good : (p : Plan) → old.plan ≡ Some p → serves p → p.good ≡ Some made

-- these calls were made, or those before the first that failed
pub record Ran {T : Type 0} (calls : List Call) (serves : Plan → Type 0) (old new : Meaning) (result : Result T Failed) : Type 0 where
  pub goes : Goes old new
  pub fault : OnErr result (Rose old.faults new.faults)
  pub history : OnOk result (new.history ≡ recorded calls old.history)
  pub good : (p : Plan) → old.plan ≡ Some p → serves p → OnOk result (Serves (length calls) p.good)
  pub stops : OnErr result (StopsAt calls serves old new)

-- the reserve covers this many calls and bytes
abbrev pub HasPlace : ℕ → ℕ → Plan → Type 0
HasPlace calls bytes p = (calls ≤ p.calls) × (bytes ≤ p.bytes)

-- fewer than n further calls succeed
abbrev pub MeetsIn : ℕ → Option Plan → Type 0
MeetsIn n plan = (p : Plan) → plan ≡ Some p → (k : ℕ) × (k < n) × (p.good ≡ Some k)

-- the number of further calls that succeed, after n more
abbrev pub less : ℕ → Option ℕ → Option ℕ
less n None = None
less n (Some good) = Some (good - n)

-- n calls succeeded, and no others were made
pub record Used (n : ℕ) (p : Plan) (new : Option Plan) : Type 0 where
  pub served : Serves n p.good
  pub left : (q : Plan) × (new ≡ Some q) × (q.good ≡ less n p.good)

-- all bytes were read, by three calls, and are synced, and this many calls and bytes are reserved
pub record Fetches (calls written : ℕ) (old new : Meaning) (bytes : List ℕ) : Type 0 where
  pub read : IsTrue old.honest → bytes ≡ old.seen
  pub seen : IsTrue old.honest → new.seen ≡ old.seen
  pub durable : IsTrue old.honest → Only new.seen new.may_leave
  pub history : new.history ≡ noted synced old.history
  pub plan : (p : Plan) → old.plan ≡ Some p → (q : Plan) × (new.plan ≡ Some q) × (q.good ≡ less 3 p.good) × Serves 3 p.good × HasPlace calls written q

-- the number of disk calls of a mount of this file
abbrev pub mount_count : List ℕ → ℕ
mount_count file = if nat_lt (length file) 6 then 5 else 3

abbrev pub mount_calls : List ℕ → List Call
mount_calls file = if nat_lt (length file) 6 then synced ∷ wrote 0 (0 ∷ []) ∷ synced ∷ [] else synced ∷ []

-- the disk is mounted, with this closed gate and these bodies
pub record Mounts (old new : Meaning) (end : ℕ) (bodies : List (List ℕ)) : Type 0 where
  pub goes : Goes old new
  pub settled : IsTrue old.honest → IsSettled new end
  pub read : IsTrue old.honest → reading old.seen ≡ found bodies
  pub kept : IsTrue old.honest → reading new.seen ≡ found bodies
  pub cluster : IsTrue old.honest → cluster_of new.seen ≡ cluster_of old.seen
  pub gate : IsTrue old.honest → end ≡ gate_in old.seen
  pub any_moment : IsTrue old.honest → LeavesOnly old new (IsAsBefore old)
  pub history : IsTrue old.honest → new.history ≡ recorded (mount_calls old.seen) old.history
  pub good : IsTrue old.honest → (p : Plan) → old.plan ≡ Some p → Used (mount_count old.seen) p new.plan
  -- the gate of the last entry was written again, in case an earlier sync of it had failed
  pub renewed : IsTrue old.honest → IfSome (last_gate (entries_of old.seen)) (λ at. new.renewed ≡ Some at)

-- the disk is not mounted, for this reason
pub record Refuses (old new : Meaning) (why : MountError) : Type 0 where
  pub goes : Goes old new
  pub any_moment : IsTrue old.honest → LeavesOnly old new (IsAsBefore old)
  pub fault : why ≡ DiskFault → Rose old.faults new.faults
  pub unwritten : IsTrue old.honest → (why ≡ DiskFault → ⊥) → new.seen ≡ old.seen
  pub bad_gate : IsTrue old.honest → (entry : ℕ) → why ≡ BadGate entry → reading old.seen ≡ bad entry
  pub good : IsTrue old.honest → why ≡ DiskFault → MeetsIn (mount_count old.seen) old.plan
  pub served : (entry : ℕ) → why ≡ BadGate entry → (p : Plan) → old.plan ≡ Some p → Serves 3 p.good

-- an honest disk has a reserve for the four calls of a put at this gate, and for this many bytes
pub record ServesPut (gate bytes : ℕ) (m : Meaning) (p : Plan) : Type 0 where
  pub honest : IsTrue m.honest
  pub inside : gate < length m.seen
  pub calls : 4 ≤ p.calls
  pub written : bytes ≤ p.bytes

-- a crash leaves what a read returns
abbrev pub IsDurable : Meaning → Type 0
IsDurable m = Only m.seen m.may_leave

-- for an entry with these bytes that may follow those of an honest disk, whose closed gate is at this offset
abbrev pub WhereEntryMayStand : List ℕ → Meaning → ℕ → (Entry → Type 0) → Type 0
WhereEntryMayStand bytes old gate P =
    (e : Entry) → bytes ≡ entry_bytes e → IsTrue old.honest → IsSettled old gate → Follows (entries_of old.seen) e → P e

-- the entry follows the others, and the closed gate is after it
abbrev pub AddsEntry : Meaning → Meaning → ℕ → Entry → Type 0
AddsEntry old new gate e = IsSettled new (gate + 5 + length e.bytes) × (items_of new.seen ≡ whole (entries_of old.seen ++ e ∷ []))

-- for a body whose entry has these bytes, if its length has a field
abbrev pub WhereBodyMayStand : List ℕ → Meaning → ℕ → (List ℕ → Type 0) → Type 0
WhereBodyMayStand bytes old gate P =
    (body : List ℕ) → bytes ≡ entry_bytes (body_entry body) → length body < 2147483648 → IsTrue old.honest → IsSettled old gate → P body

-- the body follows the others, and the closed gate is after it
abbrev pub AddsBody : Meaning → Meaning → ℕ → List ℕ → Type 0
AddsBody old new gate body = IsSettled new (gate + 5 + length body) × (reading new.seen ≡ found (bodies_of old.seen ++ body ∷ []))
