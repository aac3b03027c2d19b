-- What the state of a replica stands for.
use Rattle.std.specs.Prelude.{◌≡◌, ℕ, ◌<◌, ◌≤◌, Bool, List, length, map, slice_get, Some, Result, IfOk}
use Rattle.std.specs.List.{AllByRecursion}
use Rattle.crsm_base.specs.declared.memory.NoMemory.{NoMemory}
use Rattle.crsm_spec.specs.Choice.{when◌then◌otherwise◌}
use Rattle.crsm_mpspec.specs.Log.{executed}
use Rattle.crsm_mpspec.specs.Types.{Ballot, Command}
use Rattle.crsm_mpspec.specs.Replica.{Note, Replica, Report, Waiting}
use Rattle.crsm_mpspec.specs.Draft.{Draft, begun}
use Rattle.crsm_mpledger.specs.MpLedger.{MayBoot, MpLedgerStands}
use Rattle.crsm_mpreplica.specs.declared.state.MpReplica.{MpReplica}
use Rattle.crsm_mpreplica.specs.Made.{MadeStands, outcome_of}
use Rattle.crsm_mpreplica.specs.Notes.{NoteStands}

-- a client that waits
unfoldable pub waiting_of : ℕ × Command → Waiting
waiting_of w = record { slot = w.0; command = w.1 }

-- The state stands for the draft of a step: what it keeps is what the draft's lists say.
pub record MpReplicaStands (state : MpReplica) (x : Draft) : Type 0 where
  pub me : state.me ≡ x.replica.me
  pub n : state.n ≡ x.replica.n
  pub ledger : MpLedgerStands state.ledger x.replica.log
  pub note : NoteStands state.note x.replica.me x.replica.log x.replica.note
  pub waiting : map waiting_of state.waiting.entries ≡ x.replica.waiting
  pub made : MadeStands state.made (outcome_of x)

-- for each draft that the state stands for
abbrev pub WhereStands : MpReplica → (Draft → Type 0) → Type 0
WhereStands state P = (x : Draft) → MpReplicaStands state x → P x

-- the state stands for this replica between two steps
abbrev pub IsReplica : MpReplica → Replica → Type 0
IsReplica state r = MpReplicaStands state (begun r)

-- for each replica that the state stands for between two steps
abbrev pub WhereReplica : MpReplica → (Replica → Type 0) → Type 0
WhereReplica state P = (r : Replica) → IsReplica state r → P r

-- one boot more can be counted
abbrev pub CanBoot : MpReplica → Type 0
CanBoot state = MayBoot state.ledger

-- for each draft that the state stands for, in which the replica leads
abbrev pub WhereLeading : MpReplica → (Draft → Ballot → (start next : ℕ) → List Report → (votes : List (ℕ × ℕ)) → Type 0) → Type 0
WhereLeading state P =
    (x : Draft) (b : Ballot) (start next : ℕ) (reports : List Report) (votes : List (ℕ × ℕ)) → MpReplicaStands state x →
    x.replica.note ≡ Note.Leading b start next reports votes → P x b start next reports votes

-- Whatever the old state stood for, the new one stands for the effect of this on it; or memory ran out.
abbrev pub Makes : (Draft → Draft) → MpReplica → Result (Unit {0}) NoMemory → MpReplica → Type 0
Makes change old result new = IfOk result (λ _. WhereStands old (λ x. MpReplicaStands new (change x)))

-- The same for the drafts that satisfy this.
abbrev pub MakesWhere : (Draft → Type 0) → (Draft → Draft) → MpReplica → Result (Unit {0}) NoMemory → MpReplica → Type 0
MakesWhere Premise change old result new = IfOk result (λ _. WhereStands old (λ x. Premise x → MpReplicaStands new (change x)))

-- The same of a change that is made only of a draft that passes a test. The result says whether it was made.
abbrev pub MakesIf : (Draft → Bool) → (Draft → Draft) → MpReplica → Result Bool NoMemory → MpReplica → Type 0
MakesIf test change old result new =
    IfOk result (λ made. WhereStands old (λ x. (made ≡ test x) × MpReplicaStands new (when test x then change x otherwise x)))

-- ---- clients that wait

-- the draft with these that wait
unfoldable pub with_waiting : List Waiting → Draft → Draft
with_waiting ws x = record x { replica = record x.replica { waiting = ws } }

-- the slot at which the first client waits is executed
abbrev pub IsFirstDue : Draft → Type 0
IsFirstDue x = (w : Waiting) × (slice_get x.replica.waiting 0 ≡ Some w) × (w.slot < length (executed x.replica.log))

-- no slot at which a client waits is executed
abbrev pub NoneDue : Draft → Type 0
NoneDue x = AllByRecursion (λ w. length (executed x.replica.log) ≤ w.slot) x.replica.waiting
