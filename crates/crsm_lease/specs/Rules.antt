-- The table of take, give and break, and what a client asks for and reports by it.
use Rattle.std.specs.Prelude.{◌≡◌, ◌≢◌, ◌⊎◌, ℕ, ◌+◌, ◌<◌, ◌^◌, ◌==◌, nat_lt, if◌then◌else◌, List, Option, Some, None}
use Rattle.crsm_base.specs.declared.command.Op.{Op}
use Rattle.crsm_base.specs.declared.answer.Answer.{Answer}
use Rattle.crsm_base.specs.declared.answer.Outcome.{Outcome}
use Rattle.crsm_base.specs.Spelling.{refusal_number}
use Rattle.crsm_spec.specs.Clock.{u64_max}
use Rattle.crsm_lease.specs.declared.lock.Lock.{Lock}
use Rattle.crsm_lease.specs.declared.rule.Action.{Action}
use Rattle.crsm_lease.specs.declared.rule.Ruling.{Ruling}
use Rattle.crsm_lease.specs.declared.rule.NextStep.{NextStep}
use Rattle.crsm_lease.specs.declared.told.Told.{Told}
use Rattle.crsm_lease.specs.Locks.{FitsLock, HasLock, lock_bytes}

-- ---- the table

-- the lock as a client finds it: free, its own, or another's, with the fence
pub data Finding : Type 0 where
  Vacant : ℕ → Finding
  Own : ℕ → Finding
  Foreign : ℕ → ℕ → Finding

-- a lock as this client finds it
unfoldable pub found_by : ℕ → Lock → Finding
found_by me (Lock.Free fence) = Finding.Vacant fence
found_by me (Lock.Held fence owner) = if owner == me then Finding.Own fence else Finding.Foreign fence owner

-- the lock is granted to the client under the next fence, if there is one
unfoldable pub granted : ℕ → ℕ → Ruling
granted me fence =
    if nat_lt fence u64_max then Ruling.Becomes (Lock.Held (fence + 1) me) else Ruling.Tells Told.Spent

-- the ruling for each action and each finding
unfoldable pub rule : Action → ℕ → Finding → Ruling
rule Action.Take me (Finding.Vacant fence) = granted me fence
rule Action.Take me (Finding.Own fence) = Ruling.Tells (Told.Granted fence)
rule Action.Take me (Finding.Foreign fence owner) = Ruling.Tells (Told.Held owner fence)
rule Action.Break me (Finding.Vacant fence) = granted me fence
rule Action.Break me (Finding.Own fence) = Ruling.Tells (Told.Granted fence)
rule Action.Break me (Finding.Foreign fence owner) = granted me fence
rule Action.Give me (Finding.Vacant fence) = Ruling.Tells (Told.Free fence)
rule Action.Give me (Finding.Own fence) = Ruling.Becomes (Lock.Free fence)
rule Action.Give me (Finding.Foreign fence owner) = Ruling.Tells (Told.Held owner fence)

-- ---- what is asked

-- the Cas that makes a key this lock, if it still has what was found
abbrev pub cas_to : List ℕ → Option (List ℕ) → Lock → Op
cas_to key found lock = Op.Cas key found (Some (lock_bytes lock))

-- The operation is the Cas that the action asks for this client, which found a lock at a key and makes it another.
pub record Asks (action : Action) (me : ℕ) (op : Op) : Type 0 where
  pub key : List ℕ
  pub found : Option (List ℕ)
  pub lock : Lock
  pub wanted : Lock
  pub client : me < 2 ^ 64
  pub has : HasLock found lock
  pub ruled : rule action me (found_by me lock) ≡ Ruling.Becomes wanted
  pub is : op ≡ cas_to key found wanted

-- some action asks it for some client
abbrev pub IsAsked : Op → Type 0
IsAsked op = (action : Action) × (me : ℕ) × Asks action me op

-- ---- what the table comes to

-- the fence of the last grant
abbrev pub fence_of : Lock → ℕ
fence_of (Lock.Free fence) = fence
fence_of (Lock.Held fence owner) = fence

-- the action may grant this lock to the client: it is free, or it is another's and is broken
abbrev pub IsTakable : Action → ℕ → Lock → Type 0
IsTakable action me (Lock.Free fence) = Unit {0}
IsTakable action me (Lock.Held fence owner) = (action ≡ Action.Break) × (owner ≢ me)

-- The operation grants the client a lock that it may take, under the fence behind the lock's own.
pub record Grants (action : Action) (me : ℕ) (op : Op) : Type 0 where
  pub key : List ℕ
  pub found : Option (List ℕ)
  pub lock : Lock
  pub client : me < 2 ^ 64
  pub fits : fence_of lock + 1 < 2 ^ 64
  pub has : HasLock found lock
  pub takable : IsTakable action me lock
  pub is : op ≡ cas_to key found (Lock.Held (fence_of lock + 1) me)

-- the Cas that gives back a lock which the client holds by this fence
abbrev pub give_back : List ℕ → ℕ → ℕ → Op
give_back key fence owner = cas_to key (Some (lock_bytes (Lock.Held fence owner))) (Lock.Free fence)

-- The operation gives back a lock of the client.
pub record Returns (action : Action) (me : ℕ) (op : Op) : Type 0 where
  pub key : List ℕ
  pub fence : ℕ
  pub client : me < 2 ^ 64
  pub fits : fence < 2 ^ 64
  pub give : action ≡ Action.Give
  pub is : op ≡ give_back key fence me

-- every operation asked for grants a lock or releases one
abbrev pub AskedAreGrantsOrReturns : Type 0
AskedAreGrantsOrReturns =
    (action : Action) (me : ℕ) (op : Op) → Asks action me op → Grants action me op ⊎ Returns action me op

-- ---- after the Get

-- the next step after a ruling on a key with this value
abbrev pub next_of : List ℕ → Option (List ℕ) → Ruling → NextStep
next_of key found (Ruling.Becomes lock) = NextStep.Ask (cas_to key found lock)
next_of key found (Ruling.Tells told) = NextStep.End told

-- the next step where a key has this value: by the table's ruling on its lock, or the report that it has none
abbrev pub IsRuled : Action → ℕ → List ℕ → Option (List ℕ) → NextStep → Type 0
IsRuled action me key found next =
    ((lock : Lock) × HasLock found lock × (next ≡ next_of key found (rule action me (found_by me lock))))
    ⊎ (((lock : Lock) → HasLock found lock → ⊥) × (next ≡ NextStep.End Told.NotALock))

-- the next step after the outcome of a Get
abbrev pub FollowsGet : Action → ℕ → List ℕ → Outcome → NextStep → Type 0
FollowsGet action me key (Outcome.Answered (Answer.Found value)) next = IsRuled action me key (Some value) next
FollowsGet action me key (Outcome.Answered Answer.Missing) next = IsRuled action me key None next
FollowsGet action me key (Outcome.Answered (Answer.Stale number)) next = next ≡ NextStep.End (Told.Stale number)
FollowsGet action me key (Outcome.Answered Answer.NoRoom) next = next ≡ NextStep.End Told.NoRoom
FollowsGet action me key (Outcome.Answered Answer.Done) next = next ≡ NextStep.End Told.Odd
FollowsGet action me key (Outcome.Answered (Answer.Differs value)) next = next ≡ NextStep.End Told.Odd
FollowsGet action me key (Outcome.Refused why) next = next ≡ NextStep.End (Told.Refused (refusal_number why))

-- ---- after the Cas

-- the result to report of a key that has become this lock
abbrev pub done_of : Lock → Told
done_of (Lock.Free fence) = Told.Released fence
done_of (Lock.Held fence owner) = Told.Granted fence

-- the result to report after the outcome of a Cas
abbrev pub FollowsCas : Op → Outcome → Told → Type 0
FollowsCas op (Outcome.Answered Answer.Done) told =
    (key : List ℕ) (found : Option (List ℕ)) (lock : Lock) → FitsLock lock → op ≡ cas_to key found lock → told ≡ done_of lock
FollowsCas op (Outcome.Answered (Answer.Differs value)) told = told ≡ Told.Raced
FollowsCas op (Outcome.Answered (Answer.Stale number)) told = told ≡ Told.Stale number
FollowsCas op (Outcome.Answered Answer.NoRoom) told = told ≡ Told.NoRoom
FollowsCas op (Outcome.Answered (Answer.Found value)) told = told ≡ Told.Odd
FollowsCas op (Outcome.Answered Answer.Missing) told = told ≡ Told.Odd
FollowsCas op (Outcome.Refused why) told = told ≡ Told.Refused (refusal_number why)
