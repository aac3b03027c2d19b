-- What a client knows of the one list from the line that `lock` wrote.
use Rattle.std.specs.Prelude.{◌≡◌, ℕ, ◌≤◌, List, length, take, Option}
use Rattle.crsm_base.specs.Store.{after, value_at}
use Rattle.crsm_spec.specs.Types.{Entry}
use Rattle.crsm_lease.specs.declared.lock.Lock.{Lock}
use Rattle.crsm_lease.specs.declared.told.Told.{Told}
use Rattle.crsm_lease.specs.Locks.{HasLock}
use Rattle.crsm_port.specs.Meaning.{Meaning}
use Rattle.crsm_cmd_lock.specs.declared.command.LockOrder.{LockOrder}
use Rattle.crsm_cmd_lock.specs.Learning.{LearnsAtOnce, LearnsNext, follows_of, look_of}
use Rattle.crsm_law_cluster.specs.Clusters.{Event}
use Rattle.crsm_law_cluster.specs.OneList.{one_list}
use Rattle.crsm_law_locks.specs.Grants.{HasLastGrant, IsGrant, IsHeld, IsReturn}
use Rattle.crsm_law_shown.specs.Heard.{ComeFromNodes, IsOnlyUseOf}

-- After so many entries this owner holds the key, by the last grant among them.
pub record IsHolder (key : List ℕ) (es : List Entry) (fence owner : ℕ) : Type 0 where
  pub count : ℕ
  pub within : count ≤ length es
  pub held : IsHeld key es count fence owner
  pub last : HasLastGrant key es count fence owner

-- After so many entries the key has the value of a free lock, or none.
pub record IsFree (key : List ℕ) (es : List Entry) (fence : ℕ) : Type 0 where
  pub count : ℕ
  pub within : count ≤ length es
  pub free : HasLock (value_at key (after (take count es)).keys) (Lock.Free fence)

-- what the client knows: its grant, its release, a holder or a free lock; the other results say nothing of the lock
abbrev pub IsTrue : List ℕ → List Entry → ℕ → Told → Type 0
IsTrue key es client (Told.Granted fence) = (place : ℕ) × IsGrant key es place fence client
IsTrue key es client (Told.Released fence) = (place : ℕ) × IsReturn key es place fence client
IsTrue key es client (Told.Held owner fence) = IsHolder key es fence owner
IsTrue key es client (Told.Free fence) = IsFree key es fence
IsTrue key es client _ = Unit {0}

-- ---- what is shown

module _ (n : ℕ) (h : List Event) (order : LockOrder) (old new : Meaning) (told : Told) where
  -- The replies were sent by nodes, and each number that the client used is used for that command alone.
  pub record IsHeardAtOnce (x : LearnsAtOnce order old new told) : Type 0 where
    pub replies : ComeFromNodes n h x.looks.exchange.received
    pub only_use : IsOnlyUseOf n h (look_of order)

  pub record IsHeardNext (x : LearnsNext order old new told) : Type 0 where
    pub replies : ComeFromNodes n h x.asked.looks.exchange.received
    pub only_use : IsOnlyUseOf n h (look_of order)
    pub next_replies : ComeFromNodes n h x.asked.asks.exchange.received
    pub next_only_use : IsOnlyUseOf n h (follows_of order x.op)

  -- The result is true of the one list, whether it came of the read or of the operation after it.
  pub record IsShownTrue : Type 0 where
    pub at_once : (x : LearnsAtOnce order old new told) → IsHeardAtOnce x →
        IsTrue order.key (one_list n h) order.client told
    pub next : (x : LearnsNext order old new told) → IsHeardNext x → IsTrue order.key (one_list n h) order.client told
