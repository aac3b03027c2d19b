-- The requests of a client on a lock, and their results.
use Rattle.std.specs.Prelude.{◌≡◌, ◌⊎◌, ℕ, ◌+◌, List, Option, Result, Ok, Err}
use Rattle.crsm_base.specs.declared.Command.{Command}
use Rattle.crsm_base.specs.declared.command.Op.{Op}
use Rattle.crsm_base.specs.declared.answer.Outcome.{Outcome}
use Rattle.crsm_client.specs.Asking.{Asks}
use Rattle.crsm_client.specs.declared.error.AskError.{AskError}
use Rattle.crsm_client.specs.declared.error.AskError.TheVariants.{NoAnswer, PortFault, NoMemory}
use Rattle.crsm_lease.specs.Rules.{FollowsCas, FollowsGet}
use Rattle.crsm_lease.specs.declared.rule.NextStep.{NextStep}
use Rattle.crsm_lease.specs.declared.told.Told.{Told}
use Rattle.crsm_port.specs.Meaning.{Meaning}
use Rattle.crsm_cmd_lock.specs.declared.command.LockOrder.{LockOrder}

-- ---- what is asked

-- the look at the key
abbrev pub look_of : LockOrder → Command
look_of order = record { client = order.client; number = order.number; op = Op.Get order.key }

-- the command that follows the read, under the next number
abbrev pub follows_of : LockOrder → Op → Command
follows_of order op = record { client = order.client; number = order.number + 1; op = op }

-- the replica is asked for a command, again after each hundred turns
abbrev pub AsksFor : LockOrder → Command → Meaning → Meaning → Result Outcome AskError → Type 0
AsksFor order command old new result = Asks 0 order.to command order.turns 100 old new result

-- the rule's next step on an outcome of the read
abbrev pub IsRuled : LockOrder → Outcome → NextStep → Type 0
IsRuled order found next = FollowsGet order.action order.client order.key found next

-- the operation is a compare and set of this key
pub record IsCasOf (key : List ℕ) (op : Op) : Type 0 where
  pub expected : Option (List ℕ)
  pub new : Option (List ℕ)
  pub is : op ≡ Op.Cas key expected new

-- The look was answered, the rule asks for this operation, and so the replica was asked for it.
pub record AsksNext (order : LockOrder) (op : Op) (old new : Meaning) (result : Result Outcome AskError) : Type 0 where
  pub between : Meaning
  pub found : Outcome
  pub looks : AsksFor order (look_of order) old between (Ok found)
  pub ruled : IsRuled order found (NextStep.Ask op)
  pub asks : AsksFor order (follows_of order op) between new result

-- ---- what is learnt

-- this result follows the read, and nothing more is requested
pub record LearnsAtOnce (order : LockOrder) (old new : Meaning) (told : Told) : Type 0 where
  pub found : Outcome
  pub looks : AsksFor order (look_of order) old new (Ok found)
  pub ruled : IsRuled order found (NextStep.End told)

-- this result follows the answer to the operation after the read
pub record LearnsNext (order : LockOrder) (old new : Meaning) (told : Told) : Type 0 where
  pub op : Op
  pub outcome : Outcome
  pub asked : AsksNext order op old new (Ok outcome)
  pub ruled : FollowsCas op outcome told

abbrev pub Learns : LockOrder → Meaning → Meaning → Told → Type 0
Learns order old new told = LearnsAtOnce order old new told ⊎ LearnsNext order old new told

-- the replica was asked for the operation and answered, and this is the client's result
abbrev pub TellsNext : LockOrder → Op → Meaning → Meaning → Result Told AskError → Type 0
TellsNext order op old new (Ok told) = (outcome : Outcome) × AsksFor order (follows_of order op) old new (Ok outcome) × FollowsCas op outcome told
TellsNext order op old new (Err e) = AsksFor order (follows_of order op) old new (Err e)

-- ---- why nothing is learnt

-- one of the two requests ended so
abbrev pub Fails : LockOrder → Meaning → Meaning → AskError → Type 0
Fails order old new e = AsksFor order (look_of order) old new (Err e) ⊎ ((op : Op) × AsksNext order op old new (Err e))

-- memory ran out before the first request, or over it or behind it, or over the second
abbrev pub Starves : LockOrder → Meaning → Meaning → Type 0
Starves order old new =
    (new ≡ old)
    ⊎ (((found : Outcome) × AsksFor order (look_of order) old new (Ok found)) ⊎ Fails order old new NoMemory)

-- the result, or the error
abbrev pub LearnsOr : LockOrder → Meaning → Meaning → Result Told AskError → Type 0
LearnsOr order old new (Ok told) = Learns order old new told
LearnsOr order old new (Err NoAnswer) = Fails order old new NoAnswer
LearnsOr order old new (Err PortFault) = Fails order old new PortFault
LearnsOr order old new (Err NoMemory) = Starves order old new
