-- The replies that a client has, by the datagrams it received.
use Rattle.std.specs.Prelude.{◌≡◌, ℕ, List, ◌∷◌, ◌++◌, map}
use Rattle.std.specs.List.{AllByRecursion}
use Rattle.crsm_base.specs.declared.Command.{Command}
use Rattle.crsm_base.specs.declared.answer.Outcome.{Outcome}
use Rattle.crsm_client.specs.Asking.{IsOther, IsReply, WhereQuiet}
use Rattle.crsm_client.specs.Exchange.{received_of}
use Rattle.crsm_lease.specs.declared.rule.NextStep.{NextStep}
use Rattle.crsm_port.specs.Cluster.{over}
use Rattle.crsm_port.specs.Meaning.{Framing, Meaning, Packet, Traffic}
use Rattle.crsm_cmd_lock.specs.Learning.{IsRuled, follows_of, look_of}
use Rattle.crsm_cmd_lock.specs.declared.command.LockOrder.{LockOrder}

-- Of these datagrams the first reply to the command has this outcome, and the rest came after it.
pub record HasFirstReply (to : ℕ) (command : Command) (received : List Packet) (outcome : Outcome) (rest : List Packet) : Type 0 where
  pub others : List Packet
  pub reply : Packet
  pub are : received ≡ others ++ reply ∷ rest
  pub none_before : AllByRecursion (IsOther to command) others
  pub is_reply : IsReply to command outcome reply

-- the next request is answered among these, if there is one
abbrev pub IsServed : LockOrder → List Packet → NextStep → Type 0
IsServed order received (NextStep.End told) = Unit {0}
IsServed order received (NextStep.Ask op) = (outcome : Outcome) × (rest : List Packet) × HasFirstReply order.to (follows_of order op) received outcome rest

-- The look is answered among these, and what follows it by the rule is answered among those that came after that.
pub record AreAnswers (order : LockOrder) (received : List Packet) : Type 0 where
  pub found : Outcome
  pub rest : List Packet
  pub looked : HasFirstReply order.to (look_of order) received found rest
  pub next : NextStep
  pub ruled : IsRuled order found next
  pub served : IsServed order rest next

-- all answers are among what was taken
pub record TookAnswers (order : LockOrder) (framing : Framing) (t u : Traffic) : Type 0 where
  pub packets : List Packet
  pub taken : u.taken ≡ t.taken ++ packets
  pub answers : AreAnswers order (map (received_of (over 0 framing)) packets)

-- if the traffic of the port is specified, it counted no failure, and all answers were received
abbrev pub WhereAnswered : LockOrder → Meaning → Meaning → Type 0 → Type 0
WhereAnswered order old new Q = WhereQuiet (TookAnswers order old.framing) old new Q

-- and they were not all taken
abbrev pub WhereNotAnswered : LockOrder → Meaning → Meaning → Type 0 → Type 0
WhereNotAnswered order old new Q = WhereQuiet (λ t u. TookAnswers order old.framing t u → ⊥) old new Q
