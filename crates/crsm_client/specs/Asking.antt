-- The request of a command, until its reply comes or all turns are over.
use Rattle.std.specs.Prelude.{◌≡◌, ◌↔◌, ◌⊎◌, ℕ, ◌+◌, ◌*◌, ◌<◌, ◌≤◌, List, [], ◌∷◌, ◌++◌, Some, Result, Ok, Err}
use Rattle.std.specs.List.{AllByRecursion}
use Rattle.crsm_base.specs.declared.Command.{Command}
use Rattle.crsm_base.specs.declared.Datagram.TheVariants.{Request, Reply}
use Rattle.crsm_base.specs.declared.Outcome.{Outcome}
use Rattle.crsm_base.specs.Messages.{SpeltDatagram, datagram_bytes}
use Rattle.crsm_port_faults.specs.Counts.{Rose}
use Rattle.crsm_port.specs.Cluster.{over}
use Rattle.crsm_port.specs.Meaning.{Framing, Meaning, Packet, Traffic}
use Rattle.crsm_client.specs.Exchange.{Exchange, Exchanges, IsLater, IsQuiet, received_of, turns_in}
use Rattle.crsm_client.specs.declared.error.AskError.{AskError}
use Rattle.crsm_client.specs.declared.error.AskError.TheVariants.{NoAnswer, PortFault, NoMemory}

-- ---- the request and its reply

abbrev pub request_to : ℕ → Command → Packet
request_to to command = record { address = to; bytes = datagram_bytes (Request command) }

-- the reply to a command, with this outcome, of the replica at this address
pub record IsReply (to : ℕ) (command : Command) (outcome : Outcome) (d : Packet) : Type 0 where
  pub from : d.address ≡ to
  pub spelt : SpeltDatagram (Reply command.client command.number outcome) d.bytes

-- any other datagram
abbrev pub IsOther : ℕ → Command → Packet → Type 0
IsOther to command d = (outcome : Outcome) → IsReply to command outcome d → ⊥

-- the last of these datagrams is the reply, and none before it
pub record EndsWithReply (to : ℕ) (command : Command) (outcome : Outcome) (received : List Packet) : Type 0 where
  pub others : List Packet
  pub reply : Packet
  pub received_are : received ≡ others ++ reply ∷ []
  pub none_before : AllByRecursion (IsOther to command) others
  pub is_reply : IsReply to command outcome reply

-- one request for turn 0 and for each multiple of `resend` among this number of turns
abbrev pub IsPaced : ℕ → ℕ → ℕ → Type 0
IsPaced resend turns requests = (k : ℕ) → (k < requests) ↔ (k * resend < turns)

-- ---- how it ends

module _ (to : ℕ) (command : Command) (turns resend : ℕ) (old new : Meaning) (x : Exchange) where
  -- the first reply came
  pub record Answered (outcome : Outcome) : Type 0 where
    pub reply : EndsWithReply to command outcome x.received
    pub within : turns_in x ≤ turns
    pub some : 0 < x.requests
    pub paced : IsPaced resend (turns_in x) x.requests
    pub quiet : IsQuiet old new

  -- all turns are over, and no reply came
  pub record Unanswered : Type 0 where
    pub none : AllByRecursion (IsOther to command) x.received
    pub over : turns_in x ≡ turns
    pub paced : IsPaced resend turns x.requests
    pub quiet : IsQuiet old new

  -- In the turn after these the request was not sent, or the receive failed behind it. No reply came.
  pub record Broken : Type 0 where
    pub none : AllByRecursion (IsOther to command) x.received
    pub within : turns_in x < turns
    pub fault : (Rose old.losses new.losses × IsPaced resend (turns_in x) x.requests)
        ⊎ (Rose old.faults new.faults × IsPaced resend (turns_in x + 1) x.requests)
    pub later : IsLater old new

  -- memory ran out before a send, or over the last datagram
  pub record Starved : Type 0 where
    pub within : turns_in x ≤ turns
    pub paced : IsPaced resend (turns_in x) x.requests
    pub quiet : IsQuiet old new

  abbrev pub Ends : Result Outcome AskError → Type 0
  Ends (Ok outcome) = Answered outcome
  Ends (Err NoAnswer) = Unanswered
  Ends (Err PortFault) = Broken
  Ends (Err NoMemory) = Starved

-- the effect of the request over a port whose datagrams begin with the mark of the cluster
pub record Asks (cluster to : ℕ) (command : Command) (turns resend : ℕ) (old new : Meaning) (result : Result Outcome AskError) : Type 0 where
  pub exchange : Exchange
  pub exchanges : Exchanges (over cluster old.framing) (request_to to command) exchange old new
  pub ended : Ends to command turns resend old new exchange result

-- ---- when it is answered

-- the reply is among the datagrams that were taken
pub record TookReply (cluster to : ℕ) (command : Command) (framing : Framing) (t u : Traffic) : Type 0 where
  pub before : List Packet
  pub reply : Packet
  pub after : List Packet
  pub taken : u.taken ≡ t.taken ++ (before ++ reply ∷ after)
  pub outcome : Outcome
  pub is_reply : IsReply to command outcome (received_of (over cluster framing) reply)

-- if the traffic of the port is specified, and it counted no failure
abbrev pub WhereQuiet : (Traffic → Traffic → Type 0) → Meaning → Meaning → Type 0 → Type 0
WhereQuiet P old new Q =
    (t u : Traffic) → old.traffic ≡ Some t → new.traffic ≡ Some u → P t u → ¬ (Rose old.faults new.faults) → ¬ (Rose old.losses new.losses) → Q

-- and the reply was taken
abbrev pub WhereReplied : ℕ → ℕ → Command → Meaning → Meaning → Type 0 → Type 0
WhereReplied cluster to command old new Q = WhereQuiet (TookReply cluster to command old.framing) old new Q

-- and it was not
abbrev pub WhereNotReplied : ℕ → ℕ → Command → Meaning → Meaning → Type 0 → Type 0
WhereNotReplied cluster to command old new Q = WhereQuiet (λ t u. TookReply cluster to command old.framing t u → ⊥) old new Q

-- answered, unless memory ran out
abbrev pub IsAnswered : Result Outcome AskError → Type 0
IsAnswered (Ok outcome) = Unit {0}
IsAnswered (Err NoAnswer) = ⊥
IsAnswered (Err PortFault) = ⊥
IsAnswered (Err NoMemory) = Unit {0}

-- not answered, unless memory ran out
abbrev pub IsUnanswered : Result Outcome AskError → Type 0
IsUnanswered (Ok outcome) = ⊥
IsUnanswered (Err NoAnswer) = Unit {0}
IsUnanswered (Err PortFault) = ⊥
IsUnanswered (Err NoMemory) = Unit {0}
