-- The model of a port: the datagrams received and sent, where the port specifies them, its counters, and its plan.
use Rattle.std.specs.Prelude.{◌≡◌, ◌↔◌, ℕ, ◌≤◌, min, List, [], ◌∷◌, ◌++◌, length, take, drop, Option, Some, IsSome, Result, IfOk, OnOk, OnErr, option_map}
use Rattle.crsm_base.specs.declared.memory.Failed.{Failed}
use Rattle.crsm_base.specs.declared.memory.NoMemory.{NoMemory}
use Rattle.crsm_port_faults.specs.Counts.{Rose}
use Rattle.crsm_port_faults.specs.Plan.{MakesRoom, Plan, Spends}
use Rattle.crsm_port.specs.declared.port.Recv.{Recv}
use Rattle.crsm_port.specs.declared.port.Recv.TheVariants.{Nothing, Datagram}

-- a datagram, with its sender's or receiver's address
pub record Packet : Type 0 where
  pub address : ℕ
  pub bytes : List ℕ

-- the framing of datagrams: how one is sent on the wire, and how a received one is read
pub record Framing : Type 0 where
  pub wrap : Packet → Packet
  pub unwrap : Packet → Packet

-- no framing
abbrev pub plain : Framing
plain = record { wrap = λ d. d; unwrap = λ d. d }

-- the datagrams that wait, those received and those sent, each list with the oldest first
pub record Traffic : Type 0 where
  pub waiting : List Packet
  pub taken : List Packet
  pub sent : List Packet

pub record Meaning : Type 0 where
  -- the traffic, where the port specifies it
  pub traffic : Option Traffic
  -- between the datagrams of calls and those of the traffic
  pub framing : Framing
  -- the reserve for sends and the number of calls that succeed, where the port specifies them
  pub plan : Option Plan
  -- the receives that failed, the sends that failed, and the empty receives
  pub faults : ℕ
  pub losses : ℕ
  pub empties : ℕ
  -- the losses of sends that the port itself refused for their length
  pub too_long : ℕ
  -- the ghost name of the reference by which the port is borrowed
  pub borrowed_as : Option ℕ

-- a receive of the first waiting datagram, or of none
abbrev pub Takes : Framing → Traffic → Traffic → List ℕ → List ℕ → Recv → Type 0
Takes framing old new before after Nothing = (old.waiting ≡ []) × (new ≡ old) × (after ≡ before)
Takes framing old new before after (Datagram from len) = (d : Packet) × (rest : List Packet) × (old.waiting ≡ d ∷ rest) × (from ≡ (framing.unwrap d).address)
    × (len ≡ min (length before) (length (framing.unwrap d).bytes)) × (after ≡ take len (framing.unwrap d).bytes ++ drop len before)
    × (new ≡ record old { waiting = rest; taken = old.taken ++ d ∷ [] })

-- Nothing is returned if and only if `empties` rose
abbrev pub CountsEmpty : ℕ → ℕ → Recv → Type 0
CountsEmpty old new Nothing = Rose old new × (old ≤ new)
CountsEmpty old new (Datagram from len) = new ≡ old

abbrev pub IsWithin : ℕ → Recv → Type 0
IsWithin n Nothing = Unit {0}
IsWithin n (Datagram from len) = len ≤ n

-- the contract of a receive, with the buffer before and after it
pub record Receives (old new : Meaning) (before after : List ℕ) (result : Result Recv Failed) : Type 0 where
  pub within : IfOk result (IsWithin (length before))
  pub losses : new.losses ≡ old.losses
  pub later : old.faults ≤ new.faults
  pub failed : OnErr result (Rose old.faults new.faults)
  pub no_fault : OnOk result (new.faults ≡ old.faults)
  pub empties : IfOk result (CountsEmpty old.empties new.empties)
  pub not_empty : OnErr result (new.empties ≡ old.empties)
  pub taken : (t u : Traffic) → old.traffic ≡ Some t → new.traffic ≡ Some u → IfOk result (Takes old.framing t u before after)
  pub untaken : OnErr result (new.traffic ≡ old.traffic)
  pub too_long : new.too_long ≡ old.too_long
  pub told : IsSome old.traffic ↔ IsSome new.traffic
  pub framing : new.framing ≡ old.framing
  pub borrowed_as : new.borrowed_as ≡ old.borrowed_as
  pub plan : Spends 0 0 old.plan new.plan result

-- the traffic with one more datagram sent
abbrev pub with_sent : Packet → Traffic → Traffic
with_sent d t = record t { sent = t.sent ++ d ∷ [] }

-- short enough for each port
abbrev pub IsShort : List ℕ → Type 0
IsShort bytes = length bytes ≤ 8183

-- the contract of a send
pub record Sends {T : Type 0} (to : ℕ) (bytes : List ℕ) (old new : Meaning) (result : Result T Failed) : Type 0 where
  pub faults : new.faults ≡ old.faults
  pub later : old.losses ≤ new.losses
  pub failed : OnErr result (Rose old.losses new.losses)
  pub no_loss : OnOk result (new.losses ≡ old.losses)
  pub empties : new.empties ≡ old.empties
  pub sent : OnOk result (new.traffic ≡ option_map (with_sent (old.framing.wrap (record { address = to; bytes = bytes }))) old.traffic)
  pub unsent : OnErr result (new.traffic ≡ old.traffic)
  pub too_long : IsShort bytes → new.too_long ≡ old.too_long
  pub framing : new.framing ≡ old.framing
  pub borrowed_as : new.borrowed_as ≡ old.borrowed_as
  pub plan : Spends 1 (length bytes) old.plan new.plan result

-- a port is given these datagrams in turn
abbrev pub SendsAll : List Packet → Meaning → Meaning → Type 0
SendsAll [] old new = new ≡ old
SendsAll (p ∷ ps) old new = (between : Meaning) × (result : Result (Unit {0}) Failed) × Sends p.address p.bytes old between result × SendsAll ps between new

-- memory is reserved, and nothing else changes
pub record Reserves {T : Type 0} (sends bytes : ℕ) (old new : Meaning) (result : Result T NoMemory) : Type 0 where
  pub same : new ≡ record old { plan = new.plan }
  pub plan : MakesRoom sends bytes old.plan new.plan result
