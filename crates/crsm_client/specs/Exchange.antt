-- The datagrams that a client and a port exchange in some turns: a request that is retransmitted, and the datagrams
-- received.
use Rattle.std.specs.Prelude.{◌≡◌, ◌↔◌, ℕ, ◌+◌, ◌-◌, ◌^◌, ◌≤◌, min, List, ◌++◌, length, map, take, replicate, Some, IsSome}
use Rattle.crsm_port.specs.Meaning.{Framing, Meaning, Packet, Traffic}

-- how many bytes of a datagram are received
abbrev pub most_received : ℕ
most_received = 8192

-- a datagram as it is received
abbrev pub received_of : Framing → Packet → Packet
received_of framing d = record { address = (framing.unwrap d).address; bytes = take most_received (framing.unwrap d).bytes }

-- a counter that rose by this number, up to its last value
abbrev pub raised_by : ℕ → ℕ → ℕ
raised_by times count = min (count + times) (2 ^ 64 - 1)

pub record Exchange : Type 0 where
  -- the datagrams that were received, the oldest first
  pub received : List Packet
  -- how many receives gave nothing
  pub empties : ℕ
  -- how many times the request was sent
  pub requests : ℕ

-- each turn has one receive
abbrev pub turns_in : Exchange → ℕ
turns_in x = length x.received + x.empties

-- the datagrams that the port received and sent in an exchange
pub record Moves (framing : Framing) (request : Packet) (x : Exchange) (t u : Traffic) : Type 0 where
  -- the datagrams received, as they came
  pub packets : List Packet
  pub received_are : x.received ≡ map (received_of framing) packets
  pub waited : t.waiting ≡ packets ++ u.waiting
  pub taken : u.taken ≡ t.taken ++ packets
  pub sent : u.sent ≡ t.sent ++ replicate x.requests (framing.wrap request)

-- this was exchanged over a port, with this framing, and nothing else
pub record Exchanges (framing : Framing) (request : Packet) (x : Exchange) (old new : Meaning) : Type 0 where
  pub told : IsSome old.traffic ↔ IsSome new.traffic
  pub moves : (t u : Traffic) → old.traffic ≡ Some t → new.traffic ≡ Some u → Moves framing request x t u
  pub empties : raised_by x.empties old.empties ≤ new.empties
  pub same_framing : new.framing ≡ old.framing
  pub borrowed_as : new.borrowed_as ≡ old.borrowed_as

-- no call of the port failed
pub record IsQuiet (old new : Meaning) : Type 0 where
  pub faults : new.faults ≡ old.faults
  pub losses : new.losses ≡ old.losses

-- the counts of failures did not fall
pub record IsLater (old new : Meaning) : Type 0 where
  pub faults : old.faults ≤ new.faults
  pub losses : old.losses ≤ new.losses
