-- Datagrams that go out over a port.
use Rattle.std.specs.Prelude.{◌≡◌, ◌⊎◌, ◌+◌, ◌-◌, ◌^◌, ◌≤◌, ℕ, suc, min, List, [], ◌∷◌, ◌++◌, length, map, Option, Some, None, option_map, slice_get}
use Rattle.std.specs.List.{flat_map}
use Rattle.crsm_base.specs.declared.send.Send.{Send}
use Rattle.crsm_base.specs.declared.send.To.{To}
use Rattle.crsm_base.specs.declared.send.To.TheVariants as to_whom
use Rattle.crsm_base.specs.Messages.{FitsDatagram, datagram_bytes}
use Rattle.crsm_port_faults.specs.Plan.{Plan, spent}
use Rattle.crsm_port.specs.Meaning.{Meaning, Packet, Traffic}

-- ---- where datagrams go

-- the datagram has an encoding
abbrev pub FitsSend : Send → Type 0
FitsSend s = FitsDatagram s.datagram

-- the address of a receiver, where the replicas have these; a number beyond them has none
abbrev pub address_of : List ℕ → To → Option ℕ
address_of peers (to_whom.Replica k) = slice_get peers k
address_of peers (to_whom.Address address) = Some address

abbrev pub sent_packets : Option ℕ → List ℕ → List Packet
sent_packets None bytes = []
sent_packets (Some address) bytes = (record { address = address; bytes = bytes }) ∷ []

-- a datagram as it is sent, if its receiver has an address
unfoldable pub packet_for : List ℕ → Send → List Packet
packet_for peers s = sent_packets (address_of peers s.to) (datagram_bytes s.datagram)

unfoldable pub packets_for : List ℕ → List Send → List Packet
packets_for peers sends = flat_map (packet_for peers) sends

-- how many bytes they have together
abbrev pub bytes_in : List Packet → ℕ
bytes_in [] = 0
bytes_in (d ∷ packets) = length d.bytes + bytes_in packets

-- ---- what sending them does to a port

-- the second list is the first without this number of items, in the same order
abbrev pub Lacks : ℕ → List Packet → List Packet → Type 0
Lacks missing [] out = (missing ≡ 0) × (out ≡ [])
Lacks missing (d ∷ packets) out =
    ((rest : List Packet) × (out ≡ d ∷ rest) × Lacks missing packets rest) ⊎ ((fewer : ℕ) × (missing ≡ suc fewer) × Lacks fewer packets out)

-- a counter that rose by this number, up to its last value
abbrev pub raised_by : ℕ → ℕ → ℕ
raised_by times count = min (count + times) (2 ^ 64 - 1)

-- these are recorded as sent, after those that were sent before
abbrev pub with_all_sent : List Packet → Traffic → Traffic
with_all_sent out t = record t { sent = t.sent ++ out }

-- the lost packets are at most those by which the counter of losses rose; those sent are recorded as the port frames
-- them
pub record GoesOut (packets : List Packet) (old new : Meaning) : Type 0 where
  pub out : List Packet
  pub missing : ℕ
  pub lacks : Lacks missing packets out
  pub counted : raised_by missing old.losses ≤ new.losses
  pub traffic : new.traffic ≡ option_map (with_all_sent (map old.framing.wrap out)) old.traffic

-- all of them go out
pub record GoesWhole (packets : List Packet) (p : Plan) (old new : Meaning) : Type 0 where
  pub losses : new.losses ≡ old.losses
  pub traffic : new.traffic ≡ option_map (with_all_sent (map old.framing.wrap packets)) old.traffic
  pub plan : new.plan ≡ Some (spent (length packets) (bytes_in packets) p)

-- the effect of sending all of these
pub record SendsAll (packets : List Packet) (old new : Meaning) : Type 0 where
  pub faults : new.faults ≡ old.faults
  pub empties : new.empties ≡ old.empties
  pub too_long : new.too_long ≡ old.too_long
  pub later : old.losses ≤ new.losses
  pub framing : new.framing ≡ old.framing
  pub borrowed_as : new.borrowed_as ≡ old.borrowed_as
  pub out : GoesOut packets old new
  -- where all calls of the port go well and there is room
  pub whole : (p : Plan) → old.plan ≡ Some p → p.good ≡ None → length packets ≤ p.calls → bytes_in packets ≤ p.bytes → GoesWhole packets p old new
