-- The traffic of the port, by that of the port below.
use Rattle.std.specs.Prelude.{◌≡◌, ℕ, List, map}
use Rattle.crsm_port.specs.Meaning.{Packet}
use Rattle.crsm_port.specs.Passing.{Datagrams}
use Rattle.crsm_port_flow.specs.Acks.{packet_of, sent_with}
use Rattle.crsm_port_flow.specs.Kept.{given_by}
use Rattle.crsm_port_flow.specs.Waits.{MayWait, NotesNone}
use Rattle.crsm_port_flow.specs.declared.flow.FlowPort.{FlowPort}

-- the datagrams that a receive may hand up
abbrev pub given_over : {P C : Type 0} → (P → Datagrams) → FlowPort P C → Datagrams
given_over gives p = given_by (gives p.port) p.inbound

-- those that were sent or may still be
abbrev pub sent_over : {P C : Type 0} → (P → Datagrams) → FlowPort P C → Datagrams
sent_over may_send p = sent_with (may_send p.port) p.outbound.acks.acks.items

-- the acknowledgements that are held
abbrev pub acks_of : {P C : Type 0} → FlowPort P C → List Packet
acks_of p = map packet_of p.outbound.acks.acks.items

-- a datagram is not sent now, as it may wait: the port below is not asked, and nothing more is noted to have gone
abbrev pub IsHeldBack : {P C : Type 0} → (to : ℕ) → List ℕ → FlowPort P C → FlowPort P C → Type 0
IsHeldBack to bytes old new = (new.port ≡ old.port) × MayWait to bytes old.now old.outbound new.outbound × NotesNone old.outbound new.outbound
