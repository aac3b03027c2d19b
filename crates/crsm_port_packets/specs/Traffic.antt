-- The traffic of the port, by that of the port below.
use Rattle.std.specs.Prelude.{◌≡◌, ℕ, List, Result}
use Rattle.crsm_base.specs.declared.memory.Failed.{Failed}
use Rattle.crsm_port.specs.Meaning.{Meaning}
use Rattle.crsm_port.specs.Passing.{Datagrams}
use Rattle.crsm_port.specs.Sent.{packets_of}
use Rattle.crsm_port.specs.declared.port.Recv.{Recv}
use Rattle.crsm_port_packets.specs.Asking.{AsksUntil, taker_of}
use Rattle.crsm_port_packets.specs.Given.{LetsGo}
use Rattle.crsm_port_packets.specs.Held.{unpacked}
use Rattle.crsm_port_packets.specs.Peers.{addresses_of}
use Rattle.crsm_port_packets.specs.Sent.{sent_with}
use Rattle.crsm_port_packets.specs.declared.packets.PacketsPort.{PacketsPort}

-- the datagrams that a receive may hand up
abbrev pub given_over : {P C : Type 0} → (P → Datagrams) → PacketsPort P C → Datagrams
given_over gives p = unpacked (gives p.port) p.received

-- those that were sent or may still be
abbrev pub sent_over : {P C : Type 0} → (P → Datagrams) → PacketsPort P C → Datagrams
sent_over may_send p = sent_with (may_send p.port) (packets_of p.waiting)

-- a receive: all that waits is sent, and then the port below is asked until a datagram goes up
abbrev pub LetsGoAndAsks : {P C : Type 0} → (P → Meaning) → (most : ℕ) → List ℕ → PacketsPort P C → PacketsPort P C → Result Recv Failed → Type 0
LetsGoAndAsks meaning most after old new result =
    (between : Meaning) × LetsGo (addresses_of old.peers.items) (packets_of old.waiting) (meaning old.port) between
    × AsksUntil (addresses_of old.peers.items) old.now most after (record { below = between; held = old.received }) (taker_of (meaning new.port) new) result

-- what a send leaves as it was
abbrev pub StaysWhenSent : {P C : Type 0} → PacketsPort P C → PacketsPort P C → Type 0
StaysWhenSent old new =
    new ≡ record old { port = new.port; peers = new.peers; waiting = new.waiting; packet = new.packet; roomy = new.roomy; losses = new.losses }
