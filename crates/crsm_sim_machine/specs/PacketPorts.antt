-- The meaning of a `PacketPort` as a port.
use Rattle.std.specs.Prelude.{[], ◌∷◌, Some, None}
use Rattle.crsm_port.specs.Meaning.{Meaning, Traffic, plain}
use Rattle.crsm_sim_machine.specs.declared.packet_port.PacketPort.{PacketPort}
use Rattle.crsm_sim_machine.specs.declared.packet_port.Slot.{Slot}
use Rattle.crsm_sim_machine.specs.declared.packet_port.Slot.TheVariants as slot

-- its datagram waits until it is taken
abbrev pub traffic_of : Slot → Traffic
traffic_of slot.Missing = record { waiting = []; taken = []; sent = [] }
traffic_of (slot.Waits from bytes) = record { waiting = (record { address = from; bytes = bytes.now }) ∷ []; taken = []; sent = [] }
traffic_of (slot.Taken from bytes) = record { waiting = []; taken = (record { address = from; bytes = bytes.now }) ∷ []; sent = [] }

abbrev pub meaning_of : PacketPort → Meaning
meaning_of p = record { traffic = Some (traffic_of p.slot); framing = plain; plan = None; faults = 0; losses = p.losses; empties = p.empties; too_long = 0; borrowed_as = None }
