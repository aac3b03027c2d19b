-- The turn of a replica for an input of its machine.
use Rattle.std.specs.Prelude.{◌≡◌, [], ◌∷◌, take}
use Rattle.crsm_spec.specs.Node.{Turn}
use Rattle.crsm_replica_io.specs.declared.input.WantedInput.{WantedInput}
use Rattle.crsm_replica_io.specs.declared.input.WantedInput.TheVariants as what
use Rattle.crsm_sim_machine.specs.declared.arrival.Arrival.{Arrival}
use Rattle.crsm_sim_machine.specs.declared.arrival.Arrival.TheVariants as arrival
use Rattle.crsm_sim_machine.specs.declared.packet_port.PacketPort.{PacketPort}
use Rattle.crsm_sim_machine.specs.PacketPorts.{traffic_of}

-- the turn of what comes; bytes beyond the receive buffer are cut off
unfoldable pub turn_of : Arrival → Turn
turn_of (arrival.Bytes from bytes) = Turn.In from (take 8192 bytes.now)
turn_of arrival.Tick = Turn.Tick
turn_of (arrival.Suspect members) = Turn.Suspect members

-- the input to ask a shell for at this arrival, and the port from which it is received: bytes wait there
abbrev pub Asks : Arrival → WantedInput → PacketPort → Type 0
Asks (arrival.Bytes from bytes) wanted port =
    (wanted ≡ what.Receive) × ((traffic_of port.slot).waiting ≡ (record { address = from; bytes = bytes.now }) ∷ [])
Asks arrival.Tick wanted port = wanted ≡ what.Tick
Asks (arrival.Suspect members) wanted port = wanted ≡ what.Suspect members
