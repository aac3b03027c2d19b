-- The bundle that is being taken apart.
use Rattle.std.specs.Prelude.{◌≡◌, drop}
use Rattle.crsm_port.specs.Passing.{Datagrams}
use Rattle.crsm_port_packets.specs.Format.{StandsIn}
use Rattle.crsm_port_packets.specs.declared.unpacking.Unpacking.{Unpacking}

-- the datagrams of the bundle that is being taken apart, from the next on
abbrev pub waiting_in : Unpacking → Datagrams
waiting_in u address d = (address ≡ u.from) × StandsIn d (drop u.next u.entries.items)
