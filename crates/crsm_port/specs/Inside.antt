-- The invariant of a port in memory.
use Rattle.std.specs.Prelude.{◌+◌, ◌≤◌, map, length, vec_len, vec_capacity}
use Rattle.crsm_port.specs.declared.memory.MemPort.TheInside.{Inside}
use Rattle.crsm_port.specs.declared.memory.QueuedDatagram.{QueuedDatagram}
use Rattle.crsm_port.specs.Meaning.{Packet}
use Rattle.crsm_port.specs.Memory.{Memory}
use Rattle.crsm_port.specs.Sent.{packets_of}

abbrev pub arrival_of : QueuedDatagram → Packet
arrival_of l = record { address = l.from; bytes = l.bytes.items }

abbrev pub memory_of : Inside → Memory
memory_of p = record {
  arrivals = map arrival_of p.arrivals.items;
  next = p.next;
  sent = packets_of p.sent;
  failing = p.failures;
  faults = p.faults;
  losses = p.losses;
  empties = p.empties;
  room_sends = p.room_sends;
  room_bytes = p.room_bytes;
}

-- no more were received than there are, and memory for the reserve is allocated
pub record IsKept (p : Inside) : Type 0 where
  pub next : p.next ≤ length p.arrivals.items
  pub place_labels : vec_len p.sent.labels + p.room_sends ≤ vec_capacity p.sent.labels
  pub place_bytes : vec_len p.sent.bytes + p.room_bytes ≤ vec_capacity p.sent.bytes
