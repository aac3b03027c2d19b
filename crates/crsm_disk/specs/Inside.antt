-- The invariant of a disk in memory.
use Rattle.std.specs.Prelude.{◌≡◌, ◌+◌, ◌≤◌, vec_len, vec_capacity}
use Rattle.crsm_disk.specs.declared.memory.MemDisk.TheInside.{Inside}
use Rattle.crsm_port_image.specs.Calls.{contents}
use Rattle.crsm_disk.specs.Memory.{Memory}
use Rattle.crsm_disk.specs.Ranges.{unsynced}

abbrev pub memory_of : Inside → Memory
memory_of d = record {
  first = d.past.first;
  calls = d.past.calls;
  failing = d.failures;
  stop = d.stop;
  fill = d.fill;
  faults = d.faults;
  room_calls = d.room_calls;
  room_bytes = d.room_bytes;
  renewed = d.renewed;
}

-- the bytes and the ranges are those that the calls make, and memory for the reserve is allocated
pub record IsKept (d : Inside) : Type 0 where
  pub bytes : d.bytes.items ≡ contents d.past.first d.past.calls
  pub ranges : d.unsynced.items ≡ unsynced d.past.calls
  pub place_ranges : vec_len d.unsynced + d.room_calls ≤ vec_capacity d.unsynced
  pub place_bytes : vec_len d.bytes + d.room_bytes ≤ vec_capacity d.bytes
