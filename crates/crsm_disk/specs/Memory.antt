-- The model of a disk in memory.
use Rattle.std.specs.Prelude.{ℕ, ◌+◌, ◌-◌, List, [], ◌∷◌, length, Option, Some, None, true}
use Rattle.crsm_port_faults.specs.Failing.{Failing, good_of, least}
use Rattle.crsm_port_image.specs.Calls.{Call, contents}
use Rattle.crsm_port_image.specs.Image.{IsImage, IsLeftSince, image_of}
use Rattle.crsm_disk.specs.Meaning.{Meaning}
use Rattle.crsm_port_image.proofs.Images.{reads_image, counts_now_lem, only_now_lem, told_makes}

pub record Memory : Type 0 where
  -- the initial bytes, and the successful calls, the newest first
  pub first : List ℕ
  pub calls : List Call
  -- calls of all five kinds with those that fail, and the number of further calls before the stop
  pub failing : Failing
  pub stop : Option ℕ
  pub fill : ℕ
  pub faults : ℕ
  pub room_calls : ℕ
  pub room_bytes : ℕ
  pub renewed : Option ℕ

-- a disk with these bytes before any call: it fails at the listed calls, and stops after `stop`
abbrev pub holding : List ℕ → List ℕ → Option ℕ → ℕ → Memory
holding first listed stop fill = record {
  first = first;
  calls = [];
  failing = record { calls = 0; listed = listed };
  stop = stop;
  fill = fill;
  faults = 0;
  room_calls = 0;
  room_bytes = 0;
  renewed = None;
}

-- a disk without failing calls or a stop, with the bytes that a crash leaves where the fill is in all unsynced ranges
abbrev pub left_by_crash : Memory → Memory
left_by_crash m = holding (image_of m.first m.calls m.fill) [] None m.fill

-- the room that a write of `count` bytes uses: the gap before it, and its bytes
abbrev pub room_for_write : ℕ → ℕ → Memory → ℕ
room_for_write at count m = (at - length (contents m.first m.calls)) + count

-- the disk after one more successful call, which used this many bytes of the reserve
abbrev pub with_call : Call → ℕ → Memory → Memory
with_call call bytes m = record m { calls = call ∷ m.calls; room_calls = m.room_calls - 1; room_bytes = m.room_bytes - bytes }

-- the number of further calls that succeed (None: all)
abbrev pub good_left : Memory → Option ℕ
good_left m = least (good_of m.failing) m.stop

-- it is honest, and specifies everything
abbrev pub meaning_of : Memory → Meaning
meaning_of m = record {
  seen = contents m.first m.calls;
  honest = true;
  may_leave = IsImage m.first m.calls;
  moment = length m.calls;
  left_since = IsLeftSince m.first m.calls;
  history = Some (record { first = m.first; calls = m.calls });
  plan = Some (record { calls = m.room_calls; bytes = m.room_bytes; good = good_left m });
  fill = Some m.fill;
  faults = m.faults;
  renewed = m.renewed;
  borrowed_as = None;
  as_read = λ _. reads_image m.first m.calls;
  as_told = told_makes m.first m.calls;
  counts_now = counts_now_lem m.first m.calls;
  only_now = only_now_lem m.first m.calls;
}
