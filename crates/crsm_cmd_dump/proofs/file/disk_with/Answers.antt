-- What is reserved is enough for the write, and no call of a disk without faults fails.
use Rattle.std.proofs.Common.{◌≡◌, ◌≤◌, ◌+◌, ◌-◌, ◌∙◌, None, Some, ap, arith, length, refl, sym}
use Rattle.std.proofs.lemmas.Option.{none-some}
use Rattle.crsm_disk.specs.Memory.{good_left, meaning_of}
use Rattle.crsm_cmd_dump.proofs.file.disk_with.Goals as goal

pub unreachable-requires : goal.unreachable-requires
unreachable-requires c =
    let d = c.in_ok-disk.disk in
    let room = c.in_ok-reserve.ensures.plan.room (record { calls = d.room_calls; bytes = d.room_bytes; good = good_left d }) refl in
    let good : room.0.good ≡ None = room.2.good ∙ ap good_left c.in_ok-disk.ensures in
    let bytes : (0 - length (meaning_of c.reserve.new.self).seen) + length c.args.file.now ≤ room.0.bytes = let b = room.2.bytes in omega (arith, b) in
    none-some 0 (sym good ∙ (c.in-Err.ensures.answer.plan.exact room.0 room.1 room.2.calls bytes).0 refl)
