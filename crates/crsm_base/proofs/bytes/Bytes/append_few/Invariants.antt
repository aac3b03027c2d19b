use Rattle.std.proofs.Common.{◌≡◌, ◌≤◌, ◌++◌, length, take, ◌+◌, ◌-◌}
use Rattle.std.specs.Prelude.{vec_len, vec_capacity}
use Rattle.crsm_base.proofs.bytes.Bytes.append_few.Given as goal

abbrev pub invariant-loop-byte : goal.invariant-loop-byte
invariant-loop-byte l = (l.self-inside.items.items ≡ l.fn.self ++ take l.byte-index l.bytes)
    × (vec_len l.self-inside.items + (length l.bytes - l.byte-index) ≤ vec_capacity l.self-inside.items)
