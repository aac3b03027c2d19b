use Rattle.std.proofs.Common.{◌≡◌, ◌<◌, ◌/◌, ◌%◌, ◌*◌, ◌++◌, ℕ, take, drop, length}
use Rattle.std.specs.Prelude.{slice_index}
use Rattle.hex.specs.Hex.{encode_lower, lower_digits}
use Rattle.crsm_text.proofs.print.digits_of.Given as goal

-- the first and second digits of the bytes so far
abbrev pub invariant-loop-i : goal.invariant-loop-i
invariant-loop-i l = record {
  firsts : length l.firsts ≡ 64;
  seconds : length l.seconds ≡ 64;
  first : (j : ℕ) → j < l.i → slice_index l.firsts j ≡ slice_index lower_digits (slice_index l.bytes j / 16);
  second : (j : ℕ) → j < l.i → slice_index l.seconds j ≡ slice_index lower_digits (slice_index l.bytes j % 16);
}

-- the digits so far and those of the other bytes are all of them
abbrev pub invariant-loop-i-2 : goal.invariant-loop-i-2
invariant-loop-i-2 l = record {
  length : length l.row ≡ 128;
  text : take (2 * l.i) l.row ++ encode_lower (drop l.i l.bytes) ≡ encode_lower l.bytes;
}
