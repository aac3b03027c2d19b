use Rattle.std.proofs.Common.{◌≡◌, ◌<◌, ◌+◌, take, decimal}
use Rattle.crsm_text.proofs.fields.read_digits.Given as goal

-- the digits so far spell the number so far
abbrev pub invariant-loop-byte : goal.invariant-loop-byte
invariant-loop-byte l = record {
  some : 0 < l.number;
  text : take (l.byte-index + 1) l.word ≡ decimal l.number;
}
