use Rattle.std.proofs.Common.{drop, nat_eq}
use Rattle.std.specs.List.{IsDistinct}
use Rattle.crsm_text_words.proofs.address.are_distinct.Given as goal

-- the numbers so far stand nowhere else
abbrev pub invariant-loop-i : goal.invariant-loop-i
invariant-loop-i l = record {
  down : IsDistinct nat_eq l.numbers → IsDistinct nat_eq (drop l.i l.numbers);
  up : IsDistinct nat_eq (drop l.i l.numbers) → IsDistinct nat_eq l.numbers;
}
