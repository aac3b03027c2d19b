use Rattle.std.proofs.Common.{◌≡◌, ◌≤◌, ◌+◌, ◌*◌, ◌++◌, drop, length}
use Rattle.crsm_text.specs.Words.{numbers}
use Rattle.crsm_text.proofs.Rows.{Spaces}
use Rattle.crsm_text.proofs.line.write_words.Given as goal

-- the last numbers and the end stand at the end of the row, and there is room for what comes before them
abbrev pub invariant-loop-left : goal.invariant-loop-left
invariant-loop-left l = record {
  within : l.left ≤ length l.values;
  length : length l.row ≡ 216;
  end : l.at ≤ 216;
  room : 32 + 21 * l.left ≤ l.at;
  spaces : Spaces l.row l.at;
  text : drop l.at l.row ≡ numbers (drop l.left l.values) ++ l.end;
}

abbrev pub decreases-loop-left : goal.decreases-loop-left
decreases-loop-left l = l.left
