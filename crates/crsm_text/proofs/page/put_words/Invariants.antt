use Rattle.std.proofs.Common.{◌≡◌, ◌≤◌, ◌+◌, ◌*◌, ◌++◌, length, take}
use Rattle.crsm_text.specs.Words.{named}
use Rattle.crsm_text.proofs.page.put_words.Given as goal

-- the word and the values so far stand behind what stood before them
abbrev pub invariant-loop-value : goal.invariant-loop-value
invariant-loop-value l = record {
  long : length l.row ≡ length l.fn.row;
  most : l.next ≤ l.at + 8 + 21 * l.value-index;
  text : take l.next l.row ≡ take l.at l.fn.row ++ named l.name (take l.value-index l.values);
}
