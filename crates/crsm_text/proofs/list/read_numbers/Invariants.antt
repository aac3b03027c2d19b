use Rattle.std.proofs.Common.{◌≡◌, ◌≤◌, ℕ, List, ◌++◌, length}
use Rattle.crsm_text.specs.Words.{commas}
use Rattle.crsm_text.proofs.Commas.{Fit, Ahead}
use Rattle.crsm_text.proofs.list.read_numbers.Given as goal

abbrev pub invariant-loop-prefix : goal.invariant-loop-prefix
invariant-loop-prefix l = record {
  fit : Fit l.numbers.items;
  found : (ns : List ℕ) → 1 ≤ length ns → l.rest ≡ commas ns → l.fn.word ≡ commas (l.numbers.items ++ ns);
  only : (ns : List ℕ) → Fit ns → 1 ≤ length ns → l.fn.word ≡ commas ns → Ahead ns l.numbers.items l.rest;
}

abbrev pub decreases-loop-prefix : goal.decreases-loop-prefix
decreases-loop-prefix l = length l.rest
