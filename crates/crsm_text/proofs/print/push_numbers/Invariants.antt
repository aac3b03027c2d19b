use Rattle.std.proofs.Common.{◌≡◌, ◌++◌, length}
use Rattle.crsm_text.specs.Words.{numbers}
use Rattle.crsm_text.proofs.print.push_numbers.Given as goal

-- what is written and what is to come are all of it
abbrev pub invariant-loop-rest : goal.invariant-loop-rest
invariant-loop-rest l = l.out ++ numbers l.rest ≡ l.fn.out ++ numbers l.values

abbrev pub decreases-loop-rest : goal.decreases-loop-rest
decreases-loop-rest l = length l.rest
