use Rattle.std.proofs.Common.{◌≡◌, take}
use Rattle.crsm_text.proofs.list.replicas_of.Given as goal

abbrev pub invariant-loop-number : goal.invariant-loop-number
invariant-loop-number l = l.replicas.items ≡ take l.number-index l.numbers
