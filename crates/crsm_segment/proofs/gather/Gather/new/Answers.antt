use Rattle.std.proofs.Common.{subst, sym, []}
use Rattle.crsm_segment.specs.Gather.{GatherStands}
use Rattle.crsm_segment.proofs.Steps.{stands_at_first}
use Rattle.crsm_segment.proofs.gather.Gather.new.Goals as goal

pub returns-clause-empty : goal.returns-clause-empty
returns-clause-empty c = subst (λ xs. GatherStands xs []) (sym c.loop-k.invariant) (stands_at_first c.loop-k._k)
