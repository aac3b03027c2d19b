use Rattle.std.proofs.Common.{◌≡◌, take}
use Rattle.std.specs.List.{enumerate_from}
use Rattle.crsm_link.proofs.outbound.Out.due.Given as goal

abbrev pub invariant-loop-index : goal.invariant-loop-index
invariant-loop-index l = l.due ≡ take l.index (enumerate_from l.self.first l.self.frames.items)
