use Rattle.std.proofs.Common.{ℕ}
use Rattle.crsm_mpspec.specs.World as on_paper
use Rattle.crsm_mpworld.specs.World.{Holds}
use Rattle.crsm_mpworld.proofs.Series.{Going}
use Rattle.crsm_mpworld.proofs.world.MpWorld.deliver_each.Given as goal

abbrev pub invariant-loop-number : goal.invariant-loop-number
invariant-loop-number l = (v : on_paper.World) (t : ℕ) → Holds l.initial.self v → Going v t l.due l.number-index l.self l.lines
