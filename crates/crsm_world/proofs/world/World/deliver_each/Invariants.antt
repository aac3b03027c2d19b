use Rattle.crsm_spec.specs.World as on_paper
use Rattle.crsm_world.specs.World.{Holds}
use Rattle.crsm_world.proofs.Series.{Going}
use Rattle.crsm_world.proofs.world.World.deliver_each.Given as goal

abbrev pub invariant-loop-number : goal.invariant-loop-number
invariant-loop-number l = (v : on_paper.World) → Holds l.initial.self v → Going v l.reading l.due l.number-index l.self l.lines
