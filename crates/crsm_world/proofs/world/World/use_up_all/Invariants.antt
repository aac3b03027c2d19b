use Rattle.std.proofs.Common.{take}
use Rattle.std.specs.Prelude.{fold}
use Rattle.crsm_spec.specs.Moments.{use_up}
use Rattle.crsm_spec.specs.World as on_paper
use Rattle.crsm_world.specs.World.{Holds}
use Rattle.crsm_world.proofs.world.World.use_up_all.Given as goal

abbrev pub invariant-loop-number : goal.invariant-loop-number
invariant-loop-number l = (v : on_paper.World) → Holds l.initial.self v → Holds l.self (fold (λ u j. use_up j u) v (take l.number-index l.numbers))
