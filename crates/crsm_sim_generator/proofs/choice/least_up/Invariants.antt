use Rattle.std.proofs.Common.{◌≡◌, [], take}
use Rattle.crsm_sim_generator.specs.View.{View, places}
use Rattle.crsm_sim_generator.proofs.choice.least_up.Given as goal

abbrev pub invariant-loop-replica : goal.invariant-loop-replica
invariant-loop-replica g l = (v : View) → g.L.Look.shows l.world v → places (λ up. up) (take l.replica v.ups) ≡ []
