use Rattle.std.proofs.Common.{◌≡◌, [], take, not}
use Rattle.crsm_sim_generator.specs.View.{View, places}
use Rattle.crsm_sim_generator.proofs.choice.least_down.Given as goal

abbrev pub invariant-loop-replica : goal.invariant-loop-replica
invariant-loop-replica g l = (v : View) → g.L.Look.shows l.world v → places not (take l.replica v.ups) ≡ []
