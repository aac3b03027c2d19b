use Rattle.std.proofs.Common.{◌≡◌}
use Rattle.crsm_world.specs.World.{Holds}
use Rattle.crsm_world.proofs.First.{part, part_lines}
use Rattle.crsm_world.proofs.world.World.start_all.Given as goal

abbrev pub invariant-loop-k : goal.invariant-loop-k
invariant-loop-k l = record { holds : Holds l.self (part l.n l.k); told : l.lines ≡ part_lines l.n l.k }
