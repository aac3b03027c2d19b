use Rattle.std.proofs.Common.{◌≡◌}
use Rattle.crsm_mpworld.specs.World.{Holds}
use Rattle.crsm_mpworld.proofs.First.{part, part_lines}
use Rattle.crsm_mpworld.proofs.world.MpWorld.new.Given as goal

abbrev pub invariant-loop-k : goal.invariant-loop-k
invariant-loop-k l = record { holds : Holds l.world (part l.n l.k); told : l.lines ≡ part_lines l.n l.k }
