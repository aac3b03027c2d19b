use Rattle.std.proofs.Common.{◌≡◌, false, take}
use Rattle.std.specs.List.{list_any}
use Rattle.crsm_spec.specs.Possible as possible
use Rattle.crsm_spec.specs.World as on_paper
use Rattle.crsm_world.specs.World.{Holds}
use Rattle.crsm_world.proofs.world.World.lacks_packets.Given as goal

abbrev pub invariant-loop-number : goal.invariant-loop-number
invariant-loop-number l = (v : on_paper.World) → Holds l.self v → list_any (possible.is_not_sent v) (take l.number-index l.numbers) ≡ false
