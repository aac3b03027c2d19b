use Rattle.std.proofs.Common.{◌≡◌, ◌==◌, not, false, take}
use Rattle.std.specs.List.{list_any}
use Rattle.crsm_spec.specs.World as on_paper
use Rattle.crsm_world.specs.World.{Holds}
use Rattle.crsm_sim_network.specs.Packets.{receiver_or}
use Rattle.crsm_world.proofs.world.World.one_is_for_another.Given as goal

abbrev pub invariant-loop-number : goal.invariant-loop-number
invariant-loop-number l = (v : on_paper.World) → Holds l.self v → list_any (λ i. not (receiver_or v.packets i == l.to)) (take l.number-index l.numbers) ≡ false
