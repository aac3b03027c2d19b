use Rattle.std.proofs.Common.{◌≡◌, ℕ, List, map, take}
use Rattle.crsm_spec.specs.World as on_paper
use Rattle.crsm_world.specs.Machines.{MachinesStand}
use Rattle.crsm_world.proofs.machines.Machines.ups.Given as goal

abbrev pub invariant-loop-machine : goal.invariant-loop-machine
invariant-loop-machine l = (n : ℕ) (places : List on_paper.Site) → MachinesStand l.self n places → l.ups.items ≡ map on_paper.is_up (take l.machine-index places)
