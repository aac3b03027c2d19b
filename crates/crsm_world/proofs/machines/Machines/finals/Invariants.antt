use Rattle.std.proofs.Common.{◌≡◌, ℕ, List, map, take}
use Rattle.std.specs.List.{enumerate_from}
use Rattle.crsm_spec.specs.World as on_paper
use Rattle.crsm_world.specs.Machines.{MachinesStand}
use Rattle.crsm_world.proofs.machines.Machines.finals.Given as goal

abbrev pub invariant-loop-replica : goal.invariant-loop-replica
invariant-loop-replica l = (n : ℕ) (places : List on_paper.Site) → MachinesStand l.self n places → l.lines ≡ map on_paper.final_line (take l.replica (enumerate_from 0 places))
