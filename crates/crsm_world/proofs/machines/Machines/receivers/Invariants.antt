use Rattle.std.proofs.Common.{ℕ, List}
use Rattle.std.specs.Prelude.{nat_lt, ◌&&◌}
use Rattle.crsm_sim_network.specs.Packets.{Receives}
use Rattle.crsm_spec.specs.World as on_paper
use Rattle.crsm_world.specs.Machines.{MachinesStand, is_up_in}
use Rattle.crsm_world.proofs.machines.Machines.receivers.Given as goal

abbrev pub invariant-loop-k : goal.invariant-loop-k
invariant-loop-k l = (n : ℕ) (places : List on_paper.Site) → MachinesStand l.self n places → Receives l.receivers (λ j. nat_lt j l.k && is_up_in places j)
