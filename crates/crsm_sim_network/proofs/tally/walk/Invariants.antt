use Rattle.std.proofs.Common.{◌≡◌, ◌+◌, ◌-◌, length, drop}
use Rattle.std.specs.List.{count_by}
use Rattle.crsm_sim_network.specs.Tally.{is_wanted}
use Rattle.crsm_sim_network.proofs.tally.walk.Given as goal

abbrev pub decreases-loop-place : goal.decreases-loop-place
decreases-loop-place l = length l.classes - l.place

abbrev pub invariant-loop-place : goal.invariant-loop-place
invariant-loop-place l = l.j + count_by (is_wanted l.wanted) (drop l.place l.classes) ≡ l.before + count_by (is_wanted l.wanted) (drop l.first l.classes)
