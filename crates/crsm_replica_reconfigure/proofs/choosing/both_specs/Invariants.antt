use Rattle.std.proofs.Common.{◌≡◌, ◌<◌, take}
use Rattle.std.specs.Prelude.{filter, not, All, ◌&&◌, ◌||◌, ◌==◌}
use Rattle.crsm_spec.specs.Lists.{has}
use Rattle.crsm_replica_reconfigure.proofs.choosing.both_specs.Given as goal

abbrev pub invariant-loop-k : goal.invariant-loop-k
invariant-loop-k l = record {
  value : l.both.items ≡ filter (λ k. (has l.old k || has l.new k) && not (k == l.me)) (take l.k-index l.k-items);
  below : All (λ k. k < 15) l.both.items;
}
