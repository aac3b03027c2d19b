use Rattle.std.proofs.Common.{◌≡◌, take}
use Rattle.std.specs.Prelude.{◌==◌, not, filter}
use Rattle.crsm_replica.proofs.members.except.Given as goal

abbrev pub invariant-loop-k : goal.invariant-loop-k
invariant-loop-k l = l.others.items ≡ filter (λ k. not (k == l.me)) (take l.k-index l.replicas)
