use Rattle.std.proofs.Common.{◌≡◌, ◌<◌, ◌^◌, ℕ, List, length}
use Rattle.std.specs.List.{AllByRecursion, count_by}
use Rattle.crsm_sim_network.specs.Tally.{IsClass, IsCount, is_wanted}
use Rattle.crsm_sim_network.proofs.Counting.{below}
use Rattle.crsm_sim_network.proofs.counts.Counts.count.Given as goal

abbrev pub invariant-loop-class : goal.invariant-loop-class
invariant-loop-class l = (xs : List ℕ) → length xs < 2 ^ 63 → AllByRecursion IsClass xs → IsCount l.self.each xs → l.sum ≡ count_by (below (is_wanted l.wanted) l.class) xs
