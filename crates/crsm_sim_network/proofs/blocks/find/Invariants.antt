use Rattle.std.proofs.Common.{◌≡◌, ◌<◌, ◌+◌, ◌-◌, ◌*◌, ◌^◌, ℕ, List, length, drop}
use Rattle.std.specs.List.{AllByRecursion, count_by}
use Rattle.crsm_sim_network.specs.Tally.{AreBlocks, IsClass, is_wanted}
use Rattle.crsm_sim_network.proofs.blocks.find.Given as goal

abbrev pub decreases-loop-block : goal.decreases-loop-block
decreases-loop-block l = length l.blocks - l.block

abbrev pub invariant-loop-block : goal.invariant-loop-block
invariant-loop-block l = (size : ℕ) (xs : List ℕ) → length xs < 2 ^ 63 → AllByRecursion IsClass xs → AreBlocks size l.blocks xs
    → l.j + count_by (is_wanted l.wanted) (drop (l.block * size) xs) ≡ l.before + count_by (is_wanted l.wanted) (drop (l.first * size) xs)
