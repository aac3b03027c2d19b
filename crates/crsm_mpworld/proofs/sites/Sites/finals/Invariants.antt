use Rattle.std.proofs.Common.{◌≡◌, map, take}
use Rattle.std.specs.List.{enumerate_from}
use Rattle.crsm_mpspec.specs.World.{final_line}
use Rattle.crsm_mpworld.specs.Sites.{WhereSitesStand}
use Rattle.crsm_mpworld.proofs.sites.Sites.finals.Given as goal

abbrev pub invariant-loop-k : goal.invariant-loop-k
invariant-loop-k l = WhereSitesStand l.self (λ n places. l.lines ≡ map final_line (take l.k (enumerate_from 0 places)))
