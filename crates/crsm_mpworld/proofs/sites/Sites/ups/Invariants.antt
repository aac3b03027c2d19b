use Rattle.std.proofs.Common.{◌≡◌, map, take}
use Rattle.crsm_mpspec.specs.World.{is_up}
use Rattle.crsm_mpworld.specs.Sites.{WhereSitesStand}
use Rattle.crsm_mpworld.proofs.sites.Sites.ups.Given as goal

abbrev pub invariant-loop-site : goal.invariant-loop-site
invariant-loop-site l = WhereSitesStand l.self (λ n places. l.ups.items ≡ map is_up (take l.site-index places))
