use Rattle.std.proofs.Common.{refl}
use Rattle.crsm_spec.specs.Run.{after_acts, last_world}
use Rattle.crsm_world.specs.World.{WorldStands}
use Rattle.crsm_world.proofs.world.World.new.Goals as goal

pub returns-clause-world : goal.returns-clause-world
unfolding WorldStands
returns-clause-world c =
    let h = c.in_ok-lines.ensures.holds in
    record { unspent = refl; holds = record { sites = h.sites; network = h.network } }

pub returns-clause-done : goal.returns-clause-done
unfolding WorldStands last_world after_acts
returns-clause-done c =
    let h = c.in_ok-lines.ensures.holds in
    record { some = c.requires.some; most = c.requires.most; possible = tt; stands = record { unspent = refl; holds = record { sites = h.sites; network = h.network } } }
