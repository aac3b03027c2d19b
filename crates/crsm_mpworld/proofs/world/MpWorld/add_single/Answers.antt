use Rattle.crsm_mpspec.specs.Moments.{single}
use Rattle.crsm_mpworld.specs.Doing.{single_of}
use Rattle.crsm_mpworld.proofs.Leading.{on_count, on_still}
use Rattle.crsm_mpworld.proofs.world.MpWorld.add_single.Goals as goal

pub returns-in_ok-request-in-Request : goal.returns-in_ok-request-in-Request
unfolding single single_of
returns-in_ok-request-in-Request c v h = rw c.in-Request.is (c.in_ok-request-in-Request.ensures v h)

pub returns-in_ok-go-in-Go : goal.returns-in_ok-go-in-Go
unfolding single single_of
returns-in_ok-go-in-Go c v h = rw c.in-Go.is (c.in_ok-go-in-Go.ensures v h c.in-Go.reading)

pub returns-in_ok-come-in-Again : goal.returns-in_ok-come-in-Again
unfolding single single_of
returns-in_ok-come-in-Again c v h = rw c.in-Again.is (c.in_ok-come-in-Again.ensures v h)

pub returns-in_ok-arrive-in-Tick : goal.returns-in_ok-arrive-in-Tick
unfolding single single_of
returns-in_ok-arrive-in-Tick c v h = rw c.in-Tick.is (c.in_ok-arrive-in-Tick.ensures v h)

pub returns-in_ok-arrive-in-Suspect : goal.returns-in_ok-arrive-in-Suspect
unfolding single single_of
returns-in_ok-arrive-in-Suspect c v h = rw c.in-Suspect.is (c.in_ok-arrive-in-Suspect.ensures v h)

pub returns-in-Junk : goal.returns-in-Junk
unfolding single single_of
returns-in-Junk c v h = rw c.in-Junk.is (on_count _ _ v.n _ _ _ _ h.n (on_still v _ _ _ h.sites h.network))
