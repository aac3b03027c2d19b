use Rattle.std.proofs.Common.{◌≡◌, true, false}
use Rattle.crsm_mpspec.specs.Possible.{causes_of_single, is_junk}
use Rattle.crsm_mpworld.specs.Doing.{single_of}
use Rattle.crsm_mpworld.proofs.world.MpWorld.check_single.Goals as goal

pub returns-in-Request : goal.returns-in-Request
unfolding single_of causes_of_single
returns-in-Request c v h = rw c.in-Request.is (λ _. c.check_up.ensures v h)

pub returns-in-Go : goal.returns-in-Go
unfolding single_of causes_of_single
returns-in-Go c v h = rw c.in-Go.is (λ _. c.check_go.ensures v c.in-Go.reading h)

pub returns-in-Again : goal.returns-in-Again
unfolding single_of causes_of_single
returns-in-Again c v h = rw c.in-Again.is (λ _. c.check_again.ensures v c.in-Again.reading h)

pub returns-in-Tick : goal.returns-in-Tick
unfolding single_of causes_of_single
returns-in-Tick c v h = rw c.in-Tick.is (λ _. c.check_up-in-Tick.ensures v h)

pub returns-in-Suspect : goal.returns-in-Suspect
unfolding single_of causes_of_single
returns-in-Suspect c v h = rw c.in-Suspect.is (λ _. c.check_suspect.ensures v c.in-Suspect.reading h)

pub returns-in-Junk : goal.returns-in-Junk
unfolding single_of is_junk
returns-in-Junk c v h = rw c.in-Junk.is (λ meant. let e : true ≡ false = meant in cc)
