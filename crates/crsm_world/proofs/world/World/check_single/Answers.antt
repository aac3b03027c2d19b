use Rattle.std.proofs.Common.{subst, List, ℕ}
use Rattle.crsm_spec.specs.Acts.{Single as OneStep}
use Rattle.crsm_world.specs.Refusing.{Answers}
use Rattle.crsm_world.specs.Doing.{single_of}
use Rattle.crsm_spec.specs.Possible.{causes_of_single, first_bad}
use Rattle.crsm_world.proofs.world.World.check_single.Goals as goal

pub returns-in-Request : goal.returns-in-Request
unfolding single_of causes_of_single
returns-in-Request c v h = rw c.in-Request.is (c.check_up.ensures v h)

pub returns-in-Go : goal.returns-in-Go
unfolding single_of causes_of_single
returns-in-Go c v h = rw c.in-Go.is (c.check_go.ensures v c.in-Go.reading h)

pub returns-in-Again : goal.returns-in-Again
unfolding single_of causes_of_single
returns-in-Again c v h = rw c.in-Again.is (c.check_again.ensures v c.in-Again.reading h)

pub returns-in-Tick : goal.returns-in-Tick
unfolding single_of causes_of_single
returns-in-Tick c v h = rw c.in-Tick.is (c.check_up-in-Tick.ensures v h)

pub returns-in-Suspect : goal.returns-in-Suspect
unfolding single_of causes_of_single
returns-in-Suspect c v h = rw c.in-Suspect.is (c.check_suspect.ensures v c.in-Suspect.reading h)

pub returns-in-Junk : goal.returns-in-Junk
unfolding single_of causes_of_single
returns-in-Junk c v h = rw c.in-Junk.is (subst (λ (bs : List ℕ). Answers c.check_junk.result (first_bad (causes_of_single v (OneStep.Junk c.in-Junk.replica c.in-Junk.reading bs)))) c.as_slice.ensures (c.check_junk.ensures v c.in-Junk.reading h))
