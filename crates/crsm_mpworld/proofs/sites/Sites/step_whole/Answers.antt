use Rattle.std.proofs.Common.{refl}
use Rattle.crsm_mpspec.specs.World.{lost_step, log_of}
use Rattle.crsm_mpspec.specs.Step.{step}
use Rattle.crsm_mpworld.proofs.sites.Sites.step_whole.Goals as goal

pub returns-clause-leaves : goal.returns-clause-leaves
unfolding lost_step log_of
returns-clause-leaves c v r h e =
    let made = c.in_ok-step.ensures.steps v.n v.sites r h e in
    (step r c.args.input.now c.args.from, refl, made.0, made.1)
