use Rattle.std.proofs.Common.{refl, subst, List}
use Rattle.crsm_mpspec.specs.World.{Site, lost_step, log_of}
use Rattle.crsm_mpspec.specs.Step.{step}
use Rattle.crsm_mpworld.specs.Sites.{StandFor}
use Rattle.crsm_mpworld.proofs.Turns.{get_set, set_twice}
use Rattle.crsm_mpworld.proofs.sites.Sites.step_kept.Goals as goal

pub returns-clause-leaves : goal.returns-clause-leaves
unfolding lost_step log_of
returns-clause-leaves c v r h e =
    let x = step r c.args.input.now c.args.from in
    let made = c.in_ok-step.ensures.steps v.n v.sites r h e in
    let down = c.crash.ensures v.n _ (Site.Up x.replica) made.1 (get_set v.sites c.args.k (Site.Up x.replica) (Site.Up r) e) in
    (x, refl, made.0, subst (λ (ps : List Site). StandFor c.crash.new.self v.n ps) (set_twice v.sites c.args.k (Site.Up x.replica) (Site.Down x.replica.log)) down)
