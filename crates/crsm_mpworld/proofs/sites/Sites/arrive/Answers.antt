use Rattle.std.specs.Prelude.{slice_get}
use Rattle.std.proofs.Common.{◌∙◌, ap, sym}
use Rattle.crsm_mpspec.specs.World.{Site, whole_step, cut_step, lost_step}
use Rattle.crsm_mpworld.specs.Effects.{ending_of}
use Rattle.crsm_mpworld.proofs.Turns.{step_silent, up_found}
use Rattle.crsm_mpworld.proofs.Leading.{leaves_here}
use Rattle.crsm_mpworld.proofs.sites.Sites.arrive.Goals as goal

pub returns-in_default-clause-leaves : goal.returns-in_default-clause-leaves
returns-in_default-clause-leaves c v h = (step_silent _ v c.args.k c.args.input.now c.args.from (sym c.in_default.is ∙ c.up.ensures.up v.n v.sites h), h)

pub returns-in_ok-step_whole-in-Whole-clause-leaves : goal.returns-in_ok-step_whole-in-Whole-clause-leaves
unfolding ending_of
returns-in_ok-step_whole-in-Whole-clause-leaves c v h =
    let u = up_found v.sites c.args.k c.in-Some.k (sym c.in-Some.is ∙ c.up.ensures.up v.n v.sites h) in
    let e = ap (slice_get v.sites) u.number ∙ u.up in
    rw c.in-Whole.is (leaves_here whole_step v c.args.k c.in-Some.k c.args.input.now c.args.from _ _ _ u (c.in_ok-step_whole-in-Whole.ensures.leaves v u.replica h e))

pub returns-in_ok-step_kept-in-Kept-clause-leaves : goal.returns-in_ok-step_kept-in-Kept-clause-leaves
unfolding ending_of
returns-in_ok-step_kept-in-Kept-clause-leaves c v h =
    let u = up_found v.sites c.args.k c.in-Some.k (sym c.in-Some.is ∙ c.up.ensures.up v.n v.sites h) in
    let e = ap (slice_get v.sites) u.number ∙ u.up in
    rw c.in-Kept.is (leaves_here (cut_step c.in-Kept.sends) v c.args.k c.in-Some.k c.args.input.now c.args.from _ _ _ u (c.in_ok-step_kept-in-Kept.ensures.leaves v u.replica h e))

pub returns-in-Lost-clause-leaves : goal.returns-in-Lost-clause-leaves
unfolding ending_of lost_step
returns-in-Lost-clause-leaves c v h =
    let u = up_found v.sites c.args.k c.in-Some.k (sym c.in-Some.is ∙ c.up.ensures.up v.n v.sites h) in
    let e = ap (slice_get v.sites) u.number ∙ u.up in
    rw c.in-Lost.is (leaves_here lost_step v c.args.k c.in-Some.k c.args.input.now c.args.from _ _ _ u (c.go_down.ensures.leaves v h (Site.Up u.replica) _ e))
