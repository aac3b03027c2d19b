use Rattle.std.proofs.Common.{subst}
use Rattle.crsm_mpworld.specs.declared.ending.MpEffects.{MpEffects}
use Rattle.crsm_mpworld.specs.Effects.{Leaves}
use Rattle.crsm_mpworld.proofs.Leading.{on_as, on_still, on_whole, on_kept, on_down}
use Rattle.crsm_mpworld.proofs.outgoing.leave.Goals as goal

pub returns-in-Nothing : goal.returns-in-Nothing
returns-in-Nothing c m v sites h l =
    let left = subst (λ (x : MpEffects). Leaves m v x c.args.step.now sites) c.in-Nothing.is l in
    on_as _ _ _ _ _ _ _ left.0 (on_still v sites _ _ left.1 h)

pub returns-in_ok-let_all_out-in-Whole : goal.returns-in_ok-let_all_out-in-Whole
returns-in_ok-let_all_out-in-Whole c m v sites h l =
    let left = subst (λ (x : MpEffects). Leaves m v x c.args.step.now sites) c.in-Whole.is l in
    on_as _ _ _ _ _ _ _ left.1 (on_whole v c.in-Whole.k left.0 sites _ _ _ left.3 (c.in_ok-let_all_out-in-Whole.ensures v.packets v.bytes left.0 h left.2))

pub returns-in_ok-tell_down-in-Cut : goal.returns-in_ok-tell_down-in-Cut
returns-in_ok-tell_down-in-Cut c m v sites h l =
    let left = subst (λ (x : MpEffects). Leaves m v x c.args.step.now sites) c.in-Cut.is l in
    on_as _ _ _ _ _ _ _ left.1 (on_kept c.in-Cut.sends v c.in-Cut.k left.0 sites _ _ _ _ left.3 (c.in_ok-let_out-in-Cut.ensures v.packets v.bytes left.0 h left.2) c.in_ok-tell_down-in-Cut.ensures)

pub returns-in_ok-tell_down-in-Down : goal.returns-in_ok-tell_down-in-Down
returns-in_ok-tell_down-in-Down c m v sites h l =
    let left = subst (λ (x : MpEffects). Leaves m v x c.args.step.now sites) c.in-Down.is l in
    on_as _ _ _ _ _ _ _ left.1 (on_down v c.in-Down.k left.0 sites _ _ _ left.2 left.3 h c.in_ok-tell_down-in-Down.ensures)
