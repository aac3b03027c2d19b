use Rattle.std.proofs.Common.{List, subst, sym, take}
use Rattle.crsm_sim_network.specs.Packets.{AreSpelt}
use Rattle.crsm_port.specs.Meaning.{Packet as Sent}
use Rattle.crsm_port.specs.Sent.{packets_of}
use Rattle.crsm_world.specs.declared.ending.Effects.{Effects}
use Rattle.crsm_world.specs.Effects.{Leaves}
use Rattle.crsm_world.proofs.Leading.{on_as, on_still, on_whole, on_kept, on_down}
use Rattle.crsm_world.proofs.outgoing.leave.Goals as goal

pub returns-in-Nothing : goal.returns-in-Nothing
returns-in-Nothing c m v sites h same l =
    let left = subst (λ (x : Effects). Leaves m v x sites) c.in-Nothing.is l in
    on_as _ _ _ _ _ _ left.0 (on_still v sites _ _ left.1 h)

pub returns-in_ok-let_all_out-in-Whole : goal.returns-in_ok-let_all_out-in-Whole
returns-in_ok-let_all_out-in-Whole c m v sites h same l =
    let left = subst (λ (x : Effects). Leaves m v x sites) c.in-Whole.is l in
    let there : AreSpelt c.in-Whole.step.batch.sends sites.port.sent c.in-Whole.first → AreSpelt c.in-Whole.step.batch.sends (packets_of c.args.sent.now) c.in-Whole.first =
    subst (λ (ds : List Sent). AreSpelt c.in-Whole.step.batch.sends ds c.in-Whole.first) (sym same) in
    on_as _ _ _ _ _ _ left.1 (on_whole v c.in-Whole.k left.0 sites _ _ _ left.3 (c.in_ok-let_all_out-in-Whole.ensures.stands v.packets v.bytes left.0 h left.2 (there left.4)))

pub returns-in_ok-push-in-Cut : goal.returns-in_ok-push-in-Cut
returns-in_ok-push-in-Cut c m v sites h same l =
    let left = subst (λ (x : Effects). Leaves m v x sites) c.in-Cut.is l in
    let there : AreSpelt (take c.in-Cut.sends c.in-Cut.step.batch.sends) sites.port.sent c.in-Cut.first → AreSpelt (take c.in-Cut.sends c.in-Cut.step.batch.sends) (packets_of c.args.sent.now) c.in-Cut.first =
    subst (λ (ds : List Sent). AreSpelt (take c.in-Cut.sends c.in-Cut.step.batch.sends) ds c.in-Cut.first) (sym same) in
    on_as _ _ _ _ _ _ left.1 (on_kept c.in-Cut.sends v c.in-Cut.k left.0 sites _ _ _ _ left.3 (c.in_ok-let_out-in-Cut.ensures.stands v.packets v.bytes left.0 h left.2 (there left.4)) c.in_ok-push-in-Cut.ensures.ok)

pub returns-in_ok-push-in-Down : goal.returns-in_ok-push-in-Down
returns-in_ok-push-in-Down c m v sites h same l =
    let left = subst (λ (x : Effects). Leaves m v x sites) c.in-Down.is l in
    on_as _ _ _ _ _ _ left.1 (on_down v c.in-Down.k left.0 sites _ _ _ left.2 left.3 h c.in_ok-push-in-Down.ensures.ok)
