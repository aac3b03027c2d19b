use Rattle.std.proofs.Common.{◌∙◌, ap, sym}
use Rattle.crsm_mpspec.specs.Moments.{step_at}
use Rattle.crsm_mpworld.specs.Effects.{ending_of}
use Rattle.crsm_mpworld.proofs.Turns.{come_missed, come_found}
use Rattle.crsm_mpworld.proofs.Leading.{on_as, on_count, on_still}
use Rattle.crsm_mpworld.proofs.world.MpWorld.come.Goals as goal

pub returns-in_default : goal.returns-in_default
returns-in_default c v h =
    on_count _ _ v.n _ _ _ _ h.n (on_as _ _ _ _ _ _ _ (come_missed (ending_of c.args.ending) v _ (c.in_default.ensures.at v.packets v.bytes h.network)) (on_still v _ _ _ h.sites h.network))

pub returns : goal.returns
returns c v h =
    let ends = ending_of c.args.ending in
    let m = c.in-Some.packet in
    let found = c.in-Some.ensures.at v.packets v.bytes h.network in
    on_count _ _ v.n _ _ _ _ h.n
    (on_as _ _ _ _ _ _ _ (come_found ends v _ m found.0 found.1 found.2 ∙ ap (λ k. step_at ends v k m.input.now m.from) (sym c.from.ensures))
    (c.in_ok-leave.ensures _ v _ h.network (c.in_ok-effects.ensures.leaves v h.sites)))
