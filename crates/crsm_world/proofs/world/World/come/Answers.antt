use Rattle.std.proofs.Common.{◌∙◌, ap, sym}
use Rattle.crsm_spec.specs.Node.{Turn}
use Rattle.crsm_spec.specs.Moments.{come}
use Rattle.crsm_sim_machine.specs.Arriving.{turn_of}
use Rattle.crsm_world.specs.Turning.{ending_of, turn_at}
use Rattle.crsm_world.proofs.Turns.{come_missed, come_found, view_short}
use Rattle.crsm_world.proofs.Leading.{on_as, on_still}
use Rattle.crsm_world.proofs.world.World.come.Goals as goal

pub returns-in_default : goal.returns-in_default
returns-in_default c v h =
    let ends = ending_of c.args.ending in
    on_as _ _ _ _ _ _ (ap (come ends v c.args.reading) (c.in_default.ensures v.packets v.bytes h.network) ∙ come_missed ends v c.args.reading) (on_still v _ _ _ h.sites h.network)

pub returns : goal.returns
unfolding turn_of
returns c v h =
    let ends = ending_of c.args.ending in
    let m = c.in-Some.packet in
    let found = c.in-Some.ensures v.packets v.bytes h.network in
    let e = come_found ends v c.args.reading m found.0 found.2 ∙ ap (come ends v c.args.reading) (sym found.1) in
    let f = ap (λ bs. turn_at ends v c.from-2.result (Turn.In c.from.result bs) c.args.reading) (view_short m found.0 found.2)
    ∙ ap (λ k. turn_at ends v k (Turn.In c.from.result m.bytes.now) c.args.reading) c.from-2.ensures
    ∙ ap (λ a. turn_at ends v m.to (Turn.In a m.bytes.now) c.args.reading) c.from.ensures in
    on_as _ _ _ _ _ _ (sym (f ∙ e)) (c.in_ok-leave.ensures _ v _ h.network c.sent.ensures (c.in_ok-effects.ensures.leaves v h.sites))
