use Rattle.std.proofs.Common.{refl, take}
use Rattle.crsm_sim_machine.specs.Arriving.{turn_of}
use Rattle.crsm_world.proofs.Series.{taken}
use Rattle.crsm_world.proofs.Turns.{view_short}
use Rattle.crsm_world.proofs.world.World.take.Goals as goal

pub returns-in_default-clause-stands : goal.returns-in_default-clause-stands
returns-in_default-clause-stands c v n places r steps h e = rw (c.in_default.ensures v.packets v.bytes h.network) (refl, h)

pub returns-clause-stands : goal.returns-clause-stands
unfolding turn_of
returns-clause-stands c v n places r steps h e =
    let found = c.in-Some.ensures v.packets v.bytes h.network in
    let made = taken c.args.k c.args.reading v n places r steps found.0 c.in-Some.packet c.from.result (take 8192 c.in-Some.packet.bytes.now) _ c.in_ok-step.step found.2 c.from.ensures (view_short c.in-Some.packet found.0 found.2) h.network
    (c.in_ok-step.ensures.stands n places r steps h.sites e) in
    rw found.1 (record { number = c.args.number; step = c.in_ok-step.step }, c.in_ok-push.ensures.items, refl, made.0, made.1)
