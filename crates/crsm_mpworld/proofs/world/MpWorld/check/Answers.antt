use Rattle.std.proofs.Common.{◌∙◌, ap, sym, subst, Some}
use Rattle.crsm_spec.specs.Acts.{Bad}
use Rattle.crsm_mpspec.specs.Possible.{Cause}
use Rattle.crsm_mpspec.specs.World.{is_full}
use Rattle.crsm_mpworld.specs.Doing.{act_of, cause_of}
use Rattle.crsm_mpworld.specs.Refusing.{Answers}
use Rattle.crsm_mpworld.proofs.Reasons.{hit, pass, here, not_here}
use Rattle.crsm_mpworld.proofs.world.MpWorld.check.Goals as goal

pub returns-then-is_not_here-clause-cause : goal.returns-then-is_not_here-clause-cause
unfolding cause_of
returns-then-is_not_here-clause-cause c v h = not_here v (act_of c.args.event.now) (sym c.is_not_here.ensures ∙ c.if-is_not_here.true)

pub returns-then-is_full-clause-cause : goal.returns-then-is_full-clause-cause
unfolding cause_of is_full
returns-then-is_full-clause-cause c v h =
    here v (act_of c.args.event.now) (sym c.is_not_here.ensures ∙ c.if-is_not_here.false)
    ∙ hit _ (Bad.Full v.bytes) _ (sym (c.is_full.ensures.full v.packets v.bytes h.network) ∙ c.if-is_full.true)
    ∙ ap (λ n. Some (Cause.Met (Bad.Full n))) (sym (c.bytes.ensures v.packets v.bytes h.network))

pub returns-clause-cause : goal.returns-clause-cause
unfolding is_full
returns-clause-cause c v h =
    let meant = sym c.is_not_here.ensures ∙ c.if-is_not_here.false in
    let room = sym (c.is_full.ensures.full v.packets v.bytes h.network) ∙ c.if-is_full.false in
    subst (Answers c.check_event.result) (sym (here v (act_of c.args.event.now) meant ∙ pass _ (Bad.Full v.bytes) _ room)) (c.check_event.ensures v h meant)

pub returns-clause-room : goal.returns-clause-room
returns-clause-room c ok = c.is_full.ensures.room c.if-is_full.false
