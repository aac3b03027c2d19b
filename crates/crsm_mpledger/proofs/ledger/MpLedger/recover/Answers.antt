use Rattle.std.proofs.Common.{◌+◌, arith, subst}
use Rattle.std.specs.Prelude.{drop}
use Rattle.crsm_mpledger.specs.Sound.{AreBodies, with_records}
use Rattle.crsm_mpledger.proofs.BootLemmas.{boots_bodies, drop-get, sound_bodies}
use Rattle.crsm_mpledger.proofs.ledger.MpLedger.recover.Goals as goal

pub loop-index-preserved : goal.loop-index-preserved
loop-index-preserved c whole are sound =
    let bodies = c.args.bodies.now in
    let k = c.loop-index.index in
    let i = c.loop-index.invariant whole are sound in
    let more = subst (λ bs. AreBodies i.0 bs whole) (drop-get bodies k c.in-Some.body.now c.in-Some.ensures) i.2 in
    let before = sound_bodies (with_records i.0 more.0) (drop (k + 1) bodies) whole more.2 sound in
    let log = with_records i.0 more.0 in
    (log, c.forget_executions.ensures.stands log (c.in_ok-follow_body.ensures i.0 i.1 more.0 more.1 before), more.2)

-- the next body has records that follow
pub follow_body-requires : goal.follow_body-requires
follow_body-requires c =
    let bodies = c.args.bodies.now in
    let k = c.loop-index.index in
    let all = c.requires in
    let i = c.loop-index.invariant all.log all.are all.sound in
    let more = subst (λ bs. AreBodies i.0 bs all.log) (drop-get bodies k c.in-Some.body.now c.in-Some.ensures) i.2 in
    let most = boots_bodies (with_records i.0 more.0) (drop (k + 1) bodies) all.log more.2 in
    let few = all.few in
    record {
      log = i.0;
      stands = i.1;
      records = more.0;
      spelt = more.1;
      sound = sound_bodies (with_records i.0 more.0) (drop (k + 1) bodies) all.log more.2 all.sound;
      few = omega (arith, most, few);
    }
