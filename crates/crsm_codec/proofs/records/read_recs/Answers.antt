use Rattle.std.proofs.Common.{arith, ap, Some}
use Rattle.crsm_base.proofs.RecordLaws.{rec_parses, rec_long}
use Rattle.crsm_base.proofs.BodyLaws.{reads_on, falls, above_zero, body_none, body_found, body_stops}
use Rattle.crsm_codec.proofs.Bodies.{same_body}
use Rattle.crsm_codec.proofs.records.read_recs.Goals as goal

pub returns-in_default-taken-clause-none : goal.returns-in_default-taken-clause-none
returns-in_default-taken-clause-none c = body_stops c.args.body.now c.loop-rest.recs c.loop-rest.rest.now c.loop-rest.invariant (rw c.in_default-taken.is at c.in-Ok.ensures) (above_zero _ c.loop-rest-test.ensures)

pub loop-rest-smaller : goal.loop-rest-smaller
loop-rest-smaller c = falls rec_parses rec_long c.args.body.now c.loop-rest.recs c.loop-rest.rest.now c.in-Some.rec c.in-Some.after.now (λ i. omega (arith, c.type_inv.body i)) c.loop-rest.invariant (rw c.in-Some.is at c.in-Ok.ensures)

pub loop-rest-preserved : goal.loop-rest-preserved
loop-rest-preserved c = rw c.in-Ok-push.ensures.ok (reads_on rec_parses c.args.body.now c.loop-rest.recs c.loop-rest.rest.now c.in-Some.rec c.in-Some.after.now (λ i. omega (arith, c.type_inv.body i)) c.loop-rest.invariant (rw c.in-Some.is at c.in-Ok.ensures))

pub returns-then-is_empty-clause-none : goal.returns-then-is_empty-clause-none
returns-then-is_empty-clause-none c = body_none c.args.body.now c.if-is_empty.ensures

pub returns-clause-found : goal.returns-clause-found
returns-clause-found c = body_found c.args.body.now c.loop-rest.recs c.loop-rest.rest.now c.if-is_empty.ensures c.loop-rest.invariant c.loop-rest-test.ensures

pub returns-in_default-taken-clause-again : goal.returns-in_default-taken-clause-again
returns-in_default-taken-clause-again c = λ recs s. absurd (body_stops c.args.body.now c.loop-rest.recs c.loop-rest.rest.now c.loop-rest.invariant (rw c.in_default-taken.is at c.in-Ok.ensures) (above_zero _ c.loop-rest-test.ensures) recs s)

pub returns-then-is_empty-clause-again : goal.returns-then-is_empty-clause-again
returns-then-is_empty-clause-again c = λ recs s. absurd (body_none c.args.body.now c.if-is_empty.ensures recs s)

pub returns-clause-again : goal.returns-clause-again
returns-clause-again c = λ recs s. ap Some (same_body c.args.body.now c.loop-rest.recs recs (body_found c.args.body.now c.loop-rest.recs c.loop-rest.rest.now c.if-is_empty.ensures c.loop-rest.invariant c.loop-rest-test.ensures) s)
