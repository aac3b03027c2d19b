use Rattle.crsm_replica_io.proofs.Headers.{next_rest, within_rest}
use Rattle.crsm_replica_io.proofs.Sending.{one_header_more}
use Rattle.crsm_replica_io.proofs.outbox.send_headers.Goals as goal

pub split_at-requires : goal.split_at-requires
split_at-requires g c =
    within_rest c.args.headers.now c.loop-header.header-index (record { to = 0; len = 0 }) c.args.text.now c.loop-header.rest.now c.requires.size c.loop-header-test.true c.loop-header.invariant.0

pub loop-header-preserved : goal.loop-header-preserved
loop-header-preserved g c = (
  next_rest c.args.headers.now c.loop-header.header-index (record { to = 0; len = 0 }) c.args.text.now c.loop-header.rest.now c.split_at.result.1.now c.loop-header-test.true c.loop-header.invariant.0
      c.split_at.ensures.back,
  one_header_more c.args.headers.now c.loop-header.header-index (record { to = 0; len = 0 }) c.args.text.now c.loop-header.rest.now c.split_at.result.0.now _ _ _ c.send.result
      c.loop-header-test.true c.loop-header.invariant.0 c.split_at.ensures.front c.requires.short c.loop-header.invariant.1 c.send.ensures.sends,
)
