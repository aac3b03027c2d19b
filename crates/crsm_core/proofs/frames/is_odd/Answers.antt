use Rattle.std.proofs.Common.{◌∙◌, arith}
use Rattle.crsm_core.proofs.FrameLemmas.{odd_time, odd_payload}
use Rattle.crsm_core.proofs.frames.is_odd.Goals as goal

pub returns-then-time_of-latest_from : goal.returns-then-time_of-latest_from
returns-then-time_of-latest_from c = λ x s n.
    let time = c.time_of.ensures in
    let latest = c.latest_from.ensures x s n in
    odd_time x.replica c.args.k c.args.payload.now (omega (arith, time, latest))

pub returns : goal.returns
returns c = λ x s n.
    let time = c.time_of.ensures in
    let latest = c.latest_from.ensures x s n in
    c.is_wrong.ensures x s ∙ odd_payload x.replica c.args.k c.args.payload.now (omega (arith, time, latest))
