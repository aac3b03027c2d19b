use Rattle.std.proofs.Common.{arith, ◌+◌}
use Rattle.std.specs.Prelude.{◌-◌}
use Rattle.crsm_replica_reconfigure.proofs.TailLemmas.{left_before, left_at, left_from}
use Rattle.crsm_replica_reconfigure.proofs.tails.first_left.Goals as goal

pub returns-then-more-missing : goal.returns-then-more-missing
returns-then-more-missing c =
    let few = c.if-more-missing.true in
    let below = c.if-done-decision.true in
    left_before c.args.decision.now (c.args.done + c.args.more) (omega (arith, few, below))

pub returns-then-done-decision : goal.returns-then-done-decision
returns-then-done-decision c =
    let d = c.args.decision.now in
    let enough = c.if-more-missing.false in
    let below = c.if-done-decision.true in
    let found = c.get.ensures.lookup in
    left_at d c.get.result c.as_slice-tail.result.now (c.args.done + c.args.more) (c.args.more - (d.base_len - c.args.done)) c.as_slice-tail.ensures
    (omega (arith, enough, below)) (omega (arith, enough, below)) found.0 found.1

pub returns : goal.returns
returns c =
    let found = c.get-2.ensures.lookup in
    left_from c.args.decision.now c.get-2.result c.as_slice-tail.result.now c.args.done c.args.more c.min-start.result c.as_slice-tail.ensures c.if-done-decision.false c.min-start.ensures
    found.0 found.1
