use Rattle.std.proofs.Common.{arith}
use Rattle.std.proofs.lemmas.Bool.{ltb-true, ltb-false}
use Rattle.crsm_mpreplica.specs.State.{waiting_of}
use Rattle.crsm_mpreplica.proofs.WaitLemmas.{first-waiting, none-due}
use Rattle.crsm_mpreplica.proofs.state.MpReplica.is_one_due.Goals as goal

pub returns-in-Some-clause-one : goal.returns-in-Some-clause-one
unfolding waiting_of
returns-in-Some-clause-one c due x s =
    let count = c.executed_len.ensures.value x.replica.log s.ledger in (
      waiting_of (c.in-Some.slot.now, c.in-Some.field-0-1.now),
      first-waiting c.args.self.now.waiting.entries x.replica.waiting (c.in-Some.slot.now, c.in-Some.field-0-1.now) s.waiting c.in-Some.ensures.first,
      omega (arith, count, ltb-true _ _ due),
    )

pub returns-in-Some-clause-none : goal.returns-in-Some-clause-none
returns-in-Some-clause-none c due x s =
    let count = c.executed_len.ensures.value x.replica.log s.ledger in
    none-due c.args.self.now.waiting.entries x.replica.waiting c.in-Some.slot.now _ s.waiting c.in-Some.ensures.all_from (omega (arith, count, ltb-false _ _ due))
