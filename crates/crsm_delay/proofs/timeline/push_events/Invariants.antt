use Rattle.crsm_delay.proofs.Runs.{Written}
use Rattle.crsm_delay.proofs.timeline.push_events.Given as goal

abbrev pub invariant-loop : goal.invariant-loop
invariant-loop l = Written l.plan l.run l.fn.text l.text l.counter
