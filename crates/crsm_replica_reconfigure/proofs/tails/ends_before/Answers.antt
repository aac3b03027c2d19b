use Rattle.crsm_replica_reconfigure.proofs.TailLemmas.{found_none, found_some, found_within, past_end}
use Rattle.crsm_replica_reconfigure.proofs.tails.ends_before.Goals as goal

pub returns-in_default : goal.returns-in_default
returns-in_default c = found_none c.args.entries.now c.args.entry.now (past_end c.args.entries.now c.saturating_sub.result c.saturating_sub.ensures c.in_default.ensures.lookup.0)

pub returns : goal.returns
returns c =
    found_some c.args.entries.now c.args.entry.now c.in-Some.last.now c.entry_precedes.result
    (found_within c.args.entries.now c.saturating_sub.result c.in-Some.last.now c.saturating_sub.ensures c.in-Some.ensures.lookup.0 c.in-Some.ensures.lookup.1) c.entry_precedes.ensures
