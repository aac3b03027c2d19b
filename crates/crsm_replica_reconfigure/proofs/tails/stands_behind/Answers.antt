use Rattle.std.proofs.Common.{◌∙◌, sym, ap}
use Rattle.std.specs.Prelude.{◌-◌, slice_get}
use Rattle.crsm_spec.specs.Log.{executed}
use Rattle.crsm_replica_reconfigure.proofs.TailLemmas.{found_none, found_some}
use Rattle.crsm_replica_reconfigure.proofs.tails.stands_behind.Goals as goal

pub returns-in_default : goal.returns-in_default
returns-in_default c = λ me n log s.
    let place = c.saturating_sub.ensures ∙ ap (λ i. i - 1) (c.executed_len.ensures.value me n log s) in
    found_none (executed log) c.args.entry.now (ap (slice_get (executed log)) (sym place) ∙ sym (c.in_ok-found.ensures.value me n log s) ∙ c.in_default.is)

pub returns : goal.returns
returns c = λ me n log s.
    let place = c.saturating_sub.ensures ∙ ap (λ i. i - 1) (c.executed_len.ensures.value me n log s) in
    found_some (executed log) c.args.entry.now c.in-Some.last c.entry_precedes-is_behind.result (ap (slice_get (executed log)) (sym place) ∙ sym (c.in_ok-found.ensures.value me n log s) ∙ c.in-Some.is) c.entry_precedes-is_behind.ensures
