use Rattle.std.proofs.Common.{◌∙◌, ◌+◌, ◌++◌, sym, ap, length}
use Rattle.std.specs.Option.{option_copied}
use Rattle.crsm_spec.specs.Log.{decision, executed}
use Rattle.crsm_replica_reconfigure.proofs.TailLemmas.{rest_behind, rest_nothing, no_rest}
use Rattle.crsm_replica_reconfigure.proofs.tails.rest_goes_on.Goals as goal

pub returns-in_default : goal.returns-in_default
returns-in_default c = λ x s. no_rest (decision x.replica.log) (executed x.replica.log ++ c.args.entries.now) (sym (c.in_ok-decision.ensures.value x s) ∙ c.in_default.is)

pub returns-in_default-first_left : goal.returns-in_default-first_left
returns-in_default-first_left c = λ x s.
    rest_nothing (decision x.replica.log) (executed x.replica.log) c.args.entries.now c.as_slice-entries.result.now c.in-Some.decision (c.executed_len.result + length c.as_slice-entries.result.now)
    (sym (c.in_ok-decision.ensures.value x s) ∙ c.in-Some.is) c.as_slice-entries.ensures (ap (λ m. m + length c.as_slice-entries.result.now) (c.executed_len.ensures x s))
    (sym (ap option_copied c.in_default-first_left.is) ∙ c.first_left.ensures)

pub returns : goal.returns
returns c = λ x s.
    rest_behind (decision x.replica.log) (executed x.replica.log) c.args.entries.now c.as_slice-entries.result.now c.in-Some.decision (c.executed_len.result + length c.as_slice-entries.result.now) c.in-Some-first_left.entry.now
    c.ends_before-is_behind.result c.requires (sym (c.in_ok-decision.ensures.value x s) ∙ c.in-Some.is) c.as_slice-entries.ensures (ap (λ m. m + length c.as_slice-entries.result.now) (c.executed_len.ensures x s))
    (sym (ap option_copied c.in-Some-first_left.is) ∙ c.first_left.ensures) c.ends_before-is_behind.ensures
