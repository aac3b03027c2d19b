use Rattle.std.proofs.Common.{◌∙◌, ◌+◌, sym, ap, true, add-zero}
use Rattle.std.specs.Option.{option_map_or, option_copied}
use Rattle.std.proofs.lemmas.Result.{IfOk-weaker}
use Rattle.crsm_base.specs.Order.{entry_lt}
use Rattle.crsm_spec.specs.Log.{executed}
use Rattle.crsm_replica_reconfigure.proofs.TailLemmas.{none_left, some_left, last_got}
use Rattle.crsm_replica_reconfigure.proofs.tails.tail_goes_on.Goals as goal

pub returns-in_default : goal.returns-in_default
returns-in_default c = λ x s. none_left c.args.decision.now (executed x.replica.log) (c.executed_len.result + 0) (add-zero c.executed_len.result ∙ c.executed_len.ensures x s) (sym (ap option_copied c.in_default.is) ∙ c.first_left.ensures)

pub returns : goal.returns
returns c =
    IfOk-weaker c.stands_behind.result _ _ (λ is_behind made x s.
    some_left c.args.decision.now (executed x.replica.log) (c.executed_len.result + 0) c.in-Some.entry.now is_behind (add-zero c.executed_len.result ∙ c.executed_len.ensures x s) (sym (ap option_copied c.in-Some.is) ∙ c.first_left.ensures)
    (made x.replica.me x.replica.n x.replica.log (c.ledger.ensures.stands x s) ∙ ap (λ o. option_map_or (λ f. entry_lt f c.in-Some.entry.now) o true) (sym (last_got (executed x.replica.log))))) c.stands_behind.ensures
