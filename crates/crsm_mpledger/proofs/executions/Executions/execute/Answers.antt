use Rattle.std.proofs.Common.{◌≡◌, ◌++◌, ◌∷◌, ◌+◌, [], Some, None, refl, ap, sym, ◌∙◌}
use Rattle.crsm_base.specs.Store.{apply}
use Rattle.crsm_mpspec.specs.Values.{answer_after, apply_value}
use Rattle.crsm_mpledger.specs.declared.executions.Execution.{Execution}
use Rattle.crsm_mpledger.specs.Executed.{execution_after}
use Rattle.crsm_mpledger.proofs.LedgerLemmas.{executes}
use Rattle.crsm_mpledger.proofs.executions.Executions.execute.Goals as goal

pub returns-in_ok-push-in-None-clause-stands : goal.returns-in_ok-push-in-None-clause-stands
unfolding apply_value execution_after
returns-in_ok-push-in-None-clause-stands c values s place =
    let old = c.args.self.now in
    let noop : c.args.value.now ≡ None = sym c.in-None.ensures in
    executes old (record old { count = c.args.slot + 1; slots = c.push.new.self }) values c.args.value.now s
    (rw noop refl) (ap (λ n. n + 1) place) refl (rw noop c.in_ok-push-in-None.ensures.items)

pub returns-in_ok-push-in-Some-clause-stands : goal.returns-in_ok-push-in-Some-clause-stands
unfolding apply_value answer_after execution_after
returns-in_ok-push-in-Some-clause-stands c values s place =
    let old = c.args.self.now in
    let d = c.in-Some.command.now in
    let own : c.args.value.now ≡ Some d = sym c.in-Some.ensures in
    executes old (record old { store = c.apply.new.self; count = c.args.slot + 1; slots = c.push-in-Some.new.self }) values c.args.value.now s
    (rw own (ap (λ p. p.0) c.in_ok-answer-in-Some.ensures.done))
    (ap (λ n. n + 1) place) refl
    (rw own (c.in_ok-push-in-Some.ensures.items
    ∙ ap (λ a. old.slots.items ++ Execution.Applied d.client d.number a ∷ []) (ap (λ p. p.1) c.in_ok-answer-in-Some.ensures.done ∙ ap (λ rows. (apply rows d).1) s.store)))
