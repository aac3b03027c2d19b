use Rattle.std.proofs.Common.{◌≡◌, ℕ, take, sym, ap, ◌∙◌, arith}
use Rattle.crsm_base.specs.Store.{after, apply, answer_after}
use Rattle.crsm_spec.specs.Log.{executed}
use Rattle.crsm_ledger.proofs.ExecutedLemmas.{after-push}
use Rattle.crsm_replica_results.proofs.Replayed.{next_taken}
use Rattle.crsm_replica_results.proofs.replay.replay.Goals as goal

pub loop-before-init : goal.loop-before-init
unfolding after
loop-before-init c me n log s = c.in_ok-store.ensures

pub loop-before-preserved : goal.loop-before-preserved
loop-before-preserved c me n log s =
    let there = c.in_ok-entry.ensures.value me n log s in
    ap (λ r. r.0) c.in_ok-apply.ensures.done
    ∙ ap (λ rows. (apply rows c.in_ok-entry.entry.command).0) (c.loop-before.invariant me n log s)
    ∙ sym (after-push (take c.loop-before.before (executed log)) c.in_ok-entry.entry)
    ∙ ap after (sym (next_taken (executed log) c.loop-before.before c.in_ok-entry.entry there))

pub returns : goal.returns
unfolding answer_after
returns c me n log s =
    let most = c.loop-before.auto.before-end in
    let end = c.loop-before-test.false in
    let met : c.loop-before.before ≡ c.args.place = omega (arith, most, end) in
    record {
      entry = c.in_ok-entry-2.entry;
      there = c.in_ok-entry-2.ensures.value me n log s;
      is = ap (λ r. r.1) c.in_ok-answer.ensures.done
          ∙ ap (λ rows. (apply rows c.in_ok-entry-2.entry.command).1) (c.loop-before.invariant me n log s)
          ∙ ap (λ (k : ℕ). (apply (after (take k (executed log))) c.in_ok-entry-2.entry.command).1) met;
    }
