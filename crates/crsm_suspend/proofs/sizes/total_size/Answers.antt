use Rattle.std.proofs.Common.{◌∙◌, ◌+◌, ap, sym, arith}
use Rattle.crsm_suspend.proofs.Lengths.{no_size, size_more}
use Rattle.crsm_suspend.proofs.sizes.total_size.Goals as goal

pub loop-entry-init : goal.loop-entry-init
loop-entry-init c = record { sum = sym no_size; bound = omega arith }

pub loop-entry-preserved : goal.loop-entry-preserved
loop-entry-preserved c = record {
  sum = ap (λ n. n + c.entry_size-total.result) c.loop-entry.invariant.sum
      ∙ sym (size_more c.args.entries.now c.loop-entry.entry-index c.entry-item.result c.entry_size-total.result (omega arith) (cc) c.entry_size-total.ensures.value);
  bound = omega arith;
}
