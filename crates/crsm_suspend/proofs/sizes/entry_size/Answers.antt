use Rattle.std.proofs.Common.{arith}
use Rattle.crsm_suspend.proofs.Lengths.{entry_long}
use Rattle.crsm_suspend.proofs.sizes.entry_size.Goals as goal

pub returns-clause-value : goal.returns-clause-value
returns-clause-value c = omega (arith, entry_long c.args.entry.now, c.op_size.ensures.value)
