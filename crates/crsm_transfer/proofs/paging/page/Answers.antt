use Rattle.std.proofs.Common.{arith}
use Rattle.crsm_transfer.proofs.PageLemmas.{page_none, page_some}
use Rattle.crsm_transfer.proofs.paging.page.Goals as goal

pub returns-then-from-executed_len-clause-value : goal.returns-then-from-executed_len-clause-value
returns-then-from-executed_len-clause-value c = λ me n log s rise.
    let long = c.executed_len.ensures.value me n log s in
    page_none log c.args.from (omega (arith, long))

pub returns-clause-value : goal.returns-clause-value
returns-clause-value c = λ me n log s rise.
    let long = c.executed_len.ensures.value me n log s in
    page_some log c.epoch-known.result c.args.from c.in_ok-entries.entries (omega (arith, long)) (c.epoch-known.ensures.value me n log s) (c.in_ok-entries.ensures.value me n log s rise)

pub returns-clause-fits : goal.returns-clause-fits
returns-clause-fits c = (omega arith, omega arith, c.in_ok-entries.ensures.fits)
