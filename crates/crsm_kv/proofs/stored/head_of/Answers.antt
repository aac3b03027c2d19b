use Rattle.std.proofs.Common.{arith}
use Rattle.crsm_kv.proofs.StoredLemmas.{spelled}
use Rattle.crsm_kv.proofs.stored.head_of.Goals as goal

pub returns-clause-head : goal.returns-clause-head
returns-clause-head c =
    omega (arith, c.four_at.ensures.value, c.four_at.ensures.small, c.four_at-2.ensures.value, spelled c.args.bytes.now)
