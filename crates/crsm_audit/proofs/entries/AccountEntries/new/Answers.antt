use Rattle.std.proofs.Common.{refl}
use Rattle.crsm_audit.specs.Entries.{bodies_at}
use Rattle.crsm_audit.proofs.entries.AccountEntries.new.Goals as goal

pub returns : goal.returns
unfolding bodies_at
returns c = rw (c.new-2.ensures.items, c.new-3.ensures.items) refl
