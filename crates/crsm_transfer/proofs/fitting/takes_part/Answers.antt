use Rattle.std.proofs.Common.{◌≡◌, true, false}
use Rattle.crsm_spec.specs.Log.{suspended}
use Rattle.crsm_transfer.proofs.NewLemmas.{held, not_held}
use Rattle.crsm_transfer.proofs.fitting.takes_part.Goals as goal

pub returns-then-suspended : goal.returns-then-suspended
returns-then-suspended c = λ me n log s.
    let h : suspended log ≡ true = cc (c.suspended.ensures me n log s) in
    held log h

pub returns : goal.returns
returns c = λ me n log s.
    let h : suspended log ≡ false = cc (c.suspended.ensures me n log s) in
    not_held log c.live.result h (c.live.ensures me n log s)
