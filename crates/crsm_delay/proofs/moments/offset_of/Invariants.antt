use Rattle.std.proofs.Common.{◌≡◌, drop}
use Rattle.std.specs.Prelude.{◌==◌}
use Rattle.crsm_delay.proofs.Found.{value_in}
use Rattle.crsm_delay.proofs.moments.offset_of.Given as goal

abbrev pub invariant-loop-o : goal.invariant-loop-o
invariant-loop-o l = value_in (λ o. o.replica == l.k) (λ o. o.by) (drop l.o-index l.o-items) ≡ value_in (λ o. o.replica == l.k) (λ o. o.by) l.o-items
