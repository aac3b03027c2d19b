use Rattle.std.proofs.Common.{◌≡◌, drop}
use Rattle.std.specs.Prelude.{◌==◌, ◌&&◌}
use Rattle.crsm_delay.proofs.Found.{value_in}
use Rattle.crsm_delay.proofs.moments.delay_of.Given as goal

abbrev pub invariant-loop-d : goal.invariant-loop-d
invariant-loop-d l =
    value_in (λ d. d.from == l.a && d.to == l.b) (λ d. d.by) (drop l.d-index l.d-items) ≡ value_in (λ d. d.from == l.a && d.to == l.b) (λ d. d.by) l.d-items
