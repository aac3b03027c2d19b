use Rattle.std.specs.Prelude.{take}
use Rattle.std.specs.List.{AllByRecursion}
use Rattle.crsm_mpreplica.specs.Fitting.{FitsAccepted}
use Rattle.crsm_mpcore.specs.Findings.{Found, FindingsStand, and_accepted}
use Rattle.crsm_mpcore.proofs.findings.Findings.add_all_accepted.Given as goal

abbrev pub invariant-loop-accepted : goal.invariant-loop-accepted
invariant-loop-accepted l =
    (found : Found) → FindingsStand l.initial.self found → AllByRecursion FitsAccepted l.all → FindingsStand l.self (and_accepted found (take l.accepted-index l.all))
