use Rattle.std.specs.Prelude.{take}
use Rattle.std.specs.List.{AllByRecursion}
use Rattle.crsm_mpreplica.specs.Fitting.{FitsChosen}
use Rattle.crsm_mpcore.specs.Findings.{Found, FindingsStand, and_chosen}
use Rattle.crsm_mpcore.proofs.findings.Findings.add_all_chosen.Given as goal

abbrev pub invariant-loop-chosen : goal.invariant-loop-chosen
invariant-loop-chosen l =
    (found : Found) → FindingsStand l.initial.self found → AllByRecursion FitsChosen l.all → FindingsStand l.self (and_chosen found (take l.chosen-index l.all))
