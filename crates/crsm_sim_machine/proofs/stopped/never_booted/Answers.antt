use Rattle.std.proofs.Common.{[], refl, sym, subst}
use Rattle.crsm_sim_machine.specs.States.{IsDisk}
use Rattle.crsm_sim_machine.proofs.Disks.{nothing_told}
use Rattle.crsm_sim_machine.proofs.stopped.never_booted.Goals as goal

pub returns : goal.returns
returns c me n = record {
  left = subst (λ d. IsDisk me n d []) (sym c.in_ok-new.ensures) (record { holds = c.empty_files_have_empty_logs.ensures me n; well = refl });
  summary = nothing_told;
}
