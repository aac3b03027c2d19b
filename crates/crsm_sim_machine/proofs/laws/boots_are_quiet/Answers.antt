use Rattle.crsm_sim_machine.proofs.Boots.{boot_quiet}
use Rattle.crsm_sim_machine.proofs.laws.boots_are_quiet.Goals as goal

pub returns : goal.returns
returns c me n log = boot_quiet me n log
