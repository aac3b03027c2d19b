-- The log of a replica that stopped, and the boot on it.
use Rattle.std.specs.Prelude.{◌≡◌, ℕ, [], IsTrue, Some}
use Rattle.crsm_spec.specs.Log.{Log}
use Rattle.crsm_spec.specs.Step.{boot}
use Rattle.crsm_spec.specs.World.{body_size}
use Rattle.crsm_disk.specs.Meaning.{Meaning}
use Rattle.crsm_log.specs.Log.{Used}
use Rattle.crsm_log.specs.Words as logs
use Rattle.crsm_port_faults.specs.Plan.{Plan}
use Rattle.crsm_shell.specs.declared.again.BootedAgain.{BootedAgain}
use Rattle.crsm_shell.specs.declared.stopped.StoppedLog.{StoppedLog}
use Rattle.crsm_shell.specs.Beginning.{IsLedgerOf}
use Rattle.crsm_shell.specs.Shell.{HasLog, ShellStands}

abbrev pub disk_in : {D : Type 0} {g : _} → StoppedLog D g → D
disk_in left = logs.disk_of left.log

-- Replica me stopped with this log: the ledger is that of it, and it is on the disk, which means m.
pub record IsStoppedLog {D : Type 0} {g : _} (left : StoppedLog D g) (m : Meaning) (me n : ℕ) (log : Log) : Type 0 where
  pub ledger : IsLedgerOf left.ledger me n log
  pub file : IsTrue m.honest → HasLog me n m.seen log

-- The boot on this log is kept, by four calls of the disk, and answered.
pub record BootsAgain {D : Type 0} {g : _} (b : BootedAgain D g) (old new : Meaning) (me n : ℕ) (log : Log) : Type 0 where
  pub stands : ShellStands b.shell new (boot me n log).replica.log (boot me n log).replica []
  pub lines : b.lines ≡ (boot me n log).lines
  pub size : b.size ≡ body_size (boot me n log).batch
  pub plan : IsTrue old.honest → (p : Plan) → old.plan ≡ Some p → Used 4 p new.plan
