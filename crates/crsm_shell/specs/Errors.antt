-- The errors that others become, and which are permanent.
use Rattle.std.specs.Prelude.{Bool, true, false}
use Rattle.crsm_shell.specs.declared.errors.TurnError.{TurnError}
use Rattle.crsm_shell.specs.declared.errors.TurnError.TheVariants as errors
use Rattle.crsm_shell.specs.declared.errors.BootError.{BootError}
use Rattle.crsm_shell.specs.declared.errors.BootError.TheVariants as boots
use Rattle.crsm_log.specs.declared.errors.MountError.{MountError}
use Rattle.crsm_log.specs.declared.errors.MountError.TheVariants as mount
use Rattle.crsm_log.specs.declared.errors.PutError.{PutError}
use Rattle.crsm_log.specs.declared.errors.PutError.TheVariants as put
use Rattle.crsm_replica_io.specs.declared.input.TakeError.{TakeError}
use Rattle.crsm_replica_io.specs.declared.input.TakeError.TheVariants as take

-- the error of a failed mount
abbrev pub mount_failure : MountError → BootError
mount_failure mount.DiskFault = boots.DiskFault
mount_failure (mount.BadGate entry) = boots.BadLog entry 10
mount_failure mount.NoMemory = boots.NoMemory

-- the error of a boot that is not durable
abbrev pub keep_failure : TurnError → BootError
keep_failure errors.DiskFault = boots.DiskFault
keep_failure errors.LogFull = boots.LogFull
keep_failure errors.PortFault = boots.NoMemory
keep_failure errors.Failed = boots.NoMemory
keep_failure errors.NoMemory = boots.NoMemory

-- the error of a failed input
abbrev pub take_failure : TakeError → TurnError
take_failure take.PortFault = errors.PortFault

-- the error of a failed put
abbrev pub put_failure : PutError → TurnError
put_failure put.DiskFault = errors.DiskFault
put_failure put.Failed = errors.Failed
put_failure (put.Full end) = errors.LogFull
put_failure put.NoMemory = errors.NoMemory

-- the shell fails with it
abbrev pub is_lasting : TurnError → Bool
is_lasting errors.PortFault = false
is_lasting errors.DiskFault = true
is_lasting errors.LogFull = true
is_lasting errors.Failed = true
is_lasting errors.NoMemory = true
