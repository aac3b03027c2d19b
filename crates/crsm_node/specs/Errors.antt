-- Which errors come of others.
use Rattle.crsm_shell.specs.declared.errors.TurnError.{TurnError}
use Rattle.crsm_shell.specs.declared.errors.TurnError.TheVariants as turns
use Rattle.crsm_shell.specs.declared.errors.BootError.{BootError}
use Rattle.crsm_shell.specs.declared.errors.BootError.TheVariants as boots
use Rattle.crsm_log.specs.declared.errors.ClaimError.{ClaimError}
use Rattle.crsm_log.specs.declared.errors.ClaimError.TheVariants as claims
use Rattle.crsm_node.specs.declared.errors.NodeEnd.{NodeEnd}
use Rattle.crsm_node.specs.declared.errors.NodeEnd.TheVariants as ends
use Rattle.crsm_node.specs.declared.errors.NodeError.{NodeError}
use Rattle.crsm_node.specs.declared.errors.NodeError.TheVariants as errors

-- the error of a failed take or flush
abbrev pub turn_failure : TurnError → NodeError
turn_failure turns.PortFault = errors.PortFault
turn_failure turns.DiskFault = errors.DiskFault
turn_failure turns.LogFull = errors.LogFull
turn_failure turns.Failed = errors.Failed
turn_failure turns.NoMemory = errors.NoMemory

-- how a node ends whose log is not claimed
abbrev pub claim_end : ClaimError → NodeEnd
claim_end claims.DiskFault = ends.DiskFault
claim_end (claims.BadGate entry) = ends.BadLog entry 10
claim_end (claims.OtherCluster found) = ends.OtherCluster found
claim_end (claims.Full end) = ends.LogFull
claim_end claims.NoMemory = ends.NoMemory

-- how one ends that is not booted
abbrev pub boot_end : BootError → NodeEnd
boot_end boots.DiskFault = ends.DiskFault
boot_end boots.LogFull = ends.LogFull
boot_end (boots.BadLog entry why) = ends.BadLog entry why
boot_end boots.NoMemory = ends.NoMemory

-- how one ends that stops before its last turn; a shell that was booted has not failed before
abbrev pub serve_end : NodeError → NodeEnd
serve_end errors.PortFault = ends.PortFault
serve_end errors.DiskFault = ends.DiskFault
serve_end errors.LogFull = ends.LogFull
serve_end errors.WriteFault = ends.WriteFault
serve_end errors.Failed = ends.NoMemory
serve_end errors.NoMemory = ends.NoMemory
