-- Conversions between the errors of a log.
use Rattle.crsm_log.specs.declared.errors.ClaimError.{ClaimError}
use Rattle.crsm_log.specs.declared.errors.ClaimError.TheVariants as claim
use Rattle.crsm_log.specs.declared.errors.MountError.{MountError}
use Rattle.crsm_log.specs.declared.errors.MountError.TheVariants.{DiskFault, BadGate, NoMemory}

-- the claim error of a log that cannot be mounted
abbrev pub claim_error : MountError → ClaimError
claim_error DiskFault = claim.DiskFault
claim_error (BadGate entry) = claim.BadGate entry
claim_error NoMemory = claim.NoMemory
