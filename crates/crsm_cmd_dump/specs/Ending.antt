-- The ending of a dump whose log is refused.
use Rattle.crsm_ledger.specs.declared.error.LedgerError.{LedgerError}
use Rattle.crsm_log.specs.declared.errors.ClaimError.{ClaimError}
use Rattle.crsm_log.specs.declared.errors.MountError.{MountError}
use Rattle.crsm_cmd_dump.specs.declared.ending.DumpEnd.{DumpEnd}

abbrev pub end_of : LedgerError → DumpEnd
end_of (LedgerError.BadLog entry why) = DumpEnd.BadLog entry why
end_of (LedgerError.NotFit why) = DumpEnd.NoMemory
end_of LedgerError.NoMemory = DumpEnd.NoMemory

abbrev pub end_of_claim : ClaimError → DumpEnd
end_of_claim (ClaimError.BadGate entry) = DumpEnd.BadLog entry 10
end_of_claim _ = DumpEnd.NoMemory

abbrev pub end_of_mount : MountError → DumpEnd
end_of_mount (MountError.BadGate entry) = DumpEnd.BadLog entry 10
end_of_mount _ = DumpEnd.NoMemory
