-- The fields of a log, for contracts of the crates above.
use Rattle.std.specs.Prelude.{Bool, ℕ}
use Rattle.crsm_log.specs.declared.log.Log.{Log}

abbrev pub disk_of : {D : Type 0} {g : _} → Log D g → D
disk_of log = log.disk

-- the offset of the closed gate
abbrev pub gate_of : {D : Type 0} {g : _} → Log D g → ℕ
gate_of log = log.end

abbrev pub has_failed : {D : Type 0} {g : _} → Log D g → Bool
has_failed log = log.failed
