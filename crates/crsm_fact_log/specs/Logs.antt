-- Relations between logs, and properties of all records of a log.
use Rattle.std.specs.Prelude.{ℕ, IsTrue, List, [], ◌∷◌}
use Rattle.std.specs.List.{AllByRecursion}
use Rattle.crsm_base.specs.Records.{FitsRec}
use Rattle.crsm_spec.specs.Types.{Entry, Rec}
use Rattle.crsm_spec.specs.Lists.{Among}
use Rattle.crsm_spec.specs.Log.{Log}
use Rattle.crsm_spec.specs.Fits.{fits}

-- new is old with records appended
pub data Extends (old : Log) : Log → Type 0 where
  same : Extends old old
  more : {new : Log} (rec : Rec) → Extends old new → Extends old (rec ∷ new)

-- the log with these records appended, in order
abbrev pub with_records : Log → List Rec → Log
with_records log [] = log
with_records log (rec ∷ recs) = with_records (rec ∷ log) recs

-- each record of the log may follow those before it
abbrev pub AllFit : ℕ → ℕ → Log → Type 0
AllFit me n [] = Unit {0}
AllFit me n (rec ∷ log) = IsTrue (fits me n log rec) × AllFit me n log

-- the log has a Prepare record of the entry
abbrev pub Logged : Log → Entry → Type 0
Logged log f = Among log (Rec.Prepare f)

-- each record of the log can be encoded
abbrev pub AreSpelt : Log → Type 0
AreSpelt log = AllByRecursion FitsRec log
