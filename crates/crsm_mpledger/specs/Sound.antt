-- Logs that a replica may have, and their bodies.
use Rattle.std.specs.Prelude.{◌≡◌, ℕ, ◌<◌, false, List, [], ◌∷◌}
use Rattle.crsm_base.specs.Spelling.{FitsBallot, FitsCommand, FitsOption}
use Rattle.crsm_spec.specs.Clock.{u64_max}
use Rattle.crsm_mpspec.specs.declared.rec.MpRec.{MpRec}
use Rattle.crsm_mpspec.specs.Log.{Log, boots, is_chosen}
use Rattle.crsm_mpspec.specs.Records.{SpeltBody}

-- the record may follow this log: it has an encoding, its slot is not the last number, and no slot is chosen twice
abbrev pub MayFollow : Log → MpRec → Type 0
MayFollow log MpRec.Boot = Unit {0}
MayFollow log (MpRec.Promise b) = FitsBallot b
MayFollow log (MpRec.Accept slot b v) = (slot < u64_max) × FitsBallot b × FitsOption FitsCommand v
MayFollow log (MpRec.Choose slot v) = (slot < u64_max) × FitsOption FitsCommand v × (is_chosen slot log ≡ false)

-- so does each record behind those before it
abbrev pub IsSound : Log → Type 0
IsSound [] = Unit {0}
IsSound (rec ∷ log) = MayFollow log rec × IsSound log

-- the log with the records of one body more, the newest first
abbrev pub with_records : Log → List MpRec → Log
with_records log [] = log
with_records log (rec ∷ recs) = with_records (rec ∷ log) recs

-- after a log, these bodies are the encoding of the rest of another
abbrev pub AreBodies : Log → List (List ℕ) → Log → Type 0
AreBodies log [] whole = log ≡ whole
AreBodies log (body ∷ bodies) whole = (recs : List MpRec) × SpeltBody recs body × AreBodies (with_records log recs) bodies whole

-- These are the bodies of a sound log, whose boots can be counted.
pub record AreOfALog (bodies : List (List ℕ)) : Type 0 where
  pub log : Log
  pub are : AreBodies [] bodies log
  pub sound : IsSound log
  pub few : boots log < u64_max
