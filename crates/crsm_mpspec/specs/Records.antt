-- The encodings of records and of whole log bodies.
use Rattle.std.specs.Prelude.{ℕ, ◌<◌, ◌≤◌, ◌^◌, List, [], ◌∷◌, ◌++◌, length}
use Rattle.std.specs.List.{flat_map, AllByRecursion}
use Rattle.crsm_base.specs.Spelling.{Spelt, u64_bytes, ballot_bytes, FitsBallot, command_bytes, FitsCommand, option_bytes, FitsOption}
use Rattle.crsm_mpspec.specs.declared.rec.MpRec.{MpRec}

-- the kind of the record, and its fields
unfoldable pub rec_bytes : MpRec → List ℕ
rec_bytes MpRec.Boot = 1 ∷ []
rec_bytes (MpRec.Promise b) = 2 ∷ ballot_bytes b
rec_bytes (MpRec.Accept slot b v) = 3 ∷ (u64_bytes slot ++ (ballot_bytes b ++ option_bytes command_bytes v))
rec_bytes (MpRec.Choose slot v) = 4 ∷ (u64_bytes slot ++ option_bytes command_bytes v)

-- the record has an encoding
abbrev pub FitsRec : MpRec → Type 0
FitsRec MpRec.Boot = Unit {0}
FitsRec (MpRec.Promise b) = FitsBallot b
FitsRec (MpRec.Accept slot b v) = (slot < 2 ^ 64) × FitsBallot b × FitsOption FitsCommand v
FitsRec (MpRec.Choose slot v) = (slot < 2 ^ 64) × FitsOption FitsCommand v

abbrev pub SpeltRec : MpRec → List ℕ → Type 0
SpeltRec = Spelt rec_bytes FitsRec

-- ---- whole log bodies: one or more records, one after the other

unfoldable pub body_bytes : List MpRec → List ℕ
body_bytes recs = flat_map rec_bytes recs

pub record FitsBody (recs : List MpRec) : Type 0 where
  pub some : 1 ≤ length recs
  pub fit : AllByRecursion FitsRec recs

abbrev pub SpeltBody : List MpRec → List ℕ → Type 0
SpeltBody = Spelt body_bytes FitsBody
