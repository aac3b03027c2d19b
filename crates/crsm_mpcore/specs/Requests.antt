-- The commands that are accepted, and their slots.
use Rattle.std.specs.Prelude.{◌≡◌, ℕ, ◌<◌, true, List}
use Rattle.crsm_base.specs.Order.{ballot_eq}
use Rattle.crsm_base.specs.Spelling.{FitsBallot}
use Rattle.crsm_spec.specs.Clock.{u64_max}
use Rattle.crsm_mpspec.specs.Types.{Ballot}
use Rattle.crsm_mpspec.specs.Log.{promised}
use Rattle.crsm_mpspec.specs.Replica.{Note, Report}
use Rattle.crsm_mpspec.specs.Draft.{Draft}
use Rattle.crsm_mpcore.specs.declared.requests.MpRefusal.{MpRefusal}

-- the number that stands for a refusal in a reply
abbrev pub refusal_code : MpRefusal → ℕ
refusal_code MpRefusal.NotLeading = 1
refusal_code MpRefusal.NoSlotLeft = 5

-- The replica leads in this ballot, which it has promised, and the next command goes to this slot, which is not the
-- last number.
pub record IsNext (b : Ballot) (slot : ℕ) (x : Draft) : Type 0 where
  pub start : ℕ
  pub reports : List Report
  pub votes : List (ℕ × ℕ)
  pub leads : x.replica.note ≡ Note.Leading b start slot reports votes
  pub promised : ballot_eq b (promised x.replica.log) ≡ true
  pub below : slot < u64_max
  pub fits : FitsBallot b
