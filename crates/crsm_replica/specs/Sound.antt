-- The soundness of every draft that a state stands for.
use Rattle.std.specs.Prelude.{◌≡◌, ℕ, ◌<◌, ◌≤◌, ◌^◌, true, Some}
use Rattle.std.specs.List.{AllByRecursion}
use Rattle.crsm_base.specs.Spelling.{FitsEntry, FitsStamp}
use Rattle.crsm_base.specs.Messages.{FitsPayload, FitsDatagram}
use Rattle.crsm_base.specs.Records.{FitsRec}
use Rattle.crsm_spec.specs.Types.{Decision, InEpoch, Datagram}
use Rattle.crsm_spec.specs.Log.{decision, executed}
use Rattle.crsm_spec.specs.Fits.{booted}
use Rattle.crsm_spec.specs.Replica.{Waiting}
use Rattle.crsm_spec.specs.Draft.{Draft, Reply}
pub use Rattle.crsm_replica_results.specs.Rising.{RisesStrictly}
pub use Rattle.crsm_replica_epoch.specs.EpochState.{EachFits}

-- a datagram to a replica has an encoding
abbrev pub FitsSend : ℕ × Datagram → Type 0
FitsSend s = (s.0 < 15) × FitsDatagram s.1

-- and so has a reply
abbrev pub FitsReply : Reply → Type 0
FitsReply a = (a.address < 2 ^ 64) × FitsDatagram (Datagram.Reply a.client a.number a.says)

abbrev pub FitsWaiting : Waiting → Type 0
FitsWaiting w = (w.address < 2 ^ 64) × FitsEntry w.entry

abbrev pub FitsPushed : ℕ × InEpoch → Type 0
FitsPushed f = (f.0 < 15) × FitsPayload f.1

-- All content of the draft has an encoding, and each of its records fitted.
pub record IsSound (x : Draft) : Type 0 where
  pub number : x.replica.me < 15
  pub some : 1 ≤ x.replica.n
  pub few : x.replica.n ≤ 15
  pub spelt : AllByRecursion FitsRec x.replica.log
  pub batch : AllByRecursion FitsRec x.batch
  pub sends : AllByRecursion FitsSend x.sends
  pub replies : AllByRecursion FitsReply x.replies
  pub waiting : AllByRecursion FitsWaiting x.replica.waiting
  pub owed : AllByRecursion FitsStamp x.replica.owed
  pub pushed : AllByRecursion FitsPushed x.replica.pushed
  pub made : x.replica.made < 2 ^ 64
  pub rises : RisesStrictly (executed x.replica.log)
  pub later : (d : Decision) → decision x.replica.log ≡ Some d → 1 ≤ d.epoch
  pub kept : EachFits x.replica.me x.replica.n x.replica.log
  pub on_record : booted x.replica.log ≡ true
  pub fitting : x.fitting ≡ true
