-- What a step of an active replica must do.
use Rattle.std.specs.Prelude.{◌≡◌, ◌≢◌, ℕ, ◌+◌, ◌<◌, ◌≤◌, IsTrue, false, [], ◌∷◌, length, Some}
use Rattle.crsm_spec.specs.Types.{Stamp, Entry, Rec, InEpoch, Datagram}
use Rattle.crsm_spec.specs.Lists.{Among, has, first_of}
use Rattle.crsm_spec.specs.Clock.{u64_max}
use Rattle.crsm_spec.specs.Log.{known, active, unexecuted}
use Rattle.crsm_spec.specs.Fits.{fits}
use Rattle.crsm_spec.specs.Replica.{Replica, members_of, next_from, last_issued}
use Rattle.crsm_spec.specs.Ready.{is_ready}
use Rattle.crsm_spec.specs.Frames.{is_odd_frame}
use Rattle.crsm_spec.specs.Step.{Input, step}
use Rattle.crsm_fact_log.specs.Logs.{AllFit}

-- the record of the payload, if any, may be written
abbrev pub FitsHere : Replica → InEpoch → Type 0
FitsHere r (InEpoch.Prepare e) = IsTrue (fits r.me r.n r.log (Rec.Prepare e))
FitsHere r _ = Unit {0}

-- A valid frame with the next number is received.
abbrev pub StepsTake : Type 0
StepsTake =
    (r : Replica) (a k : ℕ) (p : InEpoch) (reading : ℕ) → IsTrue (active r.log) → k ≤ 14 → k ≢ r.me → IsTrue (has (members_of r) k) →
    is_odd_frame r k p ≡ false → FitsHere r p →
    (step r (Input.Came a (Datagram.Frame k r.me (known r.log) (next_from r k) p)) reading).replica.taken ≡ k ∷ r.taken

-- At a tick with a reading above each pending stamp, and far from 2^64, no acknowledgement stays pending.
abbrev pub StepsPay : Type 0
StepsPay =
    (r : Replica) (reading : ℕ) → IsTrue (active r.log) → ((s : Stamp) → Among r.owed s → s.time < reading) →
    last_issued r + length r.owed ≤ u64_max → reading + length r.owed ≤ u64_max → (step r Input.Ticked reading).replica.owed ≡ []

-- the first entry that is not executed is not ready
abbrev pub NoneReady : Replica → Type 0
NoneReady r = (e : Entry) → first_of (unexecuted r.log) ≡ Some e → is_ready r e.stamp ≡ false

-- After a step of an active replica nothing is ready.
abbrev pub StepsExecute : Type 0
StepsExecute =
    (r : Replica) (input : Input) (reading : ℕ) → AllFit r.me r.n r.log → IsTrue (active (step r input reading).replica.log) →
    NoneReady (step r input reading).replica
