-- The messages sent on the way to a world, in the steps of one history that leads there.
use Rattle.std.proofs.Common.{ℕ}
use Rattle.std.specs.Prelude.{◌⊎◌}
use Rattle.crsm_spec.specs.Replica.{Replica}
use Rattle.crsm_spec.specs.Draft.{Draft}
use Rattle.crsm_spec.specs.Step.{Input}
use Rattle.crsm_spec.specs.World.{World, Moment}
use Rattle.crsm_fact_step.specs.Changes.{Changes, stay, and_then}
use Rattle.crsm_law_steps.specs.Happenings.{Ends, Happens, IsReached}
use Rattle.crsm_law_steps.specs.Happenings.Ends.{IsWhole, IsCut, IsLost}
use Rattle.crsm_law_steps.specs.Happenings.Happens.{Nothing, Steps, Junk, Stops, Joins, Starts}
use Rattle.crsm_law_steps.specs.Happenings.IsReached.{first, next}
use Rattle.crsm_fact_step.proofs.Fitted.{step_changes}
use Rattle.crsm_law_messages.specs.SentMessages.{SentMessage, IsSentBy}

-- some draft of these changes, but for the last, may send it
abbrev pub SendsIn : {r : Replica} {input : Input} {reading : ℕ} {x y : Draft} → Changes r input reading x y → SentMessage → Type 0
SendsIn stay s = ⊥
SendsIn {r} {input} (and_then {y = y} p c f) s = IsSentBy r input y s ⊎ SendsIn p s

-- the records of the step are kept, and it sends
abbrev pub Sends : {w : World} {k : ℕ} {x : Draft} {m : Moment} → Ends w k x m → Type 0
Sends IsWhole = Unit {0}
Sends (IsCut count) = Unit {0}
Sends IsLost = ⊥

abbrev pub SendsAt : {w : World} {m : Moment} → Happens w m → SentMessage → Type 0
SendsAt (Nothing v p) s = ⊥
SendsAt (Steps v p k r e input reading lt c m ends) s = Sends ends × SendsIn (step_changes r input reading) s
SendsAt (Junk k r e m ends) s = ⊥
SendsAt (Stops k) s = ⊥
SendsAt (Joins f) s = ⊥
SendsAt (Starts k d f) s = ⊥

-- some step of the history sent it
abbrev pub WasSentIn : {n : ℕ} {w : World} → IsReached n w → SentMessage → Type 0
WasSentIn first s = ⊥
WasSentIn (next q h) s = SendsAt h s ⊎ WasSentIn q s
