-- The frames that an active replica retransmits at a tick.
use Rattle.std.specs.Prelude.{◌≡◌, ℕ, ◌≤◌, ◌==◌, IsTrue, List, length, map, filter}
use Rattle.crsm_base.specs.Limits.{most_again}
use Rattle.crsm_spec.specs.Types.{InEpoch, Datagram}
use Rattle.crsm_spec.specs.Lists.{Among}
use Rattle.crsm_spec.specs.Log.{known, active}
use Rattle.crsm_spec.specs.Replica.{Replica, other_members, frames_to, acked_by, unacked}
use Rattle.crsm_spec.specs.Step.{Input, step}
use Rattle.crsm_law_epoch.specs.Numbers.{Distinct}

-- the datagrams to j
unfoldable pub sent_to : ℕ → List (ℕ × Datagram) → List Datagram
sent_to j sends = map (λ s. s.1) (filter (λ s. s.0 == j) sends)

-- a numbered frame from me to j
unfoldable pub frame_of : ℕ → ℕ → ℕ → ℕ × InEpoch → Datagram
frame_of me e j f = Datagram.Frame me j e f.0 f.1

-- At a tick an active replica sends each other member all unacknowledged frames, those of this tick included, in
-- ascending order, if at most 64 were unacknowledged before it.
abbrev pub StepsSendAgain : Type 0
StepsSendAgain =
    (r : Replica) (reading j : ℕ) → IsTrue (active r.log) → Distinct (other_members r) → Among (other_members r) j →
    length (unacked r j) ≤ most_again → acked_by r j ≤ length (frames_to r j) →
    sent_to j (step r Input.Ticked reading).sends ≡ map (frame_of r.me (known r.log) j) (unacked (step r Input.Ticked reading).replica j)
