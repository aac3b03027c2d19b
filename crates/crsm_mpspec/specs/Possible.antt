-- The acts that are possible in a world, and the reason why another is not.
use Rattle.std.specs.Prelude.{ℕ, Bool, true, false, not, nat_lt, nat_le, List, [], ◌∷◌, length, Option, Some, slice_get}
use Rattle.std.specs.List.{list_any}
use Rattle.std.specs.Option.{option_map_or, option_map}
use Rattle.crsm_spec.specs.Choice.{when◌then◌otherwise◌}
use Rattle.crsm_spec.specs.Paxos.{majority}
use Rattle.crsm_spec.specs.Acts.{Single, Act, Bad}
use Rattle.crsm_spec.specs.Possible.{first_bad}
use Rattle.crsm_mpspec.specs.World.{World, is_up_at, is_full}

-- Why an act is not possible: it has no meaning here, or for a cause that it may have in every world.
pub data Cause : Type 0 where
  NotHere : Cause
  Met : Bad → Cause

-- ---- acts that have no meaning here

unfoldable pub is_junk : Single → Bool
is_junk (Single.Junk k t bytes) = true
is_junk _ = false

-- bytes from nowhere, deliveries that are kept together, and stops at a call of the device
unfoldable pub is_not_here : Act → Bool
is_not_here (Act.One s) = is_junk s
is_not_here (Act.CutLost s) = is_junk s
is_not_here (Act.CutKept count s) = is_junk s
is_not_here (Act.Batch t is) = true
is_not_here (Act.CutLostBatch t is) = true
is_not_here (Act.CutAt calls fill s) = true
is_not_here _ = false

-- ---- tests

-- k is no replica
unfoldable pub is_none_of : World → ℕ → Bool
is_none_of w k = nat_le (length w.sites) k

-- replica k is down
unfoldable pub is_down_at : World → ℕ → Bool
is_down_at w k = not (is_up_at w k)

-- message i was not sent
unfoldable pub is_not_sent : World → ℕ → Bool
is_not_sent w i = nat_le (length w.packets) i

-- the receiver of message i is down
unfoldable pub is_receiver_down : World → ℕ → Bool
is_receiver_down w i = option_map_or (λ m. is_down_at w m.to) (slice_get w.packets i) false

-- message i was delivered or lost
unfoldable pub is_used : World → ℕ → Bool
is_used w i = option_map_or (λ m. m.used) (slice_get w.packets i) false

-- ---- the causes, in order

-- replica k is there and up
unfoldable pub causes_at : World → ℕ → List (Bool × Bad)
causes_at w k = (is_none_of w k, Bad.NoSuchReplica) ∷ (is_down_at w k, Bad.IsDown) ∷ []

-- the causes that an act of one step may meet
unfoldable pub causes_of_single : World → Single → List (Bool × Bad)
causes_of_single w (Single.Request k t c) = causes_at w k
causes_of_single w (Single.Go i t) =
    (is_not_sent w i, Bad.NoSuchDatagram) ∷ (is_used w i, Bad.Used) ∷ (is_receiver_down w i, Bad.IsDown) ∷ []
causes_of_single w (Single.Again i t) =
    (is_not_sent w i, Bad.NoSuchDatagram) ∷ (not (is_used w i), Bad.Fresh) ∷ (is_receiver_down w i, Bad.IsDown) ∷ []
causes_of_single w (Single.Tick k t) = causes_at w k
causes_of_single w (Single.Suspect k t ms) =
    (list_any (is_none_of w) (k ∷ ms), Bad.NoSuchReplica) ∷ (is_down_at w k, Bad.IsDown)
    ∷ (nat_lt (length ms) (majority w.n), Bad.TooFew) ∷ []
causes_of_single w (Single.Junk k t bytes) = []

-- the causes that an act may meet
unfoldable pub causes_of : World → Act → List (Bool × Bad)
causes_of w (Act.One s) = causes_of_single w s
causes_of w (Act.Lose i) = (is_not_sent w i, Bad.NoSuchDatagram) ∷ (is_used w i, Bad.Used) ∷ []
causes_of w (Act.Crash k) = causes_at w k
causes_of w (Act.Start k) = (is_none_of w k, Bad.NoSuchReplica) ∷ (is_up_at w k, Bad.IsUp) ∷ []
causes_of w (Act.CutLost s) = causes_of_single w s
causes_of w (Act.CutKept count s) = causes_of_single w s
causes_of w _ = []

-- Why an act is not possible here: the first cause, and none where it is possible.
unfoldable pub possible : World → Act → Option Cause
possible w a =
    when is_not_here a then Some Cause.NotHere
    otherwise option_map (λ why. Cause.Met why) (first_bad ((is_full w, Bad.Full w.bytes) ∷ causes_of w a))
