-- Which acts are possible in a world, and the reason why another is not.
use Rattle.std.specs.Prelude.{ℕ, Bool, false, ◌==◌, ◌&&◌, not, nat_lt, nat_le, if◌then◌else◌, List, [], ◌∷◌, length, flat_map, Option, None, Some, is_some, slice_get}
use Rattle.std.specs.List.{list_all, list_any}
use Rattle.std.specs.Option.{option_map_or}
use Rattle.crsm_base.specs.MessageReading.{datagram_of}
use Rattle.crsm_spec.specs.Lists.{has}
use Rattle.crsm_spec.specs.Paxos.{majority}
use Rattle.crsm_spec.specs.Log.{spec}
use Rattle.crsm_spec.specs.World.{World, log_at, is_up_at, is_full}
use Rattle.crsm_spec.specs.Acts.{Single, Act, Bad}

-- the reason of the first condition that holds
unfoldable pub first_bad : List (Bool × Bad) → Option Bad
first_bad [] = None
first_bad (c ∷ cs) = if c.0 then Some c.1 else first_bad cs

-- ---- tests

-- whether k is the number of no replica
unfoldable pub is_none_of : World → ℕ → Bool
is_none_of w k = nat_le (length w.sites) k

-- whether k is the next new replica number
unfoldable pub is_next_new : World → ℕ → Bool
is_next_new w k = k == length w.sites && nat_lt k 15

-- replica k is down
unfoldable pub is_down_at : World → ℕ → Bool
is_down_at w k = not (is_up_at w k)

-- whether no datagram has number i
unfoldable pub is_not_sent : World → ℕ → Bool
is_not_sent w i = nat_le (length w.packets) i

-- the receiver of datagram i is down
unfoldable pub is_receiver_down : World → ℕ → Bool
is_receiver_down w i = option_map_or (λ m. is_down_at w m.to) (slice_get w.packets i) false

-- whether datagram i was delivered or lost
unfoldable pub is_used : World → ℕ → Bool
is_used w i = option_map_or (λ m. m.used) (slice_get w.packets i) false

-- whether the members are in this Spec and fewer than a majority of it
unfoldable pub are_too_few : List ℕ → List ℕ → Bool
are_too_few spec ms = list_all (has spec) ms && nat_lt (length ms) (majority (length spec))

-- the receivers of these datagrams
unfoldable pub receivers : World → List ℕ → List ℕ
receivers w is = flat_map (λ i. option_map_or (λ m. m.to ∷ []) (slice_get w.packets i) []) is

-- whether the numbers differ
unfoldable pub are_mixed : List ℕ → Bool
are_mixed [] = false
are_mixed (k ∷ ks) = list_any (λ j. not (j == k)) ks

-- ---- the causes, in order

-- the conditions under which no step at k is possible: k is no replica, or is down
unfoldable pub causes_at : World → ℕ → List (Bool × Bad)
causes_at w k = (is_none_of w k, Bad.NoSuchReplica) ∷ (is_down_at w k, Bad.IsDown) ∷ []

-- the conditions under which an act of one step is not possible
unfoldable pub causes_of_single : World → Single → List (Bool × Bad)
causes_of_single w (Single.Request k t c) = causes_at w k
causes_of_single w (Single.Go i t) =
    (is_not_sent w i, Bad.NoSuchDatagram) ∷ (is_used w i, Bad.Used) ∷ (is_receiver_down w i, Bad.IsDown) ∷ []
causes_of_single w (Single.Again i t) =
    (is_not_sent w i, Bad.NoSuchDatagram) ∷ (not (is_used w i), Bad.Fresh) ∷ (is_receiver_down w i, Bad.IsDown) ∷ []
causes_of_single w (Single.Tick k t) = causes_at w k
causes_of_single w (Single.Suspect k t ms) =
    (list_any (is_none_of w) (k ∷ ms), Bad.NoSuchReplica) ∷ (is_down_at w k, Bad.IsDown)
    ∷ (are_too_few (spec w.n (log_at w k)) ms, Bad.TooFew) ∷ []
causes_of_single w (Single.Junk k t bytes) =
    (is_none_of w k, Bad.NoSuchReplica) ∷ (is_down_at w k, Bad.IsDown) ∷ (is_some (datagram_of bytes), Bad.Forged) ∷ []

-- the conditions under which a batch of deliveries is not possible
unfoldable pub causes_of_batch : World → List ℕ → List (Bool × Bad)
causes_of_batch w is =
    (list_any (is_not_sent w) is, Bad.NoSuchDatagram) ∷ (list_any (is_used w) is, Bad.Used)
    ∷ (are_mixed (receivers w is), Bad.Mixed) ∷ (list_any (is_receiver_down w) is, Bad.IsDown) ∷ []

-- the conditions under which an act is not possible
unfoldable pub causes_of : World → Act → List (Bool × Bad)
causes_of w (Act.One s) = causes_of_single w s
causes_of w (Act.Lose i) = (is_not_sent w i, Bad.NoSuchDatagram) ∷ (is_used w i, Bad.Used) ∷ []
causes_of w (Act.Crash k) = causes_at w k
causes_of w (Act.Start k) =
    (is_none_of w k && not (is_next_new w k), Bad.NoSuchReplica) ∷ (is_up_at w k, Bad.IsUp) ∷ []
causes_of w (Act.Settle t) = []
causes_of w (Act.CutLost s) = causes_of_single w s
causes_of w (Act.CutKept count s) = causes_of_single w s
causes_of w (Act.Batch t is) = causes_of_batch w is
causes_of w (Act.CutLostBatch t is) = causes_of_batch w is
causes_of w (Act.CutAt calls fill s) = causes_of_single w s

-- The first reason why an act is not possible here; None if it is possible.
unfoldable pub possible : World → Act → Option Bad
possible w a = first_bad ((is_full w, Bad.Full w.bytes) ∷ causes_of w a)
