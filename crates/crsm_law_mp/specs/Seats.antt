-- The world as the instances of its slots need it.
use Rattle.std.specs.Prelude.{◌≡◌, ℕ, List, [], Contains, Some, slice_get, length}
use Rattle.std.specs.Option.{option_map_or}
use Rattle.crsm_spec.specs.Lists.{numbers_below}
use Rattle.crsm_mpspec.specs.declared.MpMessage.{MpMessage}
use Rattle.crsm_mpspec.specs.Log.{Log, promised, accepted_at, chosen_at}
use Rattle.crsm_mpspec.specs.Replica.{Replica, Note}
use Rattle.crsm_mpspec.specs.World.{Site, Packet, World}
use Rattle.crsm_law_mp.specs.Slots.{Seat, Slots, Past, Holds}

-- the seat of a replica with this log and phase
unfoldable pub seat_of : Log → Note → Seat
seat_of log note =
    record { promised = promised log; accepted = λ s. accepted_at s log; chosen = λ s. chosen_at s log; note = note }

-- the seat of a replica, up or down
unfoldable pub seat_in : Site → Seat
seat_in (Site.Up r) = seat_of r.log r.note
seat_in (Site.Down log) = seat_of log Note.Idle

-- the seat of replica k
unfoldable pub seat_at : World → ℕ → Seat
seat_at w k = option_map_or seat_in (slice_get w.sites k) (seat_of [] Note.Idle)

-- A world of n replicas, each at its index, that is one Paxos instance for each slot. Each message sent is one that was
-- made; those that a stop kept back were made, too.
pub record IsSound (n : ℕ) (past : Past) (w : World) : Type 0 where
  pub size : w.n ≡ n
  pub places : length w.sites ≡ n
  pub me : (k : ℕ) (r : Replica) → slice_get w.sites k ≡ Some (Site.Up r) → r.me ≡ k
  pub count : (k : ℕ) (r : Replica) → slice_get w.sites k ≡ Some (Site.Up r) → r.n ≡ n
  pub made : List (ℕ × MpMessage)
  pub sent : (p : Packet) → Contains w.packets p → Contains made (p.from, p.message)
  pub slots : Slots
  pub holds : Holds (numbers_below n) past (seat_at w) (λ k m. Contains made (k, m)) slots
