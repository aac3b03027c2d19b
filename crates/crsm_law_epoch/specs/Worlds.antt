-- The facts of all epochs of a world.
use Rattle.std.specs.Prelude.{◌≡◌, ℕ, List, map, slice_get, Some}
use Rattle.crsm_spec.specs.Types.{Datagram}
use Rattle.crsm_spec.specs.Log.{Log, members}
use Rattle.crsm_spec.specs.Replica.{Replica}
use Rattle.crsm_spec.specs.World.{World, Site, log_at}
use Rattle.crsm_fact_log.specs.Logs.{AllFit, Extends}
use Rattle.crsm_law_steps.specs.Happenings.{IsReached}
use Rattle.crsm_law_epoch.specs.Seats.{Seat, seat_of, Facts}
use Rattle.crsm_law_epoch.specs.Numbers.{Distinct}

-- the seat of each replica
unfoldable pub seats : World → ℕ → Seat
seats w k = seat_of (slice_get w.sites k)

-- all datagrams that were sent
unfoldable pub sent_in : World → List Datagram
sent_in w = map (λ m. m.datagram) w.packets

-- Each record of each log may follow those before it, and the members of each epoch that a log knew are distinct.
pub record IsWell (n : ℕ) (w : World) : Type 0 where
  pub fit : (k : ℕ) → AllFit k n (log_at w k)
  pub distinct : (k : ℕ) (log : Log) → Extends log (log_at w k) → Distinct (members n log)

-- Each replica that is up has its index as its number.
abbrev pub AreSeated : ℕ → World → Type 0
AreSeated n w = (k : ℕ) (r : Replica) → slice_get w.sites k ≡ Some (Site.Up r) → (r.me ≡ k) × (r.n ≡ n)

-- In every well-formed world that is reached the facts of all epochs hold: the entry in a frame was logged by its
-- sender, links keep their order, an epoch and stamp have one entry, and votes name replicas that logged.
abbrev pub EpochsHold : Type 0
EpochsHold = (n : ℕ) (w : World) → IsReached n w → IsWell n w → Facts n (seats w) (sent_in w)
