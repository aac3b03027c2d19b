-- The world: the replicas and the datagrams between them, and the effect of a step on both.
use Rattle.std.specs.Prelude.{ℕ, ◌+◌, ◌-◌, Bool, true, false, nat_le, if◌then◌else◌, List, [], ◌∷◌, ◌++◌, length, map, take, flat_map, sum_by, slice_get, slice_set}
use Rattle.std.specs.List.{enumerate_from}
use Rattle.std.specs.Option.{option_map_or}
use Rattle.crsm_base.specs.Limits.{most_world}
use Rattle.crsm_base.specs.Messages.{datagram_bytes}
use Rattle.crsm_base.specs.Records.{body_bytes}
use Rattle.crsm_spec.specs.Types.{Rec, Datagram, Line, SendKind, State}
use Rattle.crsm_spec.specs.Lists.{numbers_below}
use Rattle.crsm_spec.specs.Log.{Log, known, executed, live, active}
use Rattle.crsm_spec.specs.Replica.{Replica}
use Rattle.crsm_spec.specs.Draft.{Draft, Reply}
use Rattle.crsm_spec.specs.Step.{founding_boot}

-- A replica's site in the world: it is up, or down with the log on its disk.
pub data Site : Type 0 where
  Up : Replica → Site
  Down : Log → Site

-- A datagram between replicas. It is used once it was delivered or lost.
pub record Packet : Type 0 where
  pub from : ℕ
  pub to : ℕ
  pub datagram : Datagram
  pub used : Bool

-- A cluster that began with n replicas, and its network.
pub record World : Type 0 where
  pub n : ℕ
  pub sites : List Site  -- by replica number
  pub packets : List Packet  -- all datagrams ever sent, by number
  pub bytes : ℕ  -- of all datagrams sent and all log bodies kept

-- A change of the world, and its transcript lines.
pub record Moment : Type 0 where
  pub before : World
  pub after : World
  pub lines : List Line

-- ---- sites

-- the log of a site
unfoldable pub log_of : Site → Log
log_of (Site.Up r) = r.log
log_of (Site.Down log) = log

-- the site is up
unfoldable pub is_up : Site → Bool
is_up (Site.Up r) = true
is_up (Site.Down log) = false

-- the log of replica k, up or down
unfoldable pub log_at : World → ℕ → Log
log_at w k = option_map_or log_of (slice_get w.sites k) []

-- replica k is up
unfoldable pub is_up_at : World → ℕ → Bool
is_up_at w k = option_map_or is_up (slice_get w.sites k) false

-- the world with another site at k
unfoldable pub with_site : World → ℕ → Site → World
with_site w k s = record w { sites = slice_set w.sites k s }

-- ---- bytes

-- the encoded length of a batch in bytes
unfoldable pub body_size : List Rec → ℕ
body_size batch = length (body_bytes batch)

-- the encoded length of the datagrams in bytes
unfoldable pub packets_size : List (ℕ × Datagram) → ℕ
packets_size sends = sum_by (λ s. length (datagram_bytes s.1)) sends

-- whether the world has its maximum number of bytes
unfoldable pub is_full : World → Bool
is_full w = nat_le most_world w.bytes

-- ---- the effect of a step on the world

-- the kind of a datagram between replicas
unfoldable pub kind_of : Datagram → SendKind
kind_of (Datagram.Ack from to epoch next) = SendKind.Ack
kind_of (Datagram.Part from to boot number index count bytes) = SendKind.Part
kind_of _ = SendKind.Frame

-- the line of the i-th datagram, from k
unfoldable pub send_line : ℕ → ℕ → ℕ × Datagram → Line
send_line k i s = Line.Send i k s.0 (kind_of s.1) (datagram_bytes s.1)

-- the lines of datagrams from k, numbered from i
unfoldable pub send_lines : ℕ → ℕ → List (ℕ × Datagram) → List Line
send_lines k i sends = map (λ s. send_line k s.0 s.1) (enumerate_from i sends)

-- a new datagram from k
unfoldable pub packet_of : ℕ → ℕ × Datagram → Packet
packet_of k s = record { from = k; to = s.0; datagram = s.1; used = false }

-- The effect of a step of replica k, of which these datagrams and replies were sent.
unfoldable pub after_step : World → ℕ → Draft → Site → List (ℕ × Datagram) → List Reply → Moment
after_step w k x site sends replies =
    record {
      before = w;
      after = record {
        n = w.n;
        sites = slice_set w.sites k site;
        packets = w.packets ++ map (packet_of k) sends;
        bytes = w.bytes + body_size x.batch + packets_size sends;
      };
      lines = ((x.lines ++ x.excess) ++ send_lines k (length w.packets) sends) ++ map (λ a. a.line) replies;
    }

-- The ending of a replica's step in the world.
abbrev pub Ending : Type 0
Ending = World → ℕ → Draft → Moment

-- The ending of a whole step: all is sent, and the replica stays up.
unfoldable pub whole_step : Ending
whole_step w k x = after_step w k x (Site.Up x.replica) x.sends x.replies

-- the moment with the line of replica k's stop appended
unfoldable pub then_down : ℕ → Moment → Moment
then_down k m = record m { lines = m.lines ++ Line.Down k ∷ [] }

-- The ending of a step that stops after its batch was kept and the first `count` of its sends and replies were sent.
unfoldable pub cut_step : ℕ → Ending
cut_step count w k x =
    then_down k (after_step w k x (Site.Down x.replica.log) (take count x.sends) (take (count - length x.sends) x.replies))

-- Replica k stops; the log on its disk stays.
unfoldable pub down : World → ℕ → Moment
down w k = record { before = w; after = with_site w k (Site.Down (log_at w k)); lines = Line.Down k ∷ [] }

-- The ending of a step that stops before its batch is kept.
unfoldable pub lost_step : Ending
lost_step w k x = down w k

-- ---- the first world

-- n replicas that have booted on empty disks
unfoldable pub begin : ℕ → World
begin n =
    record {
      n = n;
      sites = map (λ k. Site.Up (founding_boot k n).replica) (numbers_below n);
      packets = [];
      bytes = sum_by (λ k. body_size (founding_boot k n).batch) (numbers_below n);
    }

-- the lines of the first boots
unfoldable pub first_lines : ℕ → List Line
first_lines n = flat_map (λ k. (founding_boot k n).lines) (numbers_below n)

-- ---- the last lines

-- the state of a site in the final lines
unfoldable pub state_of : Site → State
state_of (Site.Down log) = State.Down
state_of (Site.Up r) = if active r.log then State.Live else if live r.log then State.Held else State.Out

-- the final line of replica s.0
unfoldable pub final_line : ℕ × Site → Line
final_line s = Line.Final s.0 (state_of s.1) (known (log_of s.1)) (length (executed (log_of s.1)))

-- the final line of each replica
unfoldable pub finals : World → List Line
finals w = map final_line (enumerate_from 0 w.sites)
