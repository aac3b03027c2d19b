-- The world: the replicas and the messages between them, and the effect of a step on it.
use Rattle.std.specs.Prelude.{ℕ, ◌+◌, ◌-◌, Bool, true, false, nat_le, List, [], ◌∷◌, ◌++◌, length, map, take, flat_map, sum_by, slice_get, slice_set}
use Rattle.std.specs.List.{enumerate_from}
use Rattle.std.specs.Option.{option_map_or}
use Rattle.crsm_base.specs.Limits.{most_world}
use Rattle.crsm_spec.specs.Lists.{numbers_below}
use Rattle.crsm_mpspec.specs.declared.rec.MpRec.{MpRec}
use Rattle.crsm_mpspec.specs.declared.message.MpMessage.{MpMessage}
use Rattle.crsm_mpspec.specs.declared.line.MpKind.{MpKind}
use Rattle.crsm_mpspec.specs.declared.line.MpLine.{MpLine}
use Rattle.crsm_mpspec.specs.Log.{Log, executed}
use Rattle.crsm_mpspec.specs.Replica.{Replica}
use Rattle.crsm_mpspec.specs.Draft.{Draft}
use Rattle.crsm_mpspec.specs.Step.{boot}
use Rattle.crsm_mpspec.specs.Records.{body_bytes}

-- A replica's place in the world: it is up, or down with the log on its disk.
pub data Site : Type 0 where
  Up : Replica → Site
  Down : Log → Site

-- A message that was sent. It is used once it was delivered or lost.
pub record Packet : Type 0 where
  pub from : ℕ
  pub to : ℕ
  pub message : MpMessage
  pub used : Bool

-- n replicas and their network.
pub record World : Type 0 where
  pub n : ℕ
  pub sites : List Site  -- by replica number
  pub packets : List Packet  -- all messages ever sent, by number
  pub bytes : ℕ  -- of all log bodies kept

-- A change of the world, and its lines.
pub record Moment : Type 0 where
  pub before : World
  pub after : World
  pub lines : List MpLine

-- ---- sites

-- the log of a site
unfoldable pub log_of : Site → Log
log_of (Site.Up r) = r.log
log_of (Site.Down log) = log

-- the site is up
unfoldable pub is_up : Site → Bool
is_up (Site.Up r) = true
is_up (Site.Down log) = false

-- the log of replica k, up or down
unfoldable pub log_at : World → ℕ → Log
log_at w k = option_map_or log_of (slice_get w.sites k) []

-- replica k is up
unfoldable pub is_up_at : World → ℕ → Bool
is_up_at w k = option_map_or is_up (slice_get w.sites k) false

-- the world with another site at k
unfoldable pub with_site : World → ℕ → Site → World
with_site w k s = record w { sites = slice_set w.sites k s }

-- ---- bytes

-- how many bytes a batch takes on a disk
unfoldable pub body_size : List MpRec → ℕ
body_size batch = length (body_bytes batch)

-- the world has as many bytes as it may
unfoldable pub is_full : World → Bool
is_full w = nat_le most_world w.bytes

-- ---- what a step leaves in the world

-- the kind of a message
unfoldable pub kind_of : MpMessage → MpKind
kind_of (MpMessage.Prep b start) = MpKind.Prep
kind_of (MpMessage.Prom b accepted chosen) = MpKind.Prom
kind_of (MpMessage.No p) = MpKind.No
kind_of (MpMessage.Acc b slot v) = MpKind.Acc
kind_of (MpMessage.Accd b slot) = MpKind.Accd
kind_of (MpMessage.Learn slot v) = MpKind.Learn
kind_of (MpMessage.Ask start) = MpKind.Ask

-- the line of the i-th message, from k
unfoldable pub send_line : ℕ → ℕ → ℕ × MpMessage → MpLine
send_line k i s = MpLine.Send i k s.0 (kind_of s.1)

-- the lines of messages from k, numbered from i
unfoldable pub send_lines : ℕ → ℕ → List (ℕ × MpMessage) → List MpLine
send_lines k i sends = map (λ s. send_line k s.0 s.1) (enumerate_from i sends)

-- a new message from k
unfoldable pub packet_of : ℕ → ℕ × MpMessage → Packet
packet_of k s = record { from = k; to = s.0; message = s.1; used = false }

-- A step of replica k, after which these messages and replies were sent.
unfoldable pub after_step : World → ℕ → Draft → Site → List (ℕ × MpMessage) → List MpLine → Moment
after_step w k x site sends replies =
    record {
      before = w;
      after = record {
        n = w.n;
        sites = slice_set w.sites k site;
        packets = w.packets ++ map (packet_of k) sends;
        bytes = w.bytes + body_size x.batch;
      };
      lines = (x.lines ++ send_lines k (length w.packets) sends) ++ replies;
    }

-- How the step of a replica ends in the world.
abbrev pub Ending : Type 0
Ending = World → ℕ → Draft → Moment

-- A whole step: all output is sent, and the replica continues.
unfoldable pub whole_step : Ending
whole_step w k x = after_step w k x (Site.Up x.replica) x.sends x.replies

-- the moment with the line that replica k is down
unfoldable pub then_down : ℕ → Moment → Moment
then_down k m = record m { lines = m.lines ++ MpLine.Down k ∷ [] }

-- A step that stops when its batch is kept and `count` of its messages and replies are out.
unfoldable pub cut_step : ℕ → Ending
cut_step count w k x =
    then_down k (after_step w k x (Site.Down x.replica.log) (take count x.sends) (take (count - length x.sends) x.replies))

-- Replica k goes down with what is on its disk.
unfoldable pub down : World → ℕ → Moment
down w k = record { before = w; after = with_site w k (Site.Down (log_at w k)); lines = MpLine.Down k ∷ [] }

-- A step that stops before its batch is kept.
unfoldable pub lost_step : Ending
lost_step w k x = down w k

-- ---- the first world

-- the first boot of a replica, on an empty disk
unfoldable pub first_boot : ℕ → ℕ → Draft
first_boot n k = boot k n []

-- n replicas that have booted on empty disks
unfoldable pub begin : ℕ → World
begin n =
    record {
      n = n;
      sites = map (λ k. Site.Up (first_boot n k).replica) (numbers_below n);
      packets = [];
      bytes = sum_by (λ k. body_size (first_boot n k).batch) (numbers_below n);
    }

-- the lines of the first boots
unfoldable pub first_lines : ℕ → List MpLine
first_lines n = flat_map (λ k. (first_boot n k).lines) (numbers_below n)

-- ---- the last lines

-- how replica number s.0 stands at the end
unfoldable pub final_line : ℕ × Site → MpLine
final_line s = MpLine.Final s.0 (is_up s.1) (length (executed (log_of s.1)))

-- the last line of each replica
unfoldable pub finals : World → List MpLine
finals w = map final_line (enumerate_from 0 w.sites)
