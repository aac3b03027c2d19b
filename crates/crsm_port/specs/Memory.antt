-- The model of a port in memory.
use Rattle.std.specs.Prelude.{ℕ, List, take, drop, Some, None}
use Rattle.crsm_port_faults.specs.Failing.{Failing, good_of}
use Rattle.crsm_port.specs.Meaning.{Meaning, Packet, Traffic, plain}

pub record Memory : Type 0 where
  -- the datagrams put in, the oldest first, and how many of them were received
  pub arrivals : List Packet
  pub next : ℕ
  -- the datagrams sent, the oldest first
  pub sent : List Packet
  -- the calls made, and those that fail
  pub failing : Failing
  pub faults : ℕ
  pub losses : ℕ
  pub empties : ℕ
  pub room_sends : ℕ
  pub room_bytes : ℕ

abbrev pub traffic_of : Memory → Traffic
traffic_of m = record { waiting = drop m.next m.arrivals; taken = take m.next m.arrivals; sent = m.sent }

abbrev pub meaning_of : Memory → Meaning
meaning_of m = record {
  traffic = Some (traffic_of m);
  framing = plain;
  plan = Some (record { calls = m.room_sends; bytes = m.room_bytes; good = good_of m.failing });
  faults = m.faults;
  losses = m.losses;
  empties = m.empties;
  too_long = 0;
  borrowed_as = None;
}
