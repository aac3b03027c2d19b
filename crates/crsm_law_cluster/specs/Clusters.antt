-- Running nodes: their events, and the effect of each on the log files and the network.
use Rattle.std.specs.Prelude.{ℕ, List, [], ◌∷◌, ◌++◌, map, drop, Option, None, Some, slice_get, slice_set}
use Rattle.std.specs.Option.{option_map_or}
use Rattle.crsm_spec.specs.Types.{Datagram}
use Rattle.crsm_spec.specs.Lists.{numbers_below, first_of}
use Rattle.crsm_spec.specs.Log.{Log}
use Rattle.crsm_spec.specs.Replica.{Replica}
use Rattle.crsm_spec.specs.Draft.{Draft, Reply}
use Rattle.crsm_spec.specs.Step.{boot}
use Rattle.crsm_spec.specs.Node.{Turn, turn}

-- An event at the node of replica k. An event that cannot happen there changes nothing.
pub data Event : Type 0 where
  -- its process starts on the log file that was left, and its boot is recorded
  Boots : (k : ℕ) → Event
  -- it takes a turn, whose records and sends are pending
  Takes : (k : ℕ) (turn : Turn) (reading : ℕ) → Event
  -- the records of all pending turns are written and synced together
  Keeps : (k : ℕ) → Event
  -- the next datagram or reply of kept turns is sent, or fails to be
  Sends : (k : ℕ) → Event
  Fails : (k : ℕ) → Event
  -- its process ends, and loses all that was not kept or not sent
  Stops : (k : ℕ) → Event

-- a datagram for a replica, or a reply for a client, that a node passes to its port
pub data Outgoing : Type 0 where
  ToReplica : (to : ℕ) (d : Datagram) → Outgoing
  ToClient : Reply → Outgoing

-- a process of a node
pub record Process : Type 0 where
  pub replica : Replica  -- as its last turn left it
  pub pending : List Outgoing  -- of turns that are not kept
  pub outbox : List Outgoing  -- of kept turns

-- A replica's host: its log file, and its process where one runs.
pub record Host : Type 0 where
  pub log : Log
  pub process : Option Process

-- A cluster that began with n replicas: the hosts of all numbers, and the datagrams sent to replicas.
pub record Cluster : Type 0 where
  pub n : ℕ
  pub hosts : List Host
  pub sent : List (ℕ × Datagram)  -- behind their receivers

-- a host without a log file
unfoldable pub empty_host : Host
empty_host = record { log = []; process = None }

-- a cluster before any node was started
unfoldable pub unborn : ℕ → Cluster
unborn n = record { n = n; hosts = map (λ k. empty_host) (numbers_below 15); sent = [] }

-- ---- a host

-- the datagrams and replies of a step, in order
unfoldable pub outgoing_of : Draft → List Outgoing
outgoing_of x = map (λ s. Outgoing.ToReplica s.0 s.1) x.sends ++ map Outgoing.ToClient x.replies

-- the host of a process that booted on this log, unless one runs
unfoldable pub started : ℕ → ℕ → Log → Option Process → Host
started k n log (Some x) = record { log = log; process = Some x }
started k n log None =
    let x = boot k n log in record { log = x.replica.log; process = Some (record { replica = x.replica; pending = []; outbox = outgoing_of x }) }

-- the process after a turn
unfoldable pub with_turn : Turn → ℕ → Process → Process
with_turn t reading x =
    let y = turn x.replica (t, reading) in record x { replica = y.replica; pending = x.pending ++ outgoing_of y }

-- the host after the records of pending turns were written
unfoldable pub kept : Host → Process → Host
kept p x = record { log = x.replica.log; process = Some (record x { pending = []; outbox = x.outbox ++ x.pending }) }

-- the host, changed where a process runs
unfoldable pub while_up : Host → (Process → Host) → Host
while_up p f = option_map_or f p.process p

-- the host with another process
unfoldable pub with_process : Host → Process → Host
with_process p x = record p { process = Some x }

-- the process without the first item of its outbox
unfoldable pub posted : Process → Process
posted x = record x { outbox = drop 1 x.outbox }

-- ---- a cluster

-- the host of number k
unfoldable pub host_at : Cluster → ℕ → Host
host_at c k = option_map_or (λ p. p) (slice_get c.hosts k) empty_host

-- the log in the log file of number k
unfoldable pub log_in : Cluster → ℕ → Log
log_in c k = (host_at c k).log

-- the cluster with another host at k
unfoldable pub with_host : Cluster → ℕ → Host → Cluster
with_host c k p = record c { hosts = slice_set c.hosts k p }

-- the next item to be sent at k
unfoldable pub next_out : Cluster → ℕ → Option Outgoing
next_out c k = option_map_or (λ x. first_of x.outbox) (host_at c k).process None

-- the datagram for a replica that it is, if it is one
unfoldable pub sent_of : Option Outgoing → List (ℕ × Datagram)
sent_of (Some (Outgoing.ToReplica to d)) = (to, d) ∷ []
sent_of _ = []

-- The effect of an event on a cluster.
unfoldable pub after : Cluster → Event → Cluster
after c (Event.Boots k) = let p = host_at c k in with_host c k (started k c.n p.log p.process)
after c (Event.Takes k t reading) = let p = host_at c k in with_host c k (while_up p (λ x. with_process p (with_turn t reading x)))
after c (Event.Keeps k) = let p = host_at c k in with_host c k (while_up p (kept p))
after c (Event.Sends k) =
    let p = host_at c k in
    record (with_host c k (while_up p (λ x. with_process p (posted x)))) { sent = c.sent ++ sent_of (next_out c k) }
after c (Event.Fails k) = let p = host_at c k in with_host c k (while_up p (λ x. with_process p (posted x)))
after c (Event.Stops k) = with_host c k (record (host_at c k) { process = None })
