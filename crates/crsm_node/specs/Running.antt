-- The effects of a node from its start to its end.
use Rattle.std.specs.Prelude.{◌≡◌, ◌≢◌, ◌⊎◌, ℕ, ◌+◌, ◌<◌, ◌≤◌, List, [], ◌∷◌, ◌++◌, length, map, take, true, IsTrue, Option, Some, None, Result, Ok, Err}
use Rattle.crsm_base.specs.declared.limits.TheConstants.{MAX_LOG_BYTES}
use Rattle.crsm_port_faults.specs.Counts.{Rose}
use Rattle.crsm_spec.specs.Log.{Log}
use Rattle.crsm_spec.specs.Replica.{Replica}
use Rattle.crsm_spec.specs.Step.{boot}
use Rattle.crsm_spec_process.specs.Groups.{AreGroups}
use Rattle.crsm_spec_process.specs.Lives.{HaveFates, Life, kept_turns}
use Rattle.crsm_clock.specs.Readings.{Readings}
use Rattle.crsm_io.specs.Streams.{Puts, PutsPrefix}
use Rattle.crsm_text_sheet.specs.Sheets.{entry_line, sheet_of, sheet_text}
use Rattle.crsm_disk.specs.Meaning.{LeavesOnly, Meaning as DiskMeaning}
use Rattle.crsm_ledger.specs.Recovered.{AreKept}
use Rattle.crsm_log.specs.Claim.{IsOpenTo, claimed}
use Rattle.crsm_log.specs.Format.{cluster_of, found, gate_in, reading}
use Rattle.crsm_log.specs.Log.{Goes}
use Rattle.crsm_port.specs.Cluster.{clustered, over}
use Rattle.crsm_port.specs.Meaning.{Framing, Meaning as PortMeaning}
use Rattle.crsm_replica_detector.specs.Watching.{unwatched}
use Rattle.crsm_spec_process.specs.Turns.{replica_after}
use Rattle.crsm_replica_detector.specs.declared.detector.Detector.{Detector}
use Rattle.crsm_shell.specs.Booting.{HasBoot, HasFullLog, IsBadLog, ReadsAsBefore, boot_body}
use Rattle.crsm_shell.specs.Shell.{HasLog}
use Rattle.crsm_shell.specs.declared.shell.Shell.{Shell}
use Rattle.crsm_node.specs.Devices.{node_of}
use Rattle.crsm_node.specs.Errors.{serve_end}
use Rattle.crsm_node.specs.Kept.{HasBehind, IsLeftOf, PutInTurn, bodies_in_log}
use Rattle.crsm_node.specs.Order.{peers_in}
use Rattle.crsm_node.specs.Sent.{AreAddressed, sends_from}
use Rattle.crsm_node.specs.Serving.{Carries, IsLeftAtEnd, Serves, StopsAt, Takes, maybe_kept, turns_by_group, with_lost}
use Rattle.crsm_node.specs.declared.errors.NodeEnd.{NodeEnd}
use Rattle.crsm_node.specs.declared.errors.NodeEnd.TheVariants as ends
use Rattle.crsm_node.specs.declared.errors.NodeError.{NodeError}
use Rattle.crsm_node.specs.declared.errors.NodeError.TheVariants as errors
use Rattle.crsm_node.specs.declared.order.NodeOrder.{NodeOrder}

-- the devices of a node
pub record Devices : Type 1 where
  pub disk : DiskMeaning
  pub port : PortMeaning
  pub clock : Option Readings
  pub sheet : Option (List ℕ)
  pub faults : ℕ

-- a device, whoever lends it
abbrev pub unlent_disk : DiskMeaning → DiskMeaning
unlent_disk m = record m { borrowed_as = None }

abbrev pub unlent_port : PortMeaning → PortMeaning
unlent_port m = record m { borrowed_as = None }

-- the lines of so many of these bodies, from the first on
abbrev pub entries_text : List (List ℕ) → ℕ → List ℕ
entries_text bodies count = sheet_text (map entry_line (take count bodies))

-- the first lines of a sheet
abbrev pub opening_text : List (List ℕ) → List ℕ
opening_text bodies = sheet_text (sheet_of bodies [])

-- ---- the turns behind a boot

-- the first lines are not all written
pub record FailsToOpen (bodies : List (List ℕ)) (had has : Option (List ℕ)) (faults more : ℕ) (result : Result (Unit {0}) NodeError) : Type 0 where
  pub wrote : PutsPrefix had has (opening_text bodies)
  pub why : ((result ≡ Err errors.WriteFault) × Rose faults more) ⊎ (result ≡ Err errors.NoMemory)

-- Once the first lines are written, the node serves; nothing is touched where they are not.
pub record ServesOpened {C P D O : Type 0} {g : _} (disk : D → DiskMeaning) (port : P → PortMeaning) (clock : C → Option Readings) (written : O → Option (List ℕ)) (faults : O → ℕ)
    (s s' : Shell D g) (p p' : P) (c c' : C) (o o' : O) (bodies : List (List ℕ)) (r : Replica) (turns : ℕ) (result : Result (Unit {0}) NodeError) : Type 0 where
  pub before : Detector
  pub after : Detector
  pub between : O
  pub opened : Puts (written o) (written between) (opening_text bodies)
  pub later : faults o ≤ faults between
  pub serves : Serves r unwatched turns (node_of disk port clock written faults s before p c between) (node_of disk port clock written faults s' after p' c' o') result

abbrev pub RunsShell : {C P D O : Type 0} {g : _} → (D → DiskMeaning) → (P → PortMeaning) → (C → Option Readings) → (O → Option (List ℕ)) → (O → ℕ) →
    (s s' : Shell D g) → (p p' : P) → (c c' : C) → (o o' : O) → List (List ℕ) → Replica → ℕ → Result (Unit {0}) NodeError → Type 0
RunsShell disk port clock written faults s s' p p' c c' o o' bodies r turns result =
    ServesOpened disk port clock written faults s s' p p' c c' o o' bodies r turns result
    ⊎ (FailsToOpen bodies (written o) (written o') (faults o) (faults o') result × (s' ≡ s) × (port p' ≡ port p) × (clock c' ≡ clock c))

-- ---- a node that is not booted

-- The log is claimed, and then the boot is full for it, or its cluster's entry already is.
abbrev pub IsFullAtStart : NodeOrder → List ℕ → Type 0
IsFullAtStart order file =
    ((cluster_of file ≡ None) × (order.cluster ≢ 0) × (MAX_LOG_BYTES < gate_in file + 14))
    ⊎ ((later : List ℕ) × (reading later ≡ reading file) × (cluster_of later ≡ claimed (cluster_of file) order.cluster) × HasFullLog order.me order.n later)

-- why not
abbrev pub StaysOut : NodeOrder → DiskMeaning → DiskMeaning → NodeEnd → Type 0
StaysOut order old new ends.DiskFault = Rose old.faults new.faults
StaysOut order old new (ends.BadLog entry why) = IsTrue old.honest → IsBadLog order.me order.n old.seen entry why
StaysOut order old new (ends.OtherCluster other) = IsTrue old.honest → (cluster_of old.seen ≡ Some other) × (other ≢ order.cluster)
StaysOut order old new ends.LogFull = IsTrue old.honest → IsFullAtStart order old.seen
StaysOut order old new ends.NoMemory = Unit {0}
StaysOut order old new ends.Done = ⊥
StaysOut order old new ends.PortFault = ⊥
StaysOut order old new ends.WriteFault = ⊥

-- what a crash could leave before, or the bodies of before, or these followed by a boot on their log
abbrev pub IsLeftAtStart : NodeOrder → DiskMeaning → List ℕ → Type 0
IsLeftAtStart order old file =
    ReadsAsBefore old file ⊎ ((claimed_file : List ℕ) × (reading claimed_file ≡ reading old.seen) × HasBoot order.me order.n claimed_file file)

-- Nothing is received, sent or written.
pub record NotBooted (order : NodeOrder) (old new : Devices) (end : NodeEnd) : Type 0 where
  pub out : StaysOut order old.disk new.disk end
  pub port : new.port ≡ old.port
  pub clock : new.clock ≡ old.clock
  pub sheet : new.sheet ≡ old.sheet
  pub goes : Goes old.disk new.disk
  pub stays : IsTrue old.disk.honest → (end ≡ ends.DiskFault → ⊥) → reading new.disk.seen ≡ reading old.disk.seen
  pub any_moment : IsTrue old.disk.honest → LeavesOnly old.disk new.disk (IsLeftAtStart order old.disk)

-- ---- a node that is booted

-- the replica after the boot
abbrev pub booted : NodeOrder → Log → Replica
booted order log = (boot order.me order.n log).replica

-- how a node ends that served so
abbrev pub end_of : Result (Unit {0}) NodeError → NodeEnd
end_of (Ok _) = ends.Done
end_of (Err why) = serve_end why

-- what a crash leaves: what it could leave before, or the bodies that were found, followed by a prefix of the life's
abbrev pub IsLeftInLife : NodeOrder → Life → DiskMeaning → Result (Unit {0}) NodeError → List ℕ → Type 0
IsLeftInLife order life old result file =
    ReadsAsBefore old file ⊎ IsLeftOf old.seen (boot_body order.me order.n life.found ∷ bodies_in_log (booted order life.found) (maybe_kept life.groups life.lost result)) file

-- The content of the disk: the bodies that were found, followed by the boot's, and then one for each group that has a
-- record, each put while the log, which was claimed before, was not full; and a crash at any moment leaves a prefix of
-- these. Nothing of a group was sent before it was synced: a crash at the end leaves all groups whose output was. The log
-- is that of the life.
pub record KeepsLife (order : NodeOrder) (life : Life) (old new : DiskMeaning) (result : Result (Unit {0}) NodeError) : Type 0 where
  pub claimed_file : List ℕ
  pub file : List ℕ
  pub claims : reading claimed_file ≡ reading old.seen
  pub put : PutInTurn (boot_body order.me order.n life.found ∷ bodies_in_log (booted order life.found) (turns_by_group life.groups)) claimed_file file
  pub bodies : HasBehind old.seen (boot_body order.me order.n life.found ∷ bodies_in_log (booted order life.found) (turns_by_group life.groups)) file
  pub is : (result ≡ Err errors.DiskFault → ⊥) → new.seen ≡ file
  pub log : HasLog order.me order.n file (replica_after (booted order life.found) (kept_turns life.groups)).log
  pub stops : StopsAt (replica_after (booted order life.found) (kept_turns life.groups)) life.lost file result
  pub synced : (c : List ℕ) → new.may_leave c → IsLeftAtEnd old.seen (boot_body order.me order.n life.found ∷ bodies_in_log (booted order life.found) (turns_by_group life.groups))
      (replica_after (booted order life.found) (kept_turns life.groups)) life.lost result c
  pub any_moment : LeavesOnly old new (IsLeftInLife order life old result)

-- the sheet, or a prefix of it where it failed, or memory ran out before the first turn
abbrev pub WritesLife : List (List ℕ) → Life → Option (List ℕ) → Option (List ℕ) → Result (Unit {0}) NodeError → Type 0
WritesLife bodies life had has (Ok _) = Puts had has (sheet_text (sheet_of bodies (kept_turns life.groups)))
WritesLife bodies life had has (Err errors.WriteFault) = PutsPrefix had has (sheet_text (sheet_of bodies (kept_turns life.groups)))
WritesLife bodies life had has (Err errors.NoMemory) =
    Puts had has (sheet_text (sheet_of bodies (kept_turns life.groups))) ⊎ ((kept_turns life.groups ++ life.lost ≡ []) × PutsPrefix had has (opening_text bodies))
WritesLife bodies life had has (Err _) = Puts had has (sheet_text (sheet_of bodies (kept_turns life.groups)))

-- all turns were taken, or the device failed that is named; what was taken is kept but at three of the errors
abbrev pub EndsLife : NodeOrder → Life → Devices → Devices → Result (Unit {0}) NodeError → Type 0
EndsLife order life old new (Ok _) = (length (kept_turns life.groups) ≡ order.turns) × (life.lost ≡ [])
EndsLife order life old new (Err errors.PortFault) = Rose old.port.faults new.port.faults × (life.lost ≡ [])
EndsLife order life old new (Err errors.WriteFault) = Rose old.faults new.faults × (life.lost ≡ [])
EndsLife order life old new (Err errors.DiskFault) = Rose old.disk.faults new.disk.faults
EndsLife order life old new (Err errors.LogFull) = Unit {0}
EndsLife order life old new (Err errors.NoMemory) = Unit {0}
EndsLife order life old new (Err errors.Failed) = ⊥

-- One process of the node, from its boot to its end: it boots on the log of the bodies that it found, and serves.
pub record RunsLife (order : NodeOrder) (old new : Devices) (end : NodeEnd) : Type 0 where
  pub life : Life
  pub bodies : List (List ℕ)
  pub result : Result (Unit {0}) NodeError
  pub ends_so : end ≡ end_of result
  pub me : life.me ≡ order.me
  pub ended : life.ended ≡ true
  pub kept : AreKept order.me order.n [] bodies life.found
  pub found : IsTrue old.disk.honest → (reading old.disk.seen ≡ found bodies) × IsOpenTo order.cluster (cluster_of old.disk.seen)
  pub most : length (kept_turns life.groups ++ life.lost) ≤ order.turns
  pub are_groups : AreGroups (with_lost (turns_by_group life.groups) life.lost)
  pub fates : HaveFates sends_from (booted order life.found) life.groups
  pub addressed : AreAddressed (peers_in order) (booted order life.found) life.groups
  pub takes : Takes (booted order life.found) unwatched (kept_turns life.groups ++ life.lost) old.clock new.clock
  pub carries : Carries (peers_in order) (booted order life.found) unwatched (kept_turns life.groups ++ life.lost) life.groups old.port new.port
  pub goes : Goes old.disk new.disk
  pub keeps : IsTrue old.disk.honest → KeepsLife order life old.disk new.disk result
  pub writes : WritesLife bodies life old.sheet new.sheet result
  pub done : EndsLife order life old new result

-- The node was not booted, and why; or one process of it ran.
abbrev pub Runs : NodeOrder → Devices → Devices → NodeEnd → Type 0
Runs order old new end = NotBooted order old new end ⊎ RunsLife order old new end

-- ---- over the port that was handed in

-- the devices of these values, whose devices mean this
abbrev pub devices_of : {C P D O : Type 0} → (D → DiskMeaning) → (P → PortMeaning) → (C → Option Readings) → (O → Option (List ℕ)) → (O → ℕ) → D → P → C → O → Devices
devices_of disk port clock written faults d p c o =
    record { disk = unlent_disk (disk d); port = unlent_port (port p); clock = clock c; sheet = written o; faults = faults o }

-- the same over the port of a cluster, where no send was too long, and this framing is on each datagram
abbrev pub over_cluster : ℕ → Framing → Devices → Devices
over_cluster cluster framing devices = record devices { port = record (clustered cluster 0 devices.port) { framing = over cluster framing } }

-- memory ran out before the node began: nothing was received or sent, and all devices are as they were
abbrev pub NotBegun : Devices → Devices → NodeEnd → Type 0
NotBegun old new end =
    (end ≡ ends.NoMemory) × Goes old.disk new.disk × (new.disk.seen ≡ old.disk.seen) × ((c : List ℕ) → new.disk.may_leave c → old.disk.may_leave c) × (new.clock ≡ old.clock)
    × (new.sheet ≡ old.sheet) × (new.port ≡ old.port)

-- The traffic of the cluster's port went over the port below with its framing, and its losses are those of the port below.
abbrev pub RunsNumbered : NodeOrder → Devices → Devices → NodeEnd → Type 0
RunsNumbered order old new end = Runs order (over_cluster order.cluster old.port.framing old) (over_cluster order.cluster old.port.framing new) end ⊎ NotBegun old new end

-- The node of cluster 0 runs over the port itself, and that of any other over the port of its cluster.
abbrev pub RunsOverCluster : NodeOrder → Devices → Devices → NodeEnd → Type 0
RunsOverCluster order old new end = (order.cluster ≡ 0 → Runs order old new end) × (order.cluster ≢ 0 → RunsNumbered order old new end)
