-- A node: what its shell and its detector stand for, and its devices.
use Rattle.std.specs.Prelude.{ℕ, List, [], Option}
use Rattle.crsm_spec.specs.Draft.{Draft}
use Rattle.crsm_spec.specs.Log.{Log}
use Rattle.crsm_spec.specs.Replica.{Replica}
use Rattle.crsm_clock.specs.Readings.{Readings}
use Rattle.crsm_replica_detector.specs.Watching.{Watch}
use Rattle.crsm_replica_detector.specs.Detector.{DetectorStands}
use Rattle.crsm_replica_detector.specs.declared.detector.Detector.{Detector}
use Rattle.crsm_disk.specs.Meaning.{Meaning as DiskMeaning}
use Rattle.crsm_port.specs.Meaning.{Meaning as PortMeaning}
use Rattle.crsm_shell.specs.declared.shell.Shell.{Shell}
use Rattle.crsm_shell.specs.Shell.{ShellStands}
use Rattle.crsm_shell.specs.Words.{disk_of, peers_of}

pub record Node : Type 1 where
  -- the log that is kept, the replica, and the steps that are pending
  pub stands : Log → Replica → List Draft → Type 0
  -- the times of this replica's detector
  pub watches : ℕ → Watch → Type 0
  -- the address of each replica
  pub peers : List ℕ
  pub disk : DiskMeaning
  pub port : PortMeaning
  -- the readings still to come, and the bytes written, if these are specified
  pub clock : Option Readings
  pub sheet : Option (List ℕ)
  -- how many writes failed
  pub faults : ℕ

-- the node of these values, whose devices mean this
abbrev pub node_of : {C P D O : Type 0} {g : _} → (D → DiskMeaning) → (P → PortMeaning) → (C → Option Readings) → (O → Option (List ℕ)) → (O → ℕ) →
    Shell D g → Detector → P → C → O → Node
node_of disk port clock written faults shell detector p c o = record {
  stands = ShellStands shell (disk (disk_of shell));
  watches = DetectorStands detector;
  peers = peers_of shell;
  disk = disk (disk_of shell);
  port = port p;
  clock = clock c;
  sheet = written o;
  faults = faults o;
}

-- a fact of each replica and its times that a node stands for, where nothing is pending
abbrev pub WhereIdle : Node → (Replica → Watch → Type 0) → Type 0
WhereIdle node P = (r : Replica) (w : Watch) → node.stands r.log r [] → node.watches r.me w → P r w
