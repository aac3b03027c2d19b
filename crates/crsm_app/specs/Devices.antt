-- The state of the devices of a run.
use Rattle.std.specs.Prelude.{◌≡◌, ℕ, List, Option}
use Rattle.crsm_clock.specs.Readings.{Readings}
use Rattle.crsm_disk.specs.Meaning.{Meaning as DiskMeaning}
use Rattle.crsm_node.specs.Running.{Devices as NodeDevices, unlent_disk, unlent_port}
use Rattle.crsm_port.specs.Meaning.{Meaning}

pub record Devices : Type 1 where
  -- the rest of the input, and the bytes written to the output, if these are specified
  pub left : Option (List ℕ)
  pub written : Option (List ℕ)
  -- the reads and the writes that failed
  pub read_faults : ℕ
  pub write_faults : ℕ
  pub port : Meaning
  pub disk : DiskMeaning
  -- the readings still to come, if these are specified
  pub clock : Option Readings

-- nothing was written to the disk, and nothing that it holds has changed
pub record SameDisk (old new : DiskMeaning) : Type 0 where
  pub seen : new.seen ≡ old.seen
  pub may_leave : (c : List ℕ) → new.may_leave c → old.may_leave c
  pub history : new.history ≡ old.history
  pub faults : new.faults ≡ old.faults

-- all stand as they stood
pub record Untouched (old new : Devices) : Type 0 where
  pub left : new.left ≡ old.left
  pub written : new.written ≡ old.written
  pub read_faults : new.read_faults ≡ old.read_faults
  pub write_faults : new.write_faults ≡ old.write_faults
  pub port : new.port ≡ old.port
  pub disk : SameDisk old.disk new.disk
  pub clock : new.clock ≡ old.clock

-- the devices of a node
abbrev pub node_devices : Devices → NodeDevices
node_devices d = record { disk = unlent_disk d.disk; port = unlent_port d.port; clock = d.clock; sheet = d.written; faults = d.write_faults }

-- the devices that these values specify
abbrev pub devices_of : {I O P D C : Type 0} → (I → Option (List ℕ)) → (I → ℕ) → (O → Option (List ℕ)) → (O → ℕ) → (P → Meaning) → (D → DiskMeaning) → (C → Option Readings) →
    I → O → P → D → C → Devices
devices_of left read_faults written write_faults port_of disk_of readings input output port disk clock = record {
  left = left input;
  written = written output;
  read_faults = read_faults input;
  write_faults = write_faults output;
  port = port_of port;
  disk = disk_of disk;
  clock = readings clock;
}
