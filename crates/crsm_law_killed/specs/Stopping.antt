-- What devices mean that refuse all calls from some call on.
use Rattle.std.specs.Prelude.{ℕ, ◌+◌, Option, Some, None}
use Rattle.crsm_disk.specs.Meaning.{Meaning as DiskMeaning}
use Rattle.crsm_port.specs.Meaning.{Meaning as PortMeaning}
use Rattle.crsm_node.specs.Running.{Devices, RunsOverCluster}
use Rattle.crsm_node.specs.declared.errors.NodeEnd.{NodeEnd}
use Rattle.crsm_node.specs.declared.order.NodeOrder.{NodeOrder}
use Rattle.crsm_law_killed.specs.declared.refused.Refused.{Refused}

-- the byte that was renewed last: what the stopped disk was asked for, or else the disk below
abbrev pub last_renewed : Option ℕ → Option ℕ → Option ℕ
last_renewed None below = below
last_renewed (Some at) below = Some at

-- A disk that refused calls: its faults are those of the disk below and these, and it tells no plan. Its bytes, what a
-- crash may leave of them and its calls are those of the disk below.
abbrev pub disk_with : (refused : ℕ) (renewed : Option ℕ) → DiskMeaning → DiskMeaning
disk_with refused renewed m = record m { plan = None; fill = None; faults = m.faults + refused; renewed = last_renewed renewed m.renewed }

-- A port that refused calls: its datagrams are those of the port below.
abbrev pub port_with : (receives sends : ℕ) → PortMeaning → PortMeaning
port_with receives sends m = record m { plan = None; faults = m.faults + receives; losses = m.losses + sends }

-- these devices, where they have refused so many calls
abbrev pub with_refused : Refused → Option ℕ → Devices → Devices
with_refused r renewed d = record {
  disk = disk_with r.disk renewed d.disk;
  port = port_with r.receives r.sends d.port;
  clock = d.clock;
  sheet = d.sheet;
  faults = d.faults + r.sheet;
}

abbrev pub no_refusals : Refused
no_refusals = record { disk = 0; receives = 0; sends = 0; sheet = 0 }

-- What became of these devices is what a run makes of them whose device calls were refused so often.
pub record RunsUntilKilled (order : NodeOrder) (refused : Refused) (old new : Devices) (end : NodeEnd) : Type 0 where
  pub renewed : Option ℕ
  pub ran : RunsOverCluster order (with_refused no_refusals None old) (with_refused refused renewed new) end
