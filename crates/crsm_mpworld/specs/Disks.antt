-- Logs on disks.
use Rattle.std.specs.Prelude.{◌≡◌, List, [], ℕ}
use Rattle.crsm_disk.specs.Memory.{Memory}
use Rattle.crsm_port_image.specs.Calls.{contents}
use Rattle.crsm_log.specs.Format.{reading, found, bodies_of}
use Rattle.crsm_log.specs.Words.{disk_of}
use Rattle.crsm_log.specs.declared.log.Log.{Log as DiskLog}
use Rattle.crsm_mpspec.specs.Log.{Log}
use Rattle.crsm_mpspec.specs.Replica.{Replica}
use Rattle.crsm_mpledger.specs.Sound.{IsSound, AreBodies}
use Rattle.crsm_mpcore.specs.declared.replica.MpCore.{MpCore}
use Rattle.crsm_mpcore.specs.Core.{MpCoreStands}

-- the bytes that a read of the disk gives
abbrev pub bytes_of : Memory → List ℕ
bytes_of disk = contents disk.first disk.calls

-- the disk holds the bodies of this log
pub record IsDisk (disk : Memory) (log : Log) : Type 0 where
  pub sound : IsSound log
  pub whole : reading (bytes_of disk) ≡ found (bodies_of (bytes_of disk))
  pub bodies : AreBodies [] (bodies_of (bytes_of disk)) log

-- the core is that of replica r, whose log is on the disk
pub record IsOn (core : MpCore) {g : _} (on_disk : DiskLog Memory g) (r : Replica) : Type 0 where
  pub stands : MpCoreStands core r
  pub kept : IsDisk (disk_of on_disk) r.log

-- of some replica
pub record IsSomeOn (core : MpCore) {g : _} (on_disk : DiskLog Memory g) : Type 0 where
  pub replica : Replica
  pub is : IsOn core on_disk replica
