-- The entry that is executed next.
use Rattle.std.specs.Prelude.{List, [], ◌∷◌, Option, None, Some, if◌then◌else◌}
use Rattle.crsm_spec.specs.Types.{Stamp, Entry}
use Rattle.crsm_spec.specs.Log.{unexecuted}
use Rattle.crsm_spec.specs.Replica.{Replica}
use Rattle.crsm_spec.specs.Ready.{is_ready}

-- the stamp that is ready, of these unexecuted entries
unfoldable pub ready_first : Replica → List Entry → Option Stamp
ready_first r [] = None
ready_first r (e ∷ es) = if is_ready r e.stamp then Some e.stamp else None

-- the stamp of the entry that is executed next, where it is ready
unfoldable pub ready_of : Replica → Option Stamp
ready_of r = ready_first r (unexecuted r.log)
