-- A core that stands for some replica.
use Rattle.crsm_spec.specs.Replica.{Replica}
use Rattle.crsm_core.specs.declared.replica.Core.{Core}
use Rattle.crsm_core.specs.Core.{CoreStands}

pub record IsOfOne (core : Core) : Type 0 where
  pub replica : Replica
  pub stands : CoreStands core replica
