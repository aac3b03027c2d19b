-- The number of datagrams that went no further.
use Rattle.std.specs.Prelude.{◌≡◌}
use Rattle.crsm_port_faults.specs.Counts.{Rose}
use Rattle.crsm_port_flow.specs.declared.datagram.Loss.{Loss}
use Rattle.crsm_port_flow.specs.declared.datagram.Loss.TheVariants.{Dropped, NoMemory}
use Rattle.crsm_port_flow.specs.declared.datagram.Losses.{Losses}

-- one more is counted for this reason, and none for the other
abbrev pub CountsLoss : Loss → Losses → Losses → Type 0
CountsLoss Dropped old new = Rose old.dropped new.dropped × (new.unkept ≡ old.unkept)
CountsLoss NoMemory old new = Rose old.unkept new.unkept × (new.dropped ≡ old.dropped)
