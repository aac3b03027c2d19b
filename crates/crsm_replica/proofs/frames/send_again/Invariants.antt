use Rattle.std.proofs.Common.{◌++◌, map, take}
use Rattle.crsm_replica_output.specs.Made.{Made, OutputStands}
use Rattle.crsm_replica.specs.Again.{frame_again}
use Rattle.crsm_replica.proofs.frames.send_again.Given as goal

abbrev pub invariant-loop-frame : goal.invariant-loop-frame
invariant-loop-frame l =
    (m : Made) → OutputStands l.initial.output m → OutputStands l.output (record m { sends = m.sends ++ map (frame_again l.me l.epoch l.to) (take l.frame-index l.frames) })
