use Rattle.std.proofs.Common.{◌≡◌, ◌++◌, map, take}
use Rattle.std.specs.List.{flat_map}
use Rattle.crsm_schedule.specs.Transcript.{line_text}
use Rattle.crsm_replica_rerun.specs.Batches.{send_line}
use Rattle.crsm_replica_rerun.proofs.text.push_sends.Given as goal

-- the lines of the sends before are appended
abbrev pub invariant-loop-send : goal.invariant-loop-send
invariant-loop-send l = l.out ≡ l.initial.out ++ flat_map (line_text l.at) (map send_line (take l.send-index l.sends))
