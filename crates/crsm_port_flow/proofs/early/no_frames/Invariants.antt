use Rattle.std.proofs.Common.{[], ◌-◌, ◌≤◌, length}
use Rattle.crsm_port_flow.specs.Early.{KeepsSome}
use Rattle.crsm_port_flow.proofs.early.no_frames.Given as goal

abbrev pub invariant-loop-frames : goal.invariant-loop-frames
invariant-loop-frames l = record { free : KeepsSome [] l.frames.items; few : length l.frames.items ≤ 15_360 }

abbrev pub decreases-loop-frames : goal.decreases-loop-frames
decreases-loop-frames l = 15_360 - length l.frames.items
