use Rattle.std.proofs.Common.{◌≡◌, filter, take}
use Rattle.crsm_replica_detector.specs.Watching.{Times}
use Rattle.crsm_replica_detector.specs.Wishing.{is_wanted}
use Rattle.crsm_replica_detector.specs.Detector.{AreAlike, times_of}
use Rattle.crsm_replica_detector.proofs.timers.Timers.wanted.Given as goal

abbrev pub invariant-loop-k : goal.invariant-loop-k
invariant-loop-k l = (t : Times) → AreAlike (times_of l.self) t → l.wanted.items ≡ filter (is_wanted l.me t) (take l.k-index l.spec)
