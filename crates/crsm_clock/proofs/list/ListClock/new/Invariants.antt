use Rattle.std.proofs.Common.{◌≡◌, take}
use Rattle.crsm_clock.proofs.list.ListClock.new.Given as goal

abbrev pub invariant-loop-reading : goal.invariant-loop-reading
invariant-loop-reading l = l.ahead.items ≡ take l.reading-index l.readings
