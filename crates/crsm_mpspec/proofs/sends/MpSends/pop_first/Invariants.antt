use Rattle.std.proofs.Common.{◌≡◌, length}
use Rattle.std.specs.List.{flat_map}
use Rattle.crsm_mpspec.specs.Sends.{sends_of}
use Rattle.crsm_mpspec.proofs.sends.MpSends.pop_first.Given as goal

-- What was removed has no receivers.
abbrev pub invariant-loop-multicast : goal.invariant-loop-multicast
invariant-loop-multicast l = flat_map sends_of l.self-inside.items.items ≡ flat_map sends_of l.initial.self-inside.items.items

abbrev pub decreases-loop-multicast : goal.decreases-loop-multicast
decreases-loop-multicast l = length l.self-inside.items.items
