use Rattle.std.proofs.Common.{◌≡◌, ◌++◌, length}
use Rattle.crsm_mpledger.specs.BySlot.{AreFrom, numbered}
use Rattle.crsm_mpledger.proofs.by_slot.BySlot.close_gap.Given as goal

abbrev pub invariant-loop-self : goal.invariant-loop-self
invariant-loop-self g l = AreFrom (length l.initial.self.prefix.items) l.initial.self.beyond.entries →
    (numbered 0 l.self.prefix.items ++ l.self.beyond.entries ≡ numbered 0 l.initial.self.prefix.items ++ l.initial.self.beyond.entries)
    × AreFrom (length l.self.prefix.items) l.self.beyond.entries

abbrev pub decreases-loop-self : goal.decreases-loop-self
decreases-loop-self g l = length l.self.beyond.entries
