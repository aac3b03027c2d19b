use Rattle.std.proofs.Common.{◌≡◌, ◌++◌, take}
use Rattle.crsm_base.proofs.entries.Entries.add_copies.Given as goal

abbrev pub invariant-loop-item : goal.invariant-loop-item
invariant-loop-item l = l.self ≡ l.initial.self ++ take l.item-index l.items
