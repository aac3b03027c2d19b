use Rattle.std.proofs.Common.{◌≡◌, ◌≤◌, ◌++◌, take}
use Rattle.std.specs.Prelude.{map}
use Rattle.std.specs.Map.Iter.{deref_pair}
use Rattle.crsm_mpspec.specs.Log.{from_slot}
use Rattle.crsm_mpledger.specs.BySlot.{numbered}
use Rattle.crsm_mpledger.proofs.SlotLemmas.{accepted_of}
use Rattle.crsm_mpledger.proofs.ledger.MpLedger.accepted_from.Given as goal

abbrev pub invariant-loop-slot : goal.invariant-loop-slot
invariant-loop-slot l = (l.start ≤ l.slot) × (l.accepts.items ≡ map accepted_of (from_slot l.start (numbered 0 (take l.slot l.self.accepted.prefix.items))))

abbrev pub invariant-loop-slot-2 : goal.invariant-loop-slot-2
invariant-loop-slot-2 l = l.accepts.items ≡ map accepted_of (from_slot l.start (numbered 0 l.self.accepted.prefix.items)) ++ map accepted_of (map deref_pair l.yielded)
