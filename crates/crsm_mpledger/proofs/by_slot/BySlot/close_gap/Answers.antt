use Rattle.std.proofs.Common.{rules, ◌≡◌, ◌++◌, ◌∷◌, []}
use Rattle.crsm_mpledger.specs.BySlot.{numbered}
use Rattle.crsm_mpledger.proofs.NumberedLemmas.{gap-closes}
use Rattle.crsm_mpledger.proofs.by_slot.BySlot.close_gap.Goals as goal

pub loop-self-preserved : goal.loop-self-preserved
loop-self-preserved g c from =
    let xs = c.loop-self.self.prefix.items in
    let es = c.loop-self.self.beyond.entries in
    let whole = numbered 0 c.args.self.now.prefix.items ++ c.args.self.now.beyond.entries in
    let grown : c.push.new.self.items ≡ xs ++ c.in-Some.value ∷ [] = search rules in
    gap-closes xs c.push.new.self.items es c.pop_first.new.self.entries whole (c.in-Some.field-0-0, c.in-Some.value) (c.is_next_beyond.ensures.next c.loop-self-test.true)
    c.in-Some.ensures.removal c.in-Some.ensures.all_above grown (c.loop-self.invariant from).0
