use Rattle.std.proofs.Common.{rules, ◌≡◌, length}
use Rattle.crsm_mpledger.proofs.NumberedLemmas.{gap-stays}
use Rattle.crsm_mpledger.proofs.by_slot.BySlot.is_next_beyond.Goals as goal

pub returns-in-Some-clause-apart : goal.returns-in-Some-clause-apart
returns-in-Some-clause-apart g c differs are =
    let n = length c.args.self.now.prefix.items in
    let long : c.len.result ≡ n = search rules in
    gap-stays n c.args.self.now.beyond.entries (c.in-Some.slot.now, c.in-Some.field-0-1.now) c.len.result c.in-Some.ensures.first c.in-Some.ensures.all_from long differs are
