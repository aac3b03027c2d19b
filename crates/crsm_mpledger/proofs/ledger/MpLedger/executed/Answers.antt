use Rattle.std.proofs.Common.{◌∙◌, sym, arith}
use Rattle.crsm_mpspec.specs.Log.{by_slot, chosen_at, choices, executed}
use Rattle.crsm_mpledger.proofs.SlotLemmas.{get-by_slot}
use Rattle.crsm_mpledger.proofs.RunLemmas.{executed-get, none_behind}
use Rattle.crsm_mpledger.proofs.ledger.MpLedger.executed.Goals as goal

pub returns-then-slot-len : goal.returns-then-slot-len
unfolding chosen_at
returns-then-slot-len c log s =
    let len = c.len.ensures.value (executed log) s.executed in
    c.get.ensures (by_slot (choices log)) s.chosen ∙ get-by_slot c.args.slot (choices log)
    ∙ executed-get c.args.slot log (omega (arith, len, c.if-slot-len.true))

pub returns-else-slot-len : goal.returns-else-slot-len
returns-else-slot-len c log s =
    let len = c.len.ensures.value (executed log) s.executed in
    sym (none_behind (executed log) c.args.slot (omega (arith, len, c.if-slot-len.false)))
