use Rattle.std.proofs.Common.{◌∙◌}
use Rattle.crsm_mpspec.specs.Log.{by_slot, accepts, accepted_at}
use Rattle.crsm_mpledger.proofs.SlotLemmas.{get-by_slot}
use Rattle.crsm_mpledger.proofs.ledger.MpLedger.accepted.Goals as goal

pub returns : goal.returns
unfolding accepted_at
returns c log s = c.get.ensures (by_slot (accepts log)) s.accepted ∙ get-by_slot c.args.slot (accepts log)
