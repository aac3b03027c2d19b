use Rattle.std.proofs.Common.{◌∙◌, ap}
use Rattle.std.specs.Prelude.{is_some}
use Rattle.crsm_mpspec.specs.Log.{by_slot, choices, chosen_at, is_chosen}
use Rattle.crsm_mpledger.proofs.SlotLemmas.{get-by_slot}
use Rattle.crsm_mpledger.proofs.ledger.MpLedger.is_chosen.Goals as goal

pub returns : goal.returns
unfolding is_chosen chosen_at
returns c log s = c.has.ensures (by_slot (choices log)) s.chosen ∙ ap (λ o. is_some o) (get-by_slot c.args.slot (choices log))
