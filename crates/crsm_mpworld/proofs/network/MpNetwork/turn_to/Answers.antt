use Rattle.std.proofs.Common.{◌∙◌}
use Rattle.crsm_mpworld.proofs.Marked.{turned}
use Rattle.crsm_mpworld.proofs.network.MpNetwork.turn_to.Goals as goal

pub returns-clause-stands : goal.returns-clause-stands
returns-clause-stands c packets bytes h =
    turned c.args.self.now packets bytes c.in_ok-fresh.fresh c.in_ok-self.field-0 c.in_ok-self-2.field-0 c.count-end.result h (c.in_ok-fresh.ensures packets bytes h) (c.in_ok-self.ensures.items ∙ c.as_slice.ensures.value) (c.count-end.ensures packets bytes h)
