use Rattle.std.proofs.Common.{◌∙◌, ap}
use Rattle.crsm_mpworld.proofs.Gets.{get_last}
use Rattle.crsm_mpworld.proofs.Messages.{still_whole}
use Rattle.crsm_mpworld.proofs.sent.Packets.keep.Goals as goal

pub returns-clause-packets : goal.returns-clause-packets
returns-clause-packets c = still_whole _ _ _ _ c.in_ok-push.ensures.items c.self.invariant.within ∙ ap (λ s. s.packets) c.self.view_is

pub returns-clause-last : goal.returns-clause-last
returns-clause-last c = get_last _ _ _ c.in_ok-push.ensures.items
