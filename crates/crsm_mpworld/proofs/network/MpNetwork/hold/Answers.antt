use Rattle.crsm_mpworld.proofs.Marked.{keeps}
use Rattle.crsm_mpworld.proofs.network.MpNetwork.hold.Goals as goal

pub returns-clause-stands : goal.returns-clause-stands
returns-clause-stands c packets bytes h = keeps c.args.self.now packets bytes _ h c.keep.ensures.packets

pub returns-clause-last : goal.returns-clause-last
returns-clause-last c = record { is = c.in_ok-keep.ensures.last; fits = c.requires }
