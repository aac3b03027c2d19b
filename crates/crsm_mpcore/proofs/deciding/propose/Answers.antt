use Rattle.crsm_mpspec.specs.declared.rec.MpRec.{MpRec}
use Rattle.crsm_mpspec.specs.Draft.{keep, keep_as, line_of}
use Rattle.crsm_mpspec.specs.Deciding.{propose, propose_as}
use Rattle.crsm_mpcore.specs.Parts.{ask_to_accept}
use Rattle.crsm_mpcore.proofs.deciding.propose.Goals as goal

pub returns : goal.returns
unfolding propose propose_as ask_to_accept keep keep_as line_of
returns c x s fits = c.in_ok-ask_to_accept.ensures (keep (MpRec.Accept c.args.slot c.args.ballot c.args.value.now) x) (c.in_ok-accept.ensures x s fits) fits
