use Rattle.crsm_mpcore.proofs.replica.MpCore.boot.Goals as goal

pub returns : goal.returns
returns c r s = record { unspent = s.unspent; stands = c.boot.ensures r s.stands }
