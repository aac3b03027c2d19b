use Rattle.std.proofs.Common.{length}
use Rattle.crsm_mpspec.specs.Records.{rec_bytes, FitsRec}
use Rattle.crsm_base.proofs.BodyLaws.{HasRead}
use Rattle.crsm_mpledger.proofs.body.take_body.Given as goal

abbrev pub invariant-loop-rest : goal.invariant-loop-rest
invariant-loop-rest l = HasRead rec_bytes FitsRec l.body l.records l.rest

abbrev pub decreases-loop-rest : goal.decreases-loop-rest
decreases-loop-rest l = length l.rest
