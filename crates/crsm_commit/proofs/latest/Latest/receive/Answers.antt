use Rattle.std.proofs.Common.{arith}
use Rattle.crsm_commit.proofs.LatestLemmas.{received_more, received_less}
use Rattle.crsm_commit.proofs.latest.Latest.receive.Goals as goal

pub returns-then-time-self : goal.returns-then-time-self
returns-then-time-self c received s = received_more _ received _ _ (omega arith) c.requires c.if-time-self.true s

pub returns-else-time-self : goal.returns-else-time-self
returns-else-time-self c received s = received_less _ received _ _ (omega arith) s
