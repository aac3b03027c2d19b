use Rattle.crsm_ledger.proofs.ReadLemmas.{live-is}
use Rattle.crsm_ledger.proofs.ledger.Ledger.live.Goals as goal

pub returns : goal.returns
returns c = λ me n log s. live-is s.says
