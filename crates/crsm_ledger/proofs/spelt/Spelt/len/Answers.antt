use Rattle.std.proofs.Common.{arith}
use Rattle.crsm_ledger.proofs.spelt.Spelt.len.Goals as goal

pub returns-clause-few : goal.returns-clause-few
returns-clause-few c = let places = c.self.inside.places in omega (arith, places.ok.1, places.small, c.len.ensures)
