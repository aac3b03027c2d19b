use Rattle.std.proofs.Common.{◌≡◌}
use Rattle.std.specs.Prelude.{slice_get, Some}
use Rattle.crsm_ledger.specs.Pieces.{pieces}
use Rattle.crsm_ledger.proofs.PiecesLemmas.{spelling_at}
use Rattle.crsm_ledger.proofs.spelt.Spelt.at.Goals as goal

pub returns-clause-spelling : goal.returns-clause-spelling
returns-clause-spelling c =
    let there : slice_get (pieces c.self.inside.chunks.items c.self.inside.places.items) c.args.index ≡ Some c.range_at.result.now = cc in
    spelling_at (pieces c.self.inside.chunks.items c.self.inside.places.items) c.args.index c.range_at.result.now c.self.invariant.1 there
