use Rattle.std.proofs.Common.{refl}
use Rattle.crsm_ledger.specs.Pieces.{pieces}
use Rattle.crsm_ledger.proofs.PiecesLemmas.{none_spelt}
use Rattle.crsm_ledger.proofs.spelt.Spelt.new.Goals as goal

pub invariant_of-result : goal.invariant_of-result
invariant_of-result c = rw (c.new.ensures.items, c.new-2.ensures.items) none_spelt

pub returns : goal.returns
unfolding pieces
returns c = rw c.new-2.ensures.items refl
