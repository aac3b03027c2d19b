use Rattle.std.proofs.Common.{◌∷◌, [], arith}
use Rattle.crsm_wire.proofs.Joined.{join}
use Rattle.crsm_wire.proofs.head.joined.Goals as goal

pub returns : goal.returns
returns c = rw (c.copy_from_slice.ensures.after, c.copy_from_slice-2.ensures.after) (join c.args.prefix.now c.args.back.now (0 ∷ 0 ∷ 0 ∷ 0 ∷ 0 ∷ 0 ∷ 0 ∷ 0 ∷ 0 ∷ 0 ∷ 0 ∷ 0 ∷ 0 ∷ 0 ∷ 0 ∷ 0 ∷ 0 ∷ 0 ∷ []) 19 18 c.told-prefix (omega arith))
