use Rattle.std.proofs.Common.{arith, ap, length, subst, ◌+◌, List, ℕ}
use Rattle.crsm_base.specs.Spelling.{key_bytes, FitsKey}
use Rattle.crsm_wire.specs.Sized.{IsSized}
use Rattle.crsm_wire.proofs.Lengths.{key_sized}
use Rattle.crsm_wire.proofs.fields.key_size.Goals as goal

pub returns : goal.returns
returns c =
    let l = ap length c.as_slice-length.ensures in
    subst (λ n. IsSized key_bytes FitsKey 65 c.args.key.now (n + 1)) (omega (arith, l)) (key_sized c.args.key.now (omega (arith, l)) (omega (arith, l)))
