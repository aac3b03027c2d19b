use Rattle.std.proofs.Common.{arith, ap, length, subst, ◌+◌}
use Rattle.crsm_base.specs.Spelling.{val_bytes, FitsVal}
use Rattle.crsm_wire.specs.Sized.{IsSized}
use Rattle.crsm_wire.proofs.Lengths.{val_sized}
use Rattle.crsm_wire.proofs.fields.val_size.Goals as goal

pub returns : goal.returns
returns c =
    let l = ap length c.as_slice-length.ensures in
    subst (λ n. IsSized val_bytes FitsVal 514 c.args.val.now (n + 2)) (omega (arith, l)) (val_sized c.args.val.now (omega (arith, l)))
