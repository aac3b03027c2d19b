use Rattle.std.proofs.Common.{eq-eqb}
use Rattle.std.proofs.lemmas.Bool.{eqb-true}
use Rattle.std.proofs.lemmas.Nat.{bit_set_by_shift}
use Rattle.crsm_port_flow.proofs.hearing.has_bit.Goals as goal

pub returns-then-replica-lt16 : goal.returns-then-replica-lt16
returns-then-replica-lt16 c =
    let bit = bit_set_by_shift c.args.mask c.args.replica in
    (λ yes. (c.if-replica-lt16.true, bit.0 (eqb-true _ _ yes)), λ w. eq-eqb _ _ (bit.1 w.1))
