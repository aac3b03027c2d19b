use Rattle.std.proofs.lemmas.Nat.Bits.{bit_at_set_other, bit_at_set_same}
use Rattle.std.specs.Int.{w16}
use Rattle.crsm_port_flow.proofs.hearing.with_bit.Goals as goal

pub returns-clause-set : goal.returns-clause-set
returns-clause-set c = bit_at_set_same w16 c.args.mask c.args.replica c.requires

pub returns-clause-others : goal.returns-clause-others
returns-clause-others c = λ k not. bit_at_set_other w16 c.args.mask c.args.replica c.requires k not
