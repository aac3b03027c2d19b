use Rattle.std.proofs.Common.{arith}
use Rattle.crsm_base.proofs.Parsers.{shorter, found_is, none_is, again_is, again_none}
use Rattle.crsm_base.proofs.Numbers.{u32_parses}
use Rattle.crsm_codec.proofs.numbers.read_u32.Goals as goal

pub overflow_sub-result : goal.overflow_sub-result
overflow_sub-result c = shorter u32_parses c.args.bytes.now c.in-Some.number c.in-Some.rest.now (λ i. omega (arith, c.type_inv.bytes i)) c.in-Some.ensures

pub returns-in-Some-clause-found : goal.returns-in-Some-clause-found
returns-in-Some-clause-found c = found_is u32_parses c.args.bytes.now c.in-Some.number c.in-Some.rest.now (λ i. omega (arith, c.type_inv.bytes i)) c.in-Some.ensures

pub returns-in-None-clause-none : goal.returns-in-None-clause-none
returns-in-None-clause-none c = none_is u32_parses c.args.bytes.now c.in-None.ensures

pub returns-in-Some-clause-again : goal.returns-in-Some-clause-again
returns-in-Some-clause-again c = again_is u32_parses c.args.bytes.now c.in-Some.number c.in-Some.rest.now c.in-Some.ensures

pub returns-in-None-clause-again : goal.returns-in-None-clause-again
returns-in-None-clause-again c = λ x rest fits is. absurd (again_none u32_parses c.args.bytes.now c.in-None.ensures x rest fits is)
