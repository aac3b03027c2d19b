use Rattle.std.proofs.Common.{arith}
use Rattle.crsm_base.proofs.Parsers.{shorter, found_is, none_is, again_is, again_none}
use Rattle.crsm_base.proofs.Fields.{stamp_parses}
use Rattle.crsm_codec.proofs.stamps.read_stamp.Goals as goal

pub overflow_sub-result : goal.overflow_sub-result
overflow_sub-result c = shorter stamp_parses c.args.bytes.now c.in-Some.stamp c.in-Some.rest.now (λ i. omega (arith, c.type_inv.bytes i)) c.in-Some.ensures

pub returns-in-Some-clause-found : goal.returns-in-Some-clause-found
returns-in-Some-clause-found c = found_is stamp_parses c.args.bytes.now c.in-Some.stamp c.in-Some.rest.now (λ i. omega (arith, c.type_inv.bytes i)) c.in-Some.ensures

pub returns-in-None-clause-none : goal.returns-in-None-clause-none
returns-in-None-clause-none c = none_is stamp_parses c.args.bytes.now c.in-None.ensures

pub returns-in-Some-clause-again : goal.returns-in-Some-clause-again
returns-in-Some-clause-again c = again_is stamp_parses c.args.bytes.now c.in-Some.stamp c.in-Some.rest.now c.in-Some.ensures

pub returns-in-None-clause-again : goal.returns-in-None-clause-again
returns-in-None-clause-again c = λ x rest fits is. absurd (again_none stamp_parses c.args.bytes.now c.in-None.ensures x rest fits is)
