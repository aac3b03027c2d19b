use Rattle.std.proofs.Common.{arith}
use Rattle.crsm_base.proofs.Parsers.{shorter, found_is, none_is, again_is, again_none}
use Rattle.crsm_base.proofs.EntriesLemmas.{members_parse}
use Rattle.crsm_codec.proofs.decisions.read_members.Goals as goal

pub overflow_sub-result : goal.overflow_sub-result
overflow_sub-result c = shorter members_parse c.args.bytes.now c.in-Ok-Some.members c.in-Ok-Some.rest.now (λ i. omega (arith, c.type_inv.bytes i)) (rw c.in-Ok-Some.field-0-is at c.in-Ok-Some.ensures)

pub returns-in-Ok-Some-clause-found : goal.returns-in-Ok-Some-clause-found
returns-in-Ok-Some-clause-found c = found_is members_parse c.args.bytes.now c.in-Ok-Some.members c.in-Ok-Some.rest.now (λ i. omega (arith, c.type_inv.bytes i)) (rw c.in-Ok-Some.field-0-is at c.in-Ok-Some.ensures)

pub returns-in-Ok-None-clause-none : goal.returns-in-Ok-None-clause-none
returns-in-Ok-None-clause-none c = none_is members_parse c.args.bytes.now (rw c.in-Ok-None.field-0-is at c.in-Ok-None.ensures)

pub returns-in-Ok-Some-clause-again : goal.returns-in-Ok-Some-clause-again
returns-in-Ok-Some-clause-again c = again_is members_parse c.args.bytes.now c.in-Ok-Some.members c.in-Ok-Some.rest.now (rw c.in-Ok-Some.field-0-is at c.in-Ok-Some.ensures)

pub returns-in-Ok-None-clause-again : goal.returns-in-Ok-None-clause-again
returns-in-Ok-None-clause-again c = λ x rest fits is. absurd (again_none members_parse c.args.bytes.now (rw c.in-Ok-None.field-0-is at c.in-Ok-None.ensures) x rest fits is)
