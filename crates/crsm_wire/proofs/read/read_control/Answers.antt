use Rattle.std.proofs.Common.{arith}
use Rattle.crsm_base.specs.MessageReading.{control_at, control_of}
use Rattle.crsm_base.proofs.Wholes.{whole_found, whole_none, whole_more, whole_is, whole_is_none, none_is_none}
use Rattle.crsm_base.proofs.ControlLaws.{control_parses}
use Rattle.crsm_wire.proofs.Same.{same_control}
use Rattle.crsm_wire.proofs.read.read_control.Goals as goal

pub returns-in_default-taken-clause-not_one : goal.returns-in_default-taken-clause-not_one
returns-in_default-taken-clause-not_one c = λ _. whole_none control_parses c.args.bytes.now (rw c.in_default-taken.is at c.in-Ok.ensures)

pub returns-then-not-is_empty-clause-not_one : goal.returns-then-not-is_empty-clause-not_one
returns-then-not-is_empty-clause-not_one c = λ _. whole_more control_parses c.args.bytes.now c.in-Some.control c.in-Some.rest.now (rw c.in-Some.is at c.in-Ok.ensures) c.if-not-is_empty.ensures

pub returns-clause-found : goal.returns-clause-found
returns-clause-found c = whole_found control_parses c.args.bytes.now c.in-Some.control c.in-Some.rest.now (λ i. omega (arith, c.type_inv.bytes i)) (rw c.in-Some.is at c.in-Ok.ensures) c.if-not-is_empty.ensures

pub returns-clause-value : goal.returns-clause-value
unfolding control_of
returns-clause-value c = whole_is control_at c.args.bytes.now c.in-Some.control c.in-Some.rest.now (rw c.in-Some.is at c.in-Ok.ensures) c.if-not-is_empty.ensures

pub returns-in_default-taken-clause-none : goal.returns-in_default-taken-clause-none
unfolding control_of
returns-in_default-taken-clause-none c = λ _. none_is_none control_at c.args.bytes.now (rw c.in_default-taken.is at c.in-Ok.ensures)

pub returns-then-not-is_empty-clause-none : goal.returns-then-not-is_empty-clause-none
unfolding control_of
returns-then-not-is_empty-clause-none c = λ _. whole_is_none control_at c.args.bytes.now c.in-Some.control c.in-Some.rest.now (rw c.in-Some.is at c.in-Ok.ensures) c.if-not-is_empty.ensures

pub returns-clause-again : goal.returns-clause-again
unfolding control_of
returns-clause-again c = λ x fits is. same_control c.args.bytes.now c.in-Some.control x (whole_is control_at c.args.bytes.now c.in-Some.control c.in-Some.rest.now (rw c.in-Some.is at c.in-Ok.ensures) c.if-not-is_empty.ensures) fits is
