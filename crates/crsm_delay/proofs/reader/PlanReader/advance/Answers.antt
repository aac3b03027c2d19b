use Rattle.std.proofs.Common.{subst}
use Rattle.crsm_delay.specs.Advancing.{IsRead}
use Rattle.crsm_delay.proofs.Handled.{first_read, no_first, still_read}
use Rattle.crsm_delay.proofs.reader.PlanReader.advance.Goals as goal

pub invariant_of-self : goal.invariant_of-self
invariant_of-self c = record {
  read = still_read c.add_line.result c.in-Some.draft c.add_line.new.draft c.args.text.now (subst (λ o. ∥ IsRead o ∥₁) c.in-Some.is c.args.self.now.read) c.add_line.ensures.ok c.add_line.ensures.kept;
}

pub invariant_of-self-in-None : goal.invariant_of-self-in-None
invariant_of-self-in-None c = record { read = first_read c.in-Some-first_line.draft c.args.text.now c.in-Some-first_line.ensures.ok }

pub returns-in_default-clause-err : goal.returns-in_default-clause-err
returns-in_default-clause-err c = no_first c.args.self.now.draft c.args.text.now c.in-None.is (c.first_line.ensures.err c.in_default.is)
