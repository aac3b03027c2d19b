use Rattle.crsm_delay.proofs.Handled.{ends_well, whole_fits}
use Rattle.crsm_delay.proofs.handling.PlanReaderHandler.end.Goals as goal

pub push_wanted-requires : goal.push_wanted-requires
push_wanted-requires c = whole_fits c.args.self.now.draft c.in-Some.draft c.args.self.now.read c.in-Some.is c.if-not-draft.false

pub returns-clause-ok : goal.returns-clause-ok
returns-clause-ok c = λ first lines shown has.
    ends_well first.wanted c.args.self.now c.in-Some.draft lines shown c.args.text.now c.push_wanted.new.text c.in-Some.is c.if-not-draft.false c.in-Ok.ensures has
