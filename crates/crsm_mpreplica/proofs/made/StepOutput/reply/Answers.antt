use Rattle.crsm_mpreplica.proofs.MadeLemmas.{replied}
use Rattle.crsm_mpreplica.proofs.made.StepOutput.reply.Goals as goal

pub returns : goal.returns
returns c o s = replied c.args.self.now o c.args.line c.push.new.self s c.in_ok-push.ensures.ok
