use Rattle.std.proofs.Common.{[], ◌∷◌}
use Rattle.crsm_mpreplica.proofs.MadeLemmas.{sends}
use Rattle.crsm_mpreplica.proofs.made.StepOutput.send.Goals as goal

pub returns : goal.returns
returns c o s fits = sends c.args.self.now o (c.args.to ∷ []) c.args.message c.push.new.self s fits c.in_ok-push.ensures.ok
