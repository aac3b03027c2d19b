use Rattle.crsm_mpspec.specs.Sends.{others_below}
use Rattle.crsm_mpreplica.proofs.MadeLemmas.{sends}
use Rattle.crsm_mpreplica.proofs.made.StepOutput.send_to_others.Goals as goal

pub returns : goal.returns
returns c o s fits = sends c.args.self.now o (others_below c.args.me c.args.n) c.args.message c.push_to_others.new.self s fits c.in_ok-push_to_others.ensures.ok
