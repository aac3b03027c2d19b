use Rattle.std.proofs.lemmas.Result.{err_from_is_err_and}
use Rattle.crsm_replica_rerun.proofs.Stages.{adds_text}
use Rattle.crsm_replica_rerun.proofs.rerun.Rerun.replay.Goals as goal

pub returns-clause-adds : goal.returns-clause-adds
returns-clause-adds c = λ me n first lines steps s.
    adds_text me n first c.args.self.now lines steps s _ c.args.line.now c.in_ok-batch.batch c.args.out.now _ (c.in_ok-batch.ensures.advances me n first lines steps s) c.in_ok-push_step.ensures

pub returns-in_err-push_step-clause-refused : goal.returns-in_err-push_step-clause-refused
returns-in_err-push_step-clause-refused c = λ me n first lines steps s.
    let p = err_from_is_err_and c.from_residual-in_err-push_step.result c.from_residual-in_err-push_step.ensures.1 in rw (p.1, p.2) tt

pub returns-in_err-batch-clause-refused : goal.returns-in_err-batch-clause-refused
returns-in_err-batch-clause-refused c = λ me n first lines steps s.
    let k = c.in_err-batch.ensures.refused me n first lines steps s in
    let r = err_from_is_err_and c.from_residual.result c.from_residual.ensures.1 in rw (r.1, r.2) k
