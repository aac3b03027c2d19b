use Rattle.std.proofs.lemmas.Grind.{merely}
use Rattle.std.proofs.lemmas.Result.{err_from_is_err_and}
use Rattle.crsm_replica_rerun.proofs.boot.boot.Goals as goal

pub returns-in_err-batch-clause-bad_log : goal.returns-in_err-batch-clause-bad_log
returns-in_err-batch-clause-bad_log c =
    let p = err_from_is_err_and c.from_residual-in_err-batch.result c.from_residual-in_err-batch.ensures.1 in rw (p.1, p.2) tt

pub begin-requires : goal.begin-requires
begin-requires c = λ _.
    let w = c.in_ok-ledger.ensures.whole in
    let fit = c.found_logs_fit.ensures c.args.me c.args.n c.args.bodies.now w.0 w.1 in
    let awaits = c.in_ok-core.ensures c.args.me c.args.n w.0 w.2 fit.0 fit.1 c.requires.me_below c.requires.some in
    merely (record { me = c.args.me; n = c.args.n; log = w.0; awaits = awaits.waits; room = w.3 })
