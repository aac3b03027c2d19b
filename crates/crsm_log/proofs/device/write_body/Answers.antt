use Rattle.crsm_log.specs.Format.{body_entry}
use Rattle.crsm_log.proofs.Runs.{on_ok}
use Rattle.crsm_log.proofs.Puts.{body_follows, body_leaves, body_settles, cluster_leaves}
use Rattle.crsm_log.proofs.device.write_body.Goals as goal

pub returns-clause-ran : goal.returns-clause-ran
returns-clause-ran g c body is = c.write_entry.ensures.ran (body_entry body) is

pub returns-clause-settled : goal.returns-clause-settled
returns-clause-settled g c body is lt honest s =
    on_ok c.write_entry.result _ _ (λ done. (done.0, body_settles (g.D.Disk.meaning c.args.disk.now) (g.D.Disk.meaning c.write_entry.new.disk) c.args.gate body lt s done.1)) (c.write_entry.ensures.settled (body_entry body) is honest s (body_follows _ body lt))

pub returns-clause-any_moment : goal.returns-clause-any_moment
returns-clause-any_moment g c body is lt honest s =
    body_leaves (g.D.Disk.meaning c.args.disk.now) (g.D.Disk.meaning c.write_entry.new.disk) c.args.gate body lt s (c.write_entry.ensures.any_moment (body_entry body) is honest s (body_follows _ body lt))

pub returns-clause-cluster : goal.returns-clause-cluster
returns-clause-cluster g c body is lt honest s =
    cluster_leaves (g.D.Disk.meaning c.args.disk.now) (g.D.Disk.meaning c.write_entry.new.disk) c.args.gate body lt s (c.write_entry.ensures.any_moment (body_entry body) is honest s (body_follows _ body lt))
