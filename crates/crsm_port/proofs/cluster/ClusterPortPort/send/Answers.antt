use Rattle.std.proofs.Common.{ℕ, subst, sym}
use Rattle.crsm_port.specs.Cluster.{given_to, sent_by}
use Rattle.crsm_port.specs.Passing.{NoMore, OneMore}
use Rattle.crsm_port.proofs.Passings.{given_more, sent_one}
use Rattle.crsm_port.proofs.cluster.ClusterPortPort.send.Goals as goal

pub returns-clause-passes_on : goal.returns-clause-passes_on
returns-clause-passes_on g c =
    let cluster = c.args.self.now.cluster in
    let before = c.args.self.now.inner in
    let after = c.send_wrapped.new.self.inner in
    let same = sym c.send_wrapped.ensures.same.0 in
    let e = c.send_wrapped.ensures.passes_on in
    record {
      no_more_given = subst (λ (k : ℕ). NoMore (given_to cluster (g.P.Port.gives before)) (given_to k (g.P.Port.gives after))) same
          (given_more cluster (g.P.Port.gives before) (g.P.Port.gives after) e.no_more_given);
      one_more_sent = subst (λ (k : ℕ). OneMore c.args.to c.args.bytes.now (sent_by cluster (g.P.Port.may_send before)) (sent_by k (g.P.Port.may_send after))) same
          (sent_one cluster c.args.to c.args.bytes.now (g.P.Port.may_send before) (g.P.Port.may_send after) e.one_more_sent);
    }
