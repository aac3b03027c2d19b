use Rattle.std.proofs.Common.{◌∙◌, inl, ap}
use Rattle.crsm_app.proofs.doing.run_replica.Goals as goal

pub returns-in-Some-clause-did : goal.returns-in-Some-clause-did
returns-in-Some-clause-did g c =
    let v = c.in-Some.ensures.value in
    inl (record {
      order = c.in-Some.order;
      is_order = record {
        me = v.0;
        n = v.1;
        turns = v.2;
        peers = ap (λ p. p.items) v.3 ∙ c.in-Ok.ensures.items ∙ c.as_slice.ensures;
        cluster_is = v.4;
      };
      ended = c.run_node-end.result;
      status = c.node_status.ensures;
      ran = c.run_node-end.ensures;
    })
