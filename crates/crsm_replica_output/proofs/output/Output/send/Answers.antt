use Rattle.std.proofs.Common.{[], ◌∷◌, ◌++◌, ap, sym, ◌∙◌}
use Rattle.std.proofs.lemmas.List.{map-append}
use Rattle.crsm_replica_output.specs.Made.{to_replica}
use Rattle.crsm_replica_output.proofs.output.Output.send.Goals as goal

pub returns : goal.returns
unfolding to_replica
returns c m s =
    record {
      records = s.records;
      lines = s.lines;
      excess = s.excess;
      sends = c.in_ok-push.ensures.ok ∙ ap (λ xs. xs ++ to_replica (c.args.k, c.args.datagram) ∷ []) s.sends ∙ sym (map-append to_replica m.sends _);
      replies = s.replies;
    }
