use Rattle.std.proofs.Common.{◌++◌, map, ap, sym, ◌∙◌}
use Rattle.std.proofs.lemmas.List.{map-append}
use Rattle.crsm_replica_output.specs.Made.{to_replica}
use Rattle.crsm_replica_output.proofs.output.Output.send_all.Goals as goal

pub returns : goal.returns
returns c m sent s e =
    record {
      records = s.records;
      lines = s.lines;
      excess = s.excess;
      sends = c.in_ok-append.ensures.ok
          ∙ ap (λ xs. xs ++ c.args.sends) s.sends
          ∙ ap (λ xs. map to_replica m.sends ++ xs) e
          ∙ sym (map-append to_replica m.sends sent);
      replies = s.replies;
    }
