use Rattle.std.proofs.Common.{◌∙◌, ap, length}
use Rattle.std.specs.Prelude.{◌&&◌, nat_le}
use Rattle.crsm_spec.specs.Log.{executed}
use Rattle.std.specs.Prelude.{not}
use Rattle.crsm_replica_reconfigure.proofs.proposing.is_due.Goals as goal

pub returns : goal.returns
returns c = λ x s.
    ap (λ d. nat_le c.args.value.now.base_len d && not c.has_accepted-has_accepted.result) (c.executed_len-done.ensures x s)
    ∙ ap (λ h. nat_le c.args.value.now.base_len (length (executed x.replica.log)) && not h) (c.has_accepted-has_accepted.ensures x s)
