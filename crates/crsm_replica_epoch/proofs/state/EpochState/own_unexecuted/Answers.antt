use Rattle.std.proofs.Common.{◌∙◌, ◌==◌, ap, length}
use Rattle.std.proofs.lemmas.List.{length-map}
use Rattle.std.specs.Prelude.{filter}
use Rattle.crsm_spec.specs.Clients.{own_unexecuted}
use Rattle.crsm_spec.specs.Log.{unexecuted}
use Rattle.crsm_commit.specs.Waiting.{stamp_of}
use Rattle.crsm_replica_epoch.proofs.Kept.{the_waiting}
use Rattle.crsm_replica_epoch.proofs.state.EpochState.own_unexecuted.Goals as goal

pub returns : goal.returns
unfolding own_unexecuted
returns c r s me a =
    ap length (c.queue.ensures _ _ _ (the_waiting c.args.self.now r s a)) ∙ length-map (filter (λ e. e.stamp.origin == c.args.me) (unexecuted r.log)) stamp_of
    ∙ ap (λ m. length (filter (λ e. e.stamp.origin == m) (unexecuted r.log))) me
