use Rattle.std.proofs.Common.{◌≡◌, ◌∷◌, sym, subst}
use Rattle.crsm_replica_epoch.specs.EpochState.{EpochStands, forgotten}
use Rattle.crsm_replica_epoch.specs.declared.state.EpochState.{EpochState}
use Rattle.crsm_spec.specs.Log.{known}
use Rattle.crsm_spec.specs.Types.{Rec}
use Rattle.crsm_replica.proofs.epochs.forget.Goals as goal

pub returns : goal.returns
returns c =
    let same : c.new.result ≡ c.replace.new.dest = sym c.replace.ensures.after in record {
      inactive = λ r each not. subst (λ (e : EpochState). EpochStands e (forgotten r)) same (c.new.ensures.inactive r each not);
      entered = λ r each it. subst (λ (e : EpochState). EpochStands e (record (forgotten r) { log = Rec.Enter (known r.log) ∷ r.log })) same (c.new.ensures.entered r each it);
    }
