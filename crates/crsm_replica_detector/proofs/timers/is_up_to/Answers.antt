use Rattle.std.proofs.Common.{◌∙◌, sym}
use Rattle.crsm_replica_detector.proofs.Timely.{up_to_live}
use Rattle.crsm_replica_detector.proofs.timers.is_up_to.Goals as goal

pub returns-else-not-live : goal.returns-else-not-live
returns-else-not-live c me n log stands =
    c.is_least.ensures ∙ up_to_live c.args.me log c.args.wanted.now (sym (c.live.ensures me n log stands) ∙ c.if-not-live.false)
