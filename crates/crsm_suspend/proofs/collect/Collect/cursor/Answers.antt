use Rattle.std.proofs.Common.{sym, subst}
use Rattle.crsm_base.specs.Spelling.{FitsOption, FitsStamp}
use Rattle.crsm_fact_log.proofs.DecisionsFit.{cursor_fits}
use Rattle.crsm_suspend.specs.Collecting.{CollectStands}
use Rattle.crsm_suspend.proofs.FitLemmas.{pages_fit}
use Rattle.crsm_suspend.proofs.SoundLemmas.{some_log, sound-stands}
use Rattle.crsm_suspend.proofs.collect.Collect.cursor.Goals as goal

pub returns-clause-value : goal.returns-clause-value
returns-clause-value c = λ log spec named members pages s. c.cursor.ensures log spec named members pages (subst (CollectStands log spec named members pages) (sym c.self.view_is) s)

pub returns-clause-fits : goal.returns-clause-fits
returns-clause-fits c =
    let inner = c.self.inside.inner in
    let sound = c.self.invariant in
    let is = c.cursor.ensures (some_log inner.epoch inner.start) inner.spec inner.named inner.members sound.pages (sound-stands inner sound) in
    subst (FitsOption FitsStamp) (sym is) (cursor_fits inner.epoch sound.pages c.args.k (pages_fit inner.epoch sound.pages sound.told))
