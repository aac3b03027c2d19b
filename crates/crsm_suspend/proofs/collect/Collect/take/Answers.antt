use Rattle.std.proofs.Common.{sym, subst}
use Rattle.crsm_suspend.specs.Collecting.{CollectStands}
use Rattle.crsm_suspend.proofs.SoundLemmas.{some_log, sound-stands, stands-after, stays-sound}
use Rattle.crsm_suspend.proofs.collect.Collect.take.Goals as goal

pub invariant_of-self : goal.invariant_of-self
invariant_of-self c =
    let old = c.self.inside.inner in
    let s = c.self.invariant in
    stays-sound c.take.result old c.take.new.self s
    (stands-after c.take.result _ _ _ _ _ c.take.new.self (c.take.ensures.state (some_log old.epoch old.start) old.spec old.named old.members s.pages (sound-stands old s)))
    c.take.ensures.err

pub returns-clause-got : goal.returns-clause-got
returns-clause-got c = λ log spec named members pages s.
    c.take.ensures.got log spec named members pages (subst (CollectStands log spec named members pages) (sym c.self.view_is) s)

pub returns-clause-state : goal.returns-clause-state
returns-clause-state c = λ log spec named members pages s.
    c.take.ensures.state log spec named members pages (subst (CollectStands log spec named members pages) (sym c.self.view_is) s)

pub returns-clause-fits : goal.returns-clause-fits
returns-clause-fits c =
    let old = c.self.inside.inner in
    let s = c.self.invariant in
    c.take.ensures.fits (some_log old.epoch old.start) old.spec old.named old.members s.pages (sound-stands old s)
