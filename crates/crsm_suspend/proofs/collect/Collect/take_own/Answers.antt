use Rattle.std.proofs.Common.{sym, subst}
use Rattle.crsm_suspend.specs.Collecting.{CollectStands}
use Rattle.crsm_suspend.proofs.SoundLemmas.{stays-sound}
use Rattle.crsm_suspend.proofs.collect.Collect.take_own.Goals as goal

pub invariant_of-self : goal.invariant_of-self
invariant_of-self c = stays-sound c.take_own.result c.self.inside.inner c.take_own.new.self c.self.invariant (c.take_own.ensures.sound c.self.invariant) c.take_own.ensures.err

pub returns-clause-got : goal.returns-clause-got
returns-clause-got c = λ n log spec named members pages stands s.
    c.take_own.ensures.got n log spec named members pages stands (subst (CollectStands log spec named members pages) (sym c.self.view_is) s)

pub returns-clause-state : goal.returns-clause-state
returns-clause-state c = λ n log spec named members pages stands s.
    c.take_own.ensures.state n log spec named members pages stands (subst (CollectStands log spec named members pages) (sym c.self.view_is) s)

pub returns-clause-fits : goal.returns-clause-fits
returns-clause-fits c = c.take_own.ensures.fits c.self.invariant
