use Rattle.std.proofs.Common.{◌∙◌, List, sym, refl, subst, take_all}
use Rattle.std.specs.List.{AllByRecursion}
use Rattle.crsm_world.specs.declared.groups.DeliveredStep.{DeliveredStep}
use Rattle.crsm_world.specs.Several.{FitsTaken, TookAll}
use Rattle.crsm_world.proofs.Series.{took_more, took_none}
use Rattle.crsm_world.proofs.Sites.{pend_begin, pending_from}
use Rattle.crsm_world.proofs.world.World.take_all.Goals as goal

pub loop-number-init : goal.loop-number-init
loop-number-init c = record {
  count = refl;
  up = c.requires.up;
  spelt = subst (λ (ts : List DeliveredStep). AllByRecursion FitsTaken ts) (sym c.new-taken.ensures.items) tt;
  takes = λ v r h e f. took_none c.args.k c.args.reading v c.args.numbers.now c.args.self.now r _
      (record { sites = pend_begin c.args.self.now.sites v.n v.sites c.args.k h.sites (pending_from v.n c.args.k v.sites r e c.machines_pend_nothing.ensures); network = h.network }) e c.new-taken.ensures.items;
}

pub loop-number-preserved : goal.loop-number-preserved
loop-number-preserved c = record {
  count = c.in_ok-take.ensures.count ∙ c.loop-number.invariant.count;
  up = c.in_ok-take.ensures.up;
  spelt = c.in_ok-take.ensures.spelt c.loop-number.invariant.spelt;
  takes = λ v r h e f. took_more c.args.k c.args.reading v c.args.numbers.now c.loop-number.number-index c.loop-number.self c.take.new.self c.loop-number.taken.items c.take.new.taken.items (c.loop-number.invariant.takes v r h e f)
      c.loop-number-test.true f c.in_ok-take.ensures.stands;
}

pub returns-clause-takes : goal.returns-clause-takes
returns-clause-takes c v r h e f =
    subst (λ is. TookAll c.args.k c.args.reading v is c.loop-number.self c.loop-number.taken.items) (take_all c.loop-number.number-index c.args.numbers.now c.loop-number-test.false) (c.loop-number.invariant.takes v r h e f)
