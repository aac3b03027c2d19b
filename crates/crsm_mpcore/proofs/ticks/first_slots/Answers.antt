use Rattle.std.proofs.Common.{Vec, Global, ◌≡◌, ℕ, Result, IfOk, subst}
use Rattle.std.specs.Prelude.{take}
use Rattle.std.specs.BTreeMap.{keys}
use Rattle.std.proofs.lemmas.Iterator.{items_from_collect, YieldsList-from_take}
use Rattle.std.proofs.lemmas.Iterator.Consumers.{YieldsList-from_rest, YieldsList-from_copied}
use Rattle.crsm_base.specs.Limits.{most_again}
use Rattle.crsm_mpcore.proofs.ticks.first_slots.Goals as goal

pub returns : goal.returns
returns c =
    subst (λ (r : Result (Vec ℕ Global) _). IfOk r (λ w. w.items ≡ take most_again (keys c.args.slots.now))) c.in_ok-first.was
    (items_from_collect c.collect.result c.collect.ensures.ran (YieldsList-from_copied (YieldsList-from_take most_again (YieldsList-from_rest (keys c.args.slots.now) cc) cc)))
