use Rattle.std.proofs.Common.{ℕ, List, Option, sym, subst, ◌∙◌}
use Rattle.crsm_replica_detector.specs.Wishing.{Suspects}
use Rattle.crsm_replica_detector.proofs.Timely.{receive_wished, suspect_wished}
use Rattle.crsm_replica_detector.proofs.timers.Timers.wish.Goals as goal

pub returns-in-Some : goal.returns-in-Some
returns-in-Some c n log t stands alike =
    let due = sym (c.tick_is_due.ensures t alike) ∙ c.if-tick_is_due.false in
    let S : Option (List ℕ) → Type 0 = λ o. Suspects c.args.me n t log o in
    suspect_wished c.args.me n t log c.in-Some.members due (subst S c.in-Some.is (c.in_ok-members.ensures n log t stands alike))

pub returns-in-None : goal.returns-in-None
returns-in-None c n log t stands alike =
    let due = sym (c.tick_is_due.ensures t alike) ∙ c.if-tick_is_due.false in
    let S : Option (List ℕ) → Type 0 = λ o. Suspects c.args.me n t log o in
    receive_wished c.args.me n t log due (subst S c.in-None.is (c.in_ok-members.ensures n log t stands alike))
