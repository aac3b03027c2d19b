use Rattle.std.proofs.Common.{◌≡◌, ◌∙◌, true, false}
use Rattle.crsm_spec.specs.Lists.{has}
use Rattle.crsm_spec.specs.Log.{active}
use Rattle.crsm_spec.specs.Replica.{members_of}
use Rattle.crsm_core.proofs.FrameLemmas.{part_of, no_part}
use Rattle.crsm_core.proofs.frames.takes_part_with.Goals as goal

pub returns-then-is_active : goal.returns-then-is_active
returns-then-is_active c = λ x s.
    let a : active x.replica.log ≡ true = cc (c.is_active.ensures x s) in
    c.is_member.ensures x s ∙ part_of (active x.replica.log) (has (members_of x.replica) c.args.k) a

pub returns-else-is_active : goal.returns-else-is_active
returns-else-is_active c = λ x s.
    let a : active x.replica.log ≡ false = cc (c.is_active.ensures x s) in
    no_part (active x.replica.log) (has (members_of x.replica) c.args.k) a
