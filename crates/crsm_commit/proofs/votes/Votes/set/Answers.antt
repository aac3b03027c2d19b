use Rattle.std.proofs.Common.{◌≡◌, Some, subst}
use Rattle.std.specs.Prelude.{if◌then◌else◌}
use Rattle.crsm_base.specs.Order.{stamp_eq}
use Rattle.crsm_commit.specs.Masks.{mask_at}
use Rattle.crsm_commit.proofs.MasksLemmas.{changed_at}
use Rattle.crsm_commit.proofs.votes.Votes.set.Goals as goal

pub returns-clause-ok : goal.returns-clause-ok
returns-clause-ok c s =
    subst (λ masks. mask_at c.insert.new.self.entries s ≡ (if stamp_eq c.args.stamp s then c.args.mask else mask_at masks s)) c.self.view_is
    (changed_at c.args.stamp s c.self.inside.masks.entries c.insert.new.self.entries (Some c.args.mask) (c.in_ok-insert.ensures.updates.0 s))
