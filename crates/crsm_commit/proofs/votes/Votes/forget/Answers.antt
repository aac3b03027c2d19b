use Rattle.std.proofs.Common.{◌≡◌, None, subst}
use Rattle.std.specs.Prelude.{if◌then◌else◌}
use Rattle.crsm_base.specs.Order.{stamp_eq}
use Rattle.crsm_commit.specs.Masks.{mask_at}
use Rattle.crsm_commit.proofs.MasksLemmas.{changed_at}
use Rattle.crsm_commit.proofs.votes.Votes.forget.Goals as goal

pub returns : goal.returns
returns c s =
    subst (λ masks. mask_at c.remove.new.self.entries s ≡ (if stamp_eq c.args.stamp s then 0 else mask_at masks s)) c.self.view_is
    (changed_at c.args.stamp s c.self.inside.masks.entries c.remove.new.self.entries None (c.remove.ensures.updates.0 s))
