use Rattle.std.proofs.Common.{◌≡◌, ◌∙◌, ap, subst}
use Rattle.std.specs.Prelude.{unwrap_or}
use Rattle.crsm_commit.specs.Masks.{mask_at}
use Rattle.crsm_commit.proofs.MasksLemmas.{found_at}
use Rattle.crsm_commit.proofs.votes.Votes.of.Goals as goal

pub returns : goal.returns
returns c =
    subst (λ masks. c.unwrap_or.result ≡ mask_at masks c.args.stamp) c.self.view_is
    (c.unwrap_or.ensures ∙ ap (λ o. unwrap_or o 0) (c.copied.ensures ∙ c.get.ensures.value ∙ found_at c.args.stamp c.self.inside.masks.entries))
