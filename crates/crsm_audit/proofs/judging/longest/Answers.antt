use Rattle.std.proofs.Common.{ℕ, List, ◌∙◌, ap, sym}
use Rattle.crsm_audit.specs.Lists.{longer, longest_of}
use Rattle.crsm_audit.proofs.Longest.{longest_more}
use Rattle.crsm_audit.proofs.judging.longest.Goals as goal

pub loop-account-init : goal.loop-account-init
unfolding longest_of
loop-account-init c = c.requires

pub loop-account-preserved : goal.loop-account-preserved
loop-account-preserved c =
    c.longer-best.ensures ∙ ap (λ (l : List (List ℕ)). longer l c.account-item.result.entries.list) c.loop-account.invariant
    ∙ sym (longest_more c.args.accounts.now c.loop-account.account-index c.account-item.result c.loop-account-test.true c.account-item.is)
