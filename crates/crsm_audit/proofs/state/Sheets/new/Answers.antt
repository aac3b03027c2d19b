use Rattle.std.proofs.Common.{◌∙◌, ap, ◌++◌, ◌∷◌, [], List}
use Rattle.crsm_audit.specs.declared.account.Account.{Account}
use Rattle.crsm_audit.specs.Entries.{EntryLists}
use Rattle.crsm_audit.proofs.Taking.{begun, new_account}
use Rattle.crsm_audit.proofs.state.Sheets.new.Goals as goal

pub returns : goal.returns
returns c = λ ls at d.
    let a = c.new.result in
    let e = c.new.ensures in
    begun c.args.n c.args.at c.args.me ls [] _ a d at (c.in_ok-push.ensures.items ∙ ap (λ (before : List Account). before ++ a ∷ []) c.new-accounts.ensures.items) c.new-rerun.ensures
    (λ first. new_account c.args.me c.args.n first a e.me (ap (λ (x : EntryLists). x.list) e.entries) (ap (λ (x : EntryLists). x.held) e.entries) e.dropped)
