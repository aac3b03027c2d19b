use Rattle.std.proofs.Common.{ap}
use Rattle.crsm_audit.specs.Entries.{EntryLists}
use Rattle.crsm_audit.proofs.Taking.{begun, new_account}
use Rattle.crsm_audit.proofs.state.Sheets.begin.Goals as goal

pub returns : goal.returns
returns c = λ ls at d.
    let a = c.new.result in
    let e = c.new.ensures in
    begun c.args.n c.args.at c.args.me ls c.args.self.now.accounts.items _ a d at c.in_ok-push.ensures.items c.new-2.ensures
    (λ first. new_account c.args.me c.args.n first a e.me (ap (λ (x : EntryLists). x.list) e.entries) (ap (λ (x : EntryLists). x.held) e.entries) e.dropped)
