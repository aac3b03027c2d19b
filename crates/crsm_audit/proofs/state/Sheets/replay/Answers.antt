use Rattle.std.proofs.Common.{◌-◌, get_or, set, ap, ◌∙◌}
use Rattle.crsm_audit.proofs.Taking.{refuses_on, still_on}
use Rattle.crsm_audit.proofs.state.Sheets.replay.Goals as goal

pub returns-clause-ok : goal.returns-clause-ok
returns-clause-ok c = λ n ls h.
    still_on n c.args.self.now ls c.args.line.now h c.index_mut.result.now (c.index_mut.ensures.value ∙ ap (λ k. get_or c.args.self.now.accounts.items (k - 1) c.index_mut.result.now) (c.len-last.ensures ∙ c.args.self.now.accounts.ok.0))
    c.advance.result _ c.advance.new.account (ap (λ k. set c.args.self.now.accounts.items (k - 1) c.advance.new.account) (c.len-last.ensures ∙ c.args.self.now.accounts.ok.0)) c.advance.ensures.ok

pub returns-clause-err : goal.returns-clause-err
returns-clause-err c = λ n ls h.
    refuses_on n c.args.self.now ls c.args.line.now h c.index_mut.result.now (c.index_mut.ensures.value ∙ ap (λ k. get_or c.args.self.now.accounts.items (k - 1) c.index_mut.result.now) (c.len-last.ensures ∙ c.args.self.now.accounts.ok.0))
    c.advance.result c.advance.ensures.err
