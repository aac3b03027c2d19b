use Rattle.std.proofs.Common.{◌+◌, ℕ, List, length, ◌∷◌, [], ◌++◌, ◌∙◌, subst, sym}
use Rattle.std.proofs.lemmas.Result.{err_from_is_err_and}
use Rattle.crsm_replica_rerun.specs.Replaying.{Advances}
use Rattle.crsm_text_sheet.specs.declared.line.SheetLine.{SheetLine}
use Rattle.crsm_text_sheet.specs.declared.line.SheetLine.TheVariants.{Entry}
use Rattle.crsm_audit.specs.State.{SheetAdvances}
use Rattle.crsm_audit.proofs.Advancing.{Finds, Takes, finds, is_opened, steps_on}
use Rattle.crsm_audit.proofs.sheet.advance.Goals as goal

pub returns-in_err-batch-clause-err : goal.returns-in_err-batch-clause-err
returns-in_err-batch-clause-err c = λ me n first own steps s.
    let k = c.in_err-batch.ensures.refused me n first own steps s.replayed in
    let r = err_from_is_err_and c.from_residual.result c.from_residual.ensures.1 in rw (r.1, r.2) k

pub returns-in-Entry-clause-ok : goal.returns-in-Entry-clause-ok
returns-in-Entry-clause-ok c = λ me n first own steps s.
    let f = c.in_ok-find.ensures in
    let body = c.in-Entry.bytes in
    let new = c.feed.new.self in
    let after = c.find.new.self in
    let read : Finds c.as_slice.result.now c.args.account.now after = record { held = f.held; me = f.me; list = f.list; dropped = f.dropped } in
    let found : Finds body c.args.account.now after = subst (λ (b : List ℕ). Finds b c.args.account.now after) c.as_slice.ensures read in
    let adv : Advances me n first new own steps (Entry body) c.in_ok-batch.batch =
    subst (λ (l : SheetLine). Advances me n first new own steps l c.in_ok-batch.batch) c.in-Entry.is (c.in_ok-batch.ensures.advances me n first own steps s.replayed) in
    subst (λ (l : SheetLine). SheetAdvances me n first new after own steps l) (sym c.in-Entry.is)
    (finds me n first c.args.rerun.now new c.args.account.now after own steps body c.in_ok-batch.batch s adv found)

pub ledger-requires : goal.ledger-requires
ledger-requires c = is_opened c.args.line.now c.feed.new.self c.in_default.not-Entry c.in_ok-batch.ensures.opened

pub returns : goal.returns
returns c = record {
  ok = λ me n first own steps s.
      let e = c.in_ok-take.ensures in
      let batch = c.in_ok-batch.batch in
      let ledger = c.ledger.result.now in
      let before = c.args.account.now in
      let after = c.take.new.self in
      let line = c.args.line.now in
      let here : Takes c.next_line-at.result batch ledger before after = record { held = e.held; dropped = e.dropped; list = e.list; me = e.me } in
      let t : Takes (first + length own) batch ledger before after = subst (λ (k : ℕ). Takes k batch ledger before after) (c.next_line-at.ensures ∙ s.replayed.next) here in
      let adv = c.in_ok-batch.ensures.advances me n first own steps s.replayed in
      steps_on c.executed_lists_grow.ensures c.batches_are_logged.ensures me n first before after own line c.in_default.not-Entry batch ledger t c.args.rerun.now c.feed.new.self steps s adv
      (c.ledger.ensures.says me n first (own ++ line ∷ []) (steps ++ adv.more) adv.stands);
  leads = c.in_ok-batch.ensures.leads;
  err = λ me n first own steps s. tt;
}
