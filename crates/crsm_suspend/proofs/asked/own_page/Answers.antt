use Rattle.std.proofs.Common.{◌≡◌, ◌∙◌, ap, arith}
use Rattle.crsm_spec.specs.Log.{above, last_stamp, logged}
use Rattle.crsm_ledger.proofs.ReadLemmas.{stands-logged}
use Rattle.crsm_suspend.proofs.CollectLemmas.{own_is, own_told}
use Rattle.crsm_suspend.proofs.asked.own_page.Goals as goal

pub returns-clause-page : goal.returns-clause-page
returns-clause-page c = λ me n log s.
    let last = c.last_stamp-last.ensures.value me n log s in
    let entries : c.in_ok-entries.entries ≡ above (last_stamp log) (logged log) = c.in_ok-entries.ensures.value (logged log) (stands-logged s) ∙ ap (λ o. above o (logged log)) last in
    own_is log me c.executed_len-executed.result c.last_stamp-last.result c.in_ok-entries.entries (c.executed_len-executed.ensures.value me n log s) last entries

pub returns-clause-told : goal.returns-clause-told
returns-clause-told c = λ me n log s.
    let last = c.last_stamp-last.ensures.value me n log s in
    let entries : c.in_ok-entries.entries ≡ above (last_stamp log) (logged log) = c.in_ok-entries.ensures.value (logged log) (stands-logged s) ∙ ap (λ o. above o (logged log)) last in
    own_told log me c.executed_len-executed.result c.last_stamp-last.result c.in_ok-entries.entries (omega (arith, c.executed_len-executed.ensures.few)) entries c.in_ok-entries.ensures.fit

pub returns-clause-can : goal.returns-clause-can
returns-clause-can c = λ k. record { low = omega (arith, c.executed_len-executed.ensures.few); fit = c.in_ok-entries.ensures.fit; of_epoch = c.in_ok-entries.ensures.epoch }
