use Rattle.std.proofs.Common.{◌≡◌, ◌-◌, sym, ◌∙◌, ap, subst, inl, inr, arith}
use Rattle.std.specs.Prelude.{Some, slice_get}
use Rattle.std.proofs.lemmas.Bool.{cases_lt}
use Rattle.std.proofs.lemmas.Option.{same_Some}
use Rattle.crsm_audit.specs.declared.account.Account.{Account}
use Rattle.crsm_audit.proofs.Searching.{there}
use Rattle.crsm_audit.proofs.origins.last_of.Goals as goal

pub returns-then-accounts-index-clause-found : goal.returns-then-accounts-index-clause-found
returns-then-accounts-index-clause-found c =
    let some = c.loop-index-test.true in
    let most = c.loop-index.invariant.0 in
    record {
      account = c.index-accounts-index.result;
      there = there c.args.accounts.now (c.loop-index.index - 1) c.index-accounts-index.result (omega (arith, some, most)) c.index-accounts-index.is;
      me = ap (λ (a : Account). a.me) c.index-accounts-index.is ∙ c.if-accounts-index.true;
      last = λ j a lt h. c.loop-index.invariant.1 j a (omega (arith, lt)) h;
    }

pub loop-index-preserved : goal.loop-index-preserved
loop-index-preserved c =
    let some = c.loop-index-test.true in
    let most = c.loop-index.invariant.0 in
    let at = there c.args.accounts.now (c.loop-index.index - 1) c.index-accounts-index.result (omega (arith, some, most)) c.index-accounts-index.is in (
      omega (arith, some, most),
      λ j a le h e. elim (cases_lt j c.loop-index.index) [
        | inr ge ↦ c.loop-index.invariant.1 j a ge h e
        | inl lt ↦ (let here : j ≡ c.loop-index.index - 1 = omega (arith, le, lt, some) in
            let same : c.index-accounts-index.result ≡ a = same_Some c.index-accounts-index.result a (sym at ∙ subst (λ k. slice_get c.args.accounts.now k ≡ Some a) here h) in
            c.if-accounts-index.false (ap (λ (z : Account). z.me) (sym c.index-accounts-index.is ∙ same) ∙ e))
      ],
    )
