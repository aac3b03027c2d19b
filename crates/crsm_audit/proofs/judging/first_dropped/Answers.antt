use Rattle.std.proofs.Common.{ℕ, subst}
use Rattle.std.specs.Prelude.{Option}
use Rattle.crsm_audit.specs.Judging.{NamesFirst, NoneNamed}
use Rattle.crsm_audit.specs.Lists.{places_of}
use Rattle.crsm_audit.specs.declared.account.Account.{Account}
use Rattle.crsm_audit.proofs.Searching.{all_below, below_more, there}
use Rattle.crsm_audit.proofs.judging.first_dropped.Goals as goal

pub returns-in-Some : goal.returns-in-Some
returns-in-Some c = λ es fit is ascend. record {
  account = c.index-accounts-index.result;
  there = there c.args.accounts.now c.loop-index.index c.index-accounts-index.result c.loop-index-test.true c.index-accounts-index.is;
  first = subst (λ (found : Option ℕ). NamesFirst (places_of es) c.index-accounts-index.result.dropped.items found) c.in-Some.is (c.in_ok-line.ensures es fit is ascend);
  before = c.loop-index.invariant es fit is ascend;
}

pub loop-index-preserved : goal.loop-index-preserved
loop-index-preserved c = λ es fit is ascend.
    below_more c.args.accounts.now (λ (j : ℕ) (a : Account). NoneNamed (places_of es) a.dropped.items) c.loop-index.index c.index-accounts-index.result c.loop-index-test.true
    c.index-accounts-index.is
    (subst (λ (found : Option ℕ). NamesFirst (places_of es) c.index-accounts-index.result.dropped.items found) c.in_default.is (c.in_ok-line.ensures es fit is ascend))
    (c.loop-index.invariant es fit is ascend)

pub returns : goal.returns
returns c = λ es fit is ascend.
    all_below c.args.accounts.now (λ (j : ℕ) (a : Account). NoneNamed (places_of es) a.dropped.items) c.loop-index.index c.loop-index-test.false (c.loop-index.invariant es fit is ascend)
