use Rattle.std.proofs.Common.{ℕ}
use Rattle.crsm_audit.specs.Lists.{IsWithin}
use Rattle.crsm_audit.specs.declared.account.Account.{Account}
use Rattle.crsm_audit.proofs.Searching.{all_below, below_more, there}
use Rattle.crsm_audit.proofs.judging.odd_list.Goals as goal

pub returns-in-Some-clause-found : goal.returns-in-Some-clause-found
returns-in-Some-clause-found c = record {
  account = c.index-accounts-index.result;
  there = there c.args.accounts.now c.loop-index.index c.index-accounts-index.result c.loop-index-test.true c.index-accounts-index.is;
  differs = c.in-Some.ensures.found;
  before = c.loop-index.invariant;
}

pub loop-index-preserved : goal.loop-index-preserved
loop-index-preserved c =
    below_more c.args.accounts.now (λ (j : ℕ) (a : Account). IsWithin a.entries.list c.args.one.now.list) c.loop-index.index c.index-accounts-index.result c.loop-index-test.true
    c.index-accounts-index.is c.in_default.ensures.none c.loop-index.invariant

pub returns-clause-none : goal.returns-clause-none
returns-clause-none c = all_below c.args.accounts.now (λ (j : ℕ) (a : Account). IsWithin a.entries.list c.args.one.now.list) c.loop-index.index c.loop-index-test.false c.loop-index.invariant
