use Rattle.std.proofs.Common.{◌≡◌, ◌≢◌, ℕ, List, length, get_or, true, sym, ◌∙◌, subst}
use Rattle.std.specs.Prelude.{Some, nat_lt, slice_get}
use Rattle.std.proofs.lemmas.Bool.{ltb-true}
use Rattle.std.proofs.lemmas.Option.{same_Some}
use Rattle.crsm_audit.specs.Judging.{HasNever, IsLast}
use Rattle.crsm_audit.specs.declared.account.Account.{Account}
use Rattle.crsm_audit.proofs.Searching.{there}
use Rattle.crsm_audit.proofs.origins.Origins.is_strange.Goals as goal

strange : (accounts : List Account) (k i : ℕ) (account : Account) (bytes : List ℕ) → IsLast accounts k i → true ≡ nat_lt i (length accounts) → account ≡ get_or accounts i account
    → ((p : ℕ) → slice_get account.entries.held p ≢ Some bytes) → HasNever accounts k bytes
strange accounts k i account bytes l lt is never =
    let same : account ≡ l.account = same_Some account l.account (sym (there accounts i account (ltb-true i (length accounts) (sym lt)) is) ∙ l.there) in
    record { i = i; last = l; never = λ p h. never p (subst (λ (a : Account). slice_get a.entries.held p ≡ Some bytes) (sym same) h) }

pub returns-in-None-clause-yes : goal.returns-in-None-clause-yes
returns-in-None-clause-yes c = λ stands t.
    let says = stands c.args.node c.if-node-ge15.false in
    let l : IsLast c.args.accounts.now c.args.node c.in-Some.index = rw c.in-Some.is at says in
    let at = c.in-Some-get.ensures.lookup in
    strange c.args.accounts.now c.args.node c.in-Some.index c.in-Some-get.account.now c.args.bytes.now l at.0 at.1 c.in-None.ensures.none
