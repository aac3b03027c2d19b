use Rattle.std.proofs.Common.{◌≡◌, ◌<◌, ℕ, List, Err, refl, ap, subst, sym, ◌∙◌}
use Rattle.std.specs.List.{AllByRecursion}
use Rattle.std.proofs.lemmas.Result.{err_from_is_err_and}
use Rattle.crsm_base.specs.Members.{IsMembers}
use Rattle.crsm_base.specs.declared.MembersError.{MembersError}
use Rattle.crsm_base.specs.declared.MembersError.TheVariants.{NotAscending, NoMemory as MembersOutOfMemory}
use Rattle.crsm_text.specs.declared.error.LineError.{LineError}
use Rattle.crsm_text.specs.declared.error.LineError.TheVariants.{NoMemory as OutOfMemory}
use Rattle.crsm_text.proofs.Commas.{members_fit, members_some, members_below}
use Rattle.crsm_text.proofs.list.read_members.Goals as goal

by_error : (error : MembersError) (refusal : LineError) → (error ≡ MembersOutOfMemory → refusal ≡ OutOfMemory) → (error ≡ NotAscending → ⊥) → refusal ≡ OutOfMemory
by_error NotAscending refusal memory other = absurd (other refl)
by_error MembersOutOfMemory refusal memory other = memory refl

pub returns-in_err-numbers-clause-only : goal.returns-in_err-numbers-clause-only
returns-in_err-numbers-clause-only c = λ members are e.
    let k = c.in_err-numbers.ensures.only members (members_fit members are) (members_some members are) e in
    let r = err_from_is_err_and c.from_residual.result c.from_residual.ensures.1 in rw (r.1, r.2) k

pub returns-in_err-replicas-clause-only : goal.returns-in_err-replicas-clause-only
returns-in_err-replicas-clause-only c = λ members are e.
    let read : c.in_ok-numbers.numbers.items ≡ members = c.in_ok-numbers.ensures.only members (members_fit members are) (members_some members are) e in
    let below = subst (λ (xs : List ℕ). AllByRecursion (λ n. n < 15) xs) (sym (c.as_slice.ensures.value ∙ read)) (members_below members are) in
    let k = c.in_err-replicas.ensures.only below in
    let r = err_from_is_err_and c.from_residual-in_err-replicas.result c.from_residual-in_err-replicas.ensures.1 in rw (r.1, r.2) k

pub returns-in-Ok-clause-only : goal.returns-in-Ok-clause-only
returns-in-Ok-clause-only c = λ members are e.
    let read : c.in_ok-numbers.numbers.items ≡ members = c.in_ok-numbers.ensures.only members (members_fit members are) (members_some members are) e in
    cc (c.in-Ok.ensures.value.0, c.in_ok-replicas.ensures.found, c.as_slice.ensures.value, c.as_slice-2.ensures.value)

pub returns-clause-only : goal.returns-clause-only
returns-clause-only c = λ members are e.
    let read : c.in_ok-numbers.numbers.items ≡ members = c.in_ok-numbers.ensures.only members (members_fit members are) (members_some members are) e in
    let same : c.as_slice-2.result.now ≡ members = cc (c.in_ok-replicas.ensures.found, c.as_slice.ensures.value, c.as_slice-2.ensures.value) in
    let are_so : IsMembers c.as_slice-2.result.now = subst IsMembers (sym same) are in
    by_error c.in-Err.error c.members_refusal.result c.members_refusal.ensures (λ not_so. c.in-Err.ensures.not_ascending (ap (λ (x : MembersError). Err x) not_so) are_so)
