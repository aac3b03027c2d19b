use Rattle.std.proofs.Common.{◌≡◌, ◌∙◌, ℕ, Bool, true, false, List, refl, sym, ap}
use Rattle.std.specs.Prelude.{if◌then◌else◌}
use Rattle.std.specs.List.{list_all}
use Rattle.std.proofs.lemmas.Bool.{false≢true}
use Rattle.std.proofs.lemmas.Result.{IfOk-weaker}
use Rattle.crsm_spec.specs.Lists.{has}
use Rattle.crsm_spec.specs.Replica.{Replica, spec_of, next_spec}
use Rattle.crsm_replica_reconfigure.proofs.reconfiguring.next_spec.Goals as goal

all_of : (r : Replica) (ms spec named members : List ℕ) (t : Bool) → t ≡ list_all (has named) members → named ≡ spec → members ≡ ms → spec ≡ spec_of r →
    t ≡ list_all (has (spec_of r)) ms
all_of r ms spec named members t says same_spec same own =
    says ∙ ap (λ ks. list_all (has ks) members) (same_spec ∙ own) ∙ ap (λ ks. list_all (has (spec_of r)) ks) same

stays : (r : Replica) (ms : List ℕ) → list_all (has (spec_of r)) ms ≡ true → spec_of r ≡ next_spec r ms
unfolding next_spec
stays r ms is = go (list_all (has (spec_of r)) ms) is
  where
    go : (t : Bool) → t ≡ true → spec_of r ≡ (if t then spec_of r else ms)
    go true e = refl
    go false e = absurd (false≢true e)

changes : (r : Replica) (ms : List ℕ) → list_all (has (spec_of r)) ms ≡ false → ms ≡ next_spec r ms
unfolding next_spec
changes r ms is = go (list_all (has (spec_of r)) ms) is
  where
    go : (t : Bool) → t ≡ false → ms ≡ (if t then spec_of r else ms)
    go false e = refl
    go true e = absurd (false≢true (sym e))

pub returns-then-are_of_spec : goal.returns-then-are_of_spec
returns-then-are_of_spec c =
    IfOk-weaker c.copy.result _ _ (λ next is x own.
    let all = all_of x.replica c.args.members.now c.args.spec.now c.as_slice-2.result.now c.as_slice.result.now c.are_among-are_of_spec.result
    c.are_among-are_of_spec.ensures c.as_slice-2.ensures.value c.as_slice.ensures.value own in
    is ∙ own ∙ stays x.replica c.args.members.now (sym all ∙ c.if-are_of_spec.true)) c.copy.ensures

pub returns : goal.returns
returns c =
    IfOk-weaker c.copy-2.result _ _ (λ next is x own.
    let all = all_of x.replica c.args.members.now c.args.spec.now c.as_slice-2.result.now c.as_slice.result.now c.are_among-are_of_spec.result
    c.are_among-are_of_spec.ensures c.as_slice-2.ensures.value c.as_slice.ensures.value own in
    is ∙ changes x.replica c.args.members.now (sym all ∙ c.if-are_of_spec.false)) c.copy-2.ensures
