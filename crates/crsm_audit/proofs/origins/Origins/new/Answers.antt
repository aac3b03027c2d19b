use Rattle.std.proofs.Common.{◌≡◌, ℕ, ◌<◌, get_or, length, set, sym, ◌∙◌, subst, inl, inr, arith}
use Rattle.std.specs.Prelude.{Option, None, Some, MatchOption, IfNone, IfSome}
use Rattle.std.proofs.lemmas.Bool.{cases_lt}
use Rattle.std.proofs.lemmas.List.{get_or-set_other, get_or-set_same, length-set}
use Rattle.crsm_audit.specs.Judging.{IsLast, IsOfNone}
use Rattle.crsm_audit.proofs.origins.Origins.new.Goals as goal

both : {A : Type 0} (o : Option A) (P : Type 0) (Q : A → Type 0) → IfNone o P → IfSome o Q → MatchOption o P Q
both None P Q p q = p
both (Some x) P Q p q = q

pub loop-node-preserved : goal.loop-node-preserved
loop-node-preserved c =
    let known = λ (k : ℕ) (o : Option ℕ). MatchOption o (IsOfNone c.args.accounts.now k) (IsLast c.args.accounts.now k) in
    let node = c.loop-node.node in
    let size = c.loop-node.invariant.0 in
    let lt = c.loop-node-test.true in
    let within : node < length c.loop-node.last = omega (arith, size, lt) in (
      length-set c.loop-node.last node c.last_of.result ∙ size,
      λ k less. elim (cases_lt k node) [
        | inl before ↦ subst (known k) (sym (get_or-set_other c.loop-node.last node k c.last_of.result None (λ e. (omega (arith, e, before))))) (c.loop-node.invariant.1 k before)
        | inr ge ↦ (let here : node ≡ k = omega (arith, less, ge) in
            subst (λ j. known j (get_or (set c.loop-node.last node c.last_of.result) j None)) here
            (subst (known node) (sym (get_or-set_same c.loop-node.last node c.last_of.result None within)) (both c.last_of.result _ _ c.last_of.ensures.none c.last_of.ensures.found)))
      ],
    )
