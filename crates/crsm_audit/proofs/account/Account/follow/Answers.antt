use Rattle.std.proofs.Common.{◌≤◌, ◌+◌, ℕ, List, [], ◌∷◌, ◌++◌, length, take_all, ap, ◌∙◌, arith}
use Rattle.crsm_base.specs.Spelling.{entry_bytes}
use Rattle.crsm_spec.specs.Log.{executed}
use Rattle.crsm_audit.specs.Accounts.{spelt}
use Rattle.crsm_audit.proofs.Searching.{map_more, some_at}
use Rattle.crsm_audit.proofs.account.Account.follow.Goals as goal

pub loop-place-preserved : goal.loop-place-preserved
loop-place-preserved c =
    let before = c.loop-place.invariant in
    let same = c.in_ok-add_executed.ensures.same in (
      λ me n log es stands pre list.
          let i = before.0 me n log es stands pre list in
          let len = c.executed_len-place-end.ensures.value me n log stands in
          let lt = c.loop-place-test.true in
          let x = some_at (executed log) c.loop-place.place (omega (arith, len, lt)) in
          let le : c.loop-place.place + 1 ≤ length (executed log) = omega (arith, len, lt) in (
            c.in_ok-add_executed.ensures.list me n log x.0 stands x.1 ∙ ap (λ (z : List (List ℕ)). z ++ entry_bytes x.0 ∷ []) i.0
                ∙ map_more entry_bytes (executed log) c.loop-place.place x.0 x.1,
            le,
          ),
      same.0 ∙ before.1,
      same.1 ∙ before.2,
      same.2 ∙ before.3,
    )

pub returns-clause-list : goal.returns-clause-list
returns-clause-list c = λ me n log es stands pre list.
    let i = c.loop-place.invariant.0 me n log es stands pre list in
    let len = c.executed_len-place-end.ensures.value me n log stands in
    let le = c.loop-place-test.false in
    i.0 ∙ ap spelt (take_all c.loop-place.place (executed log) (omega (arith, len, le)))
