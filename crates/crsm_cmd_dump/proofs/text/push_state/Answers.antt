use Rattle.std.proofs.Common.{◌≡◌, ◌∙◌, ◌++◌, ℕ, List, [], ◌∷◌, ap, codes}
use Rattle.std.proofs.lemmas.Result.{on_ok_weaker}
use Rattle.crsm_spec.specs.Types.{Ballot, Decision}
use Rattle.crsm_spec.specs.Log.{executed, known, members, spec}
use Rattle.std.specs.Prelude.{length}
use Rattle.crsm_fact_log.proofs.Known.{known-epoch, known-members}
use Rattle.crsm_cmd_dump.specs.Texts.{replicas_row, row, state_text}
use Rattle.crsm_cmd_dump.proofs.Chains.{seven}
use Rattle.crsm_cmd_dump.proofs.text.push_state.Goals as goal

pub returns : goal.returns
unfolding state_text
returns c = λ me n log stands.
    let epoch_is : c.known.result.now.epoch ≡ known log = ap (λ (d : Decision). d.epoch) (c.known.ensures.value me n log stands) ∙ known-epoch n log in
    let members_are : c.known-2.result.now.members ≡ members n log = ap (λ (d : Decision). d.members) (c.known-2.ensures.value me n log stands) ∙ known-members n log in
    let ballot_is = c.promised-promised.ensures.value me n log stands in
    let epoch : c.push_row-2.new.out ≡ c.push_row.new.out ++ row (codes "epoch") (known log ∷ []) =
    c.in_ok-push_row-2.ensures ∙ ap (λ (x : ℕ). c.push_row.new.out ++ row (codes "epoch") (x ∷ [])) epoch_is in
    let in_epoch : c.push_replicas.new.out ≡ c.push_row-2.new.out ++ replicas_row (codes "members") (members n log) =
    c.in_ok-push_replicas.ensures ∙ ap (λ (x : List ℕ). c.push_row-2.new.out ++ replicas_row (codes "members") x) members_are in
    let counted : c.push_replicas-2.new.out ≡ c.push_replicas.new.out ++ replicas_row (codes "replicas") (spec n log) =
    c.in_ok-push_replicas-2.ensures ∙ ap (λ (x : List ℕ). c.push_replicas.new.out ++ replicas_row (codes "replicas") x) (c.counted.ensures me n log stands) in
    let done : c.push_row-3.new.out ≡ c.push_replicas-2.new.out ++ row (codes "executed") (length (executed log) ∷ []) =
    c.in_ok-push_row-3.ensures ∙ ap (λ (x : ℕ). c.push_replicas-2.new.out ++ row (codes "executed") (x ∷ [])) (c.executed_len.ensures.value me n log stands) in
    on_ok_weaker c.push_row-4.result
    (λ last. seven c.args.out.now c.push_cluster.new.out c.push_row.new.out c.push_row-2.new.out c.push_replicas.new.out c.push_replicas-2.new.out c.push_row-3.new.out c.push_row-4.new.out _ _ _ _ _ _ _
    c.in_ok-push_cluster.ensures c.in_ok-push_row.ensures epoch in_epoch counted done
    (last ∙ ap (λ (x : ℕ). c.push_row-3.new.out ++ row (codes "promised") (c.promised-promised.result.round ∷ x ∷ [])) c.from.ensures
    ∙ ap (λ (b : Ballot). c.push_row-3.new.out ++ row (codes "promised") (b.round ∷ b.by ∷ [])) ballot_is))
    c.push_row-4.ensures
