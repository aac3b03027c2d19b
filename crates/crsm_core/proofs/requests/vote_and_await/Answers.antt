use Rattle.std.proofs.Common.{sym, subst}
use Rattle.std.proofs.lemmas.Result.{IfOk-weaker}
use Rattle.crsm_base.specs.Spelling.{FitsEntry}
use Rattle.crsm_spec.specs.Types.{Entry}
use Rattle.crsm_spec.specs.Clients.{await}
use Rattle.crsm_spec.specs.Draft.{count_vote}
use Rattle.crsm_replica.specs.Replica.{ReplicaStands}
use Rattle.crsm_core.proofs.requests.vote_and_await.Goals as goal

pub await_entry-requires : goal.await_entry-requires
await_entry-requires c = subst FitsEntry (sym c.in_ok-awaited.ensures) c.requires.spelt

pub returns : goal.returns
returns c =
    IfOk-weaker c.await_entry.result _ _ (λ _ made x s.
    let y = count_vote c.args.entry.now.stamp c.args.me x in
    subst (λ (e : Entry). ReplicaStands c.await_entry.new.self (await c.args.address e y)) c.in_ok-awaited.ensures
    (made y (c.in_ok-count_vote.ensures x s))) c.await_entry.ensures
