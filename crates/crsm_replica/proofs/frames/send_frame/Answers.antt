use Rattle.std.proofs.Common.{[], ◌∷◌, ◌++◌, subst, refl}
use Rattle.std.proofs.lemmas.Result.{IfOk-weaker}
use Rattle.crsm_replica_output.specs.Made.{OutputStands}
use Rattle.crsm_replica.proofs.Sending.{next-is}
use Rattle.crsm_replica.proofs.frames.send_frame.Goals as goal

pub returns : goal.returns
returns c =
    IfOk-weaker c.send.result _ _ (λ _ is r m runs holds me now.
    subst (λ s. OutputStands c.send.new.self (record m { sends = m.sends ++ s ∷ [] }))
    (next-is r c.args.payload c.args.payload c.args.me c.args.epoch c.pushed_to-seq.result c.args.k me now (c.pushed_to-seq.ensures r runs) refl)
    (is m holds)) c.send.ensures
