use Rattle.std.proofs.lemmas.Result.{IfOk-weaker}
use Rattle.crsm_spec.specs.Draft.{Draft, begun}
use Rattle.crsm_spec.specs.Frames.{owed_oks}
use Rattle.crsm_spec.specs.Clients.{commits, replies}
use Rattle.crsm_spec.specs.Step.{Input as InputOnPaper, on_input, if_fitting, idle_at, step}
use Rattle.crsm_core.specs.Inputs.{input_of}
use Rattle.crsm_core.proofs.Fitting.{stands_as}
use Rattle.crsm_core.proofs.StepLemmas.{step_is}
use Rattle.crsm_core.proofs.step.step.Goals as goal

pub returns : goal.returns
returns c =
    IfOk-weaker c.replies.result _ _ (λ _ made r s.
    let i : InputOnPaper = input_of c.args.input.now in
    let t = c.args.reading in
    let x : Draft = begun r in
    let y : Draft = if_fitting x (on_input i t x) in
    let a = c.in_ok-on_input.ensures x s in
    let b = c.in_ok-owed_oks.ensures y a in
    let d = c.in_ok-idle_at.ensures (owed_oks t y) b in
    let e = c.in_ok-commits.ensures (idle_at i t (owed_oks t y)) d in
    let f = made (commits (idle_at i t (owed_oks t y))) e in
    stands_as c.replies.new.self (replies (commits (idle_at i t (owed_oks t y)))) (step r i t) (step_is r i t) f) c.replies.ensures
