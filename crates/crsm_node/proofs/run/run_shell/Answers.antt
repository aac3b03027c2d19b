use Rattle.std.proofs.Common.{◌≡◌, ◌⊎◌, ◌∙◌, inl, inr, ℕ, sym, subst, Bool, true, false, Err}
use Rattle.std.proofs.lemmas.Result.{err_from_is_err_and}
use Rattle.std.specs.Prelude.{Result}
use Rattle.crsm_replica_detector.specs.Detector.{DetectorStands}
use Rattle.crsm_replica_detector.specs.Watching.{unwatched}
use Rattle.crsm_shell.specs.Words.{has_failed}
use Rattle.crsm_node.specs.declared.errors.NodeError.{NodeError}
use Rattle.crsm_node.specs.declared.errors.NodeError.TheVariants as errors
use Rattle.crsm_node.proofs.run.run_shell.Goals as goal

both : (b : Bool) → b ≡ true → b ≡ false → ⊥
both b is other = cc

abbrev failing : NodeError → Result (Unit {0}) NodeError
failing why = Err why

same_failure : (a b : NodeError) → failing a ≡ failing b → a ≡ b
same_failure a b is = cc

-- where the first lines are not written, the shell has not failed
other_reason : {A : Type 0} (why : NodeError) → ((failing why ≡ failing errors.WriteFault) × A) ⊎ (failing why ≡ failing errors.NoMemory) → why ≡ errors.Failed → ⊥
other_reason why (inl h) is = (let one = same_failure why errors.WriteFault h.0 in cc)
other_reason why (inr h) is = (let one = same_failure why errors.NoMemory h in cc)

pub returns-in_err-write_opening-clause-went : goal.returns-in_err-write_opening-clause-went
returns-in_err-write_opening-clause-went g c is =
    let p = err_from_is_err_and c.from_residual.result c.from_residual.ensures.1 in
    other_reason c.in_err-write_opening.field-0.0 c.in_err-write_opening.ensures.failed.why (sym p.2 ∙ same_failure p.0 errors.Failed (sym p.1 ∙ is))

pub returns-clause-runs : goal.returns-clause-runs
returns-clause-runs g c r stands me =
    let watches = subst (λ (k : ℕ). DetectorStands c.new-detector.result k unwatched) me c.new-detector.ensures in
    inl (record {
      before = c.new-detector.result;
      after = c.serve.new.detector;
      between = c.write_opening.new.sheet;
      opened = c.in_ok-write_opening.ensures.opened;
      later = c.in_ok-write_opening.ensures.later;
      serves = c.serve.ensures.serves r unwatched stands watches;
    })

pub returns-clause-went : goal.returns-clause-went
returns-clause-went g c is = both (has_failed c.args.shell.now) (c.serve.ensures.failed.0 is) c.requires.well
