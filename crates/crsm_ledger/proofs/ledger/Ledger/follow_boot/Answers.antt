use Rattle.std.proofs.Common.{◌≡◌, ℕ, ◌+◌, ◌<◌, ◌∷◌, subst, sym, arith, false}
use Rattle.crsm_spec.specs.Types.{Rec}
use Rattle.crsm_ledger.specs.Ledger.{FieldsStand}
use Rattle.crsm_spec.specs.Clock.{u64_max}
use Rattle.crsm_ledger.proofs.KeepLemmas.{boots-below}
use Rattle.crsm_ledger.proofs.StepLemmas.{says-boot}
use Rattle.crsm_ledger.proofs.ledger.Ledger.follow_boot.Goals as goal

pub returns-clause-kept : goal.returns-clause-kept
returns-clause-kept c = λ m k me n log s fit.
    let few : c.args.self.now.boots < u64_max = boots-below s m k fit in
    let count : c.saturating_add-self.result ≡ c.args.self.now.boots + 1 = omega (arith, few, c.saturating_add-self.ensures) in
    subst (λ (b : ℕ). FieldsStand me n (record c.args.self.now { boots = b; is_live = false }) (Rec.Boot m k ∷ log)) (sym count) (says-boot s m k)
