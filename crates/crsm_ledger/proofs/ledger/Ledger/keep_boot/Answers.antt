use Rattle.std.proofs.Common.{◌≡◌, ℕ, ◌+◌, ◌<◌, [], ◌∷◌, ◌∙◌, ap, arith}
use Rattle.crsm_spec.specs.Types.{Line}
use Rattle.crsm_spec.specs.Clock.{u64_max}
use Rattle.crsm_ledger.proofs.KeepLemmas.{boots-below, lines-boot}
use Rattle.crsm_ledger.proofs.ledger.Ledger.keep_boot.Goals as goal

pub returns-clause-kept : goal.returns-clause-kept
returns-clause-kept c = λ m k me n log s fit.
    let few : c.args.self.now.boots < u64_max = boots-below s m k fit in
    let count : c.saturating_add-count.result ≡ c.args.self.now.boots + 1 = omega (arith, few, c.saturating_add-count.ensures) in (
      c.in_ok-lines.ensures ∙ ap (λ (b : ℕ). Line.Boot c.args.self.now.me b ∷ []) count ∙ lines-boot s m k,
      c.follow_boot.ensures.kept m k me n log s fit,
    )
