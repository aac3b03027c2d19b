use Rattle.std.proofs.Common.{ℕ, refl, subst}
use Rattle.crsm_port_lines.specs.Run.{Ran}
use Rattle.crsm_audit.specs.Exactly.{EndsExactly}
use Rattle.crsm_audit.specs.Handled.{audited}
use Rattle.crsm_audit.proofs.Handled.{begins}
use Rattle.crsm_audit.proofs.command.audit.Goals as goal

pub run_lines-requires : goal.run_lines-requires
run_lines-requires g c =
    let r = c.new.result in begins r.n r refl c.new.ensures.begins

pub returns-clause-ran : goal.returns-clause-ran
returns-clause-ran g c =
    subst (λ (n : ℕ). Ran (audited n) c.run_lines.result (g.I.Source.left c.args.input.now) (g.I.Source.left c.run_lines.new.input) (g.O.Sink.written c.args.output.now) (g.O.Sink.written c.run_lines.new.output))
    c.new.ensures.n c.run_lines.ensures.ran

pub returns-clause-exactly : goal.returns-clause-exactly
returns-clause-exactly g c =
    subst (λ (n : ℕ). EndsExactly n (g.I.Source.left c.args.input.now) (g.I.Source.faults c.args.input.now) (g.I.Source.faults c.run_lines.new.input) (g.O.Sink.faults c.args.output.now)
    (g.O.Sink.faults c.run_lines.new.output) c.run_lines.result) c.new.ensures.n
    (record { complete = c.run_lines.ensures.complete; refused = c.run_lines.ensures.refused; too_long = c.run_lines.ensures.too_long })
