use Rattle.std.proofs.Common.{refl}
use Rattle.crsm_delay.proofs.Handled.{begins, exactly_so}
use Rattle.crsm_delay.proofs.command.run_plan.Goals as goal

pub run_lines-requires : goal.run_lines-requires
run_lines-requires g c = begins c.new.result c.new.result.wanted c.new.ensures.none refl

pub returns-clause-exactly : goal.returns-clause-exactly
returns-clause-exactly g c =
    exactly_so c.new.result.wanted c.args.wanted _ _ _ _ _ c.run_lines.result c.new.ensures.wanted
    (record { complete = c.run_lines.ensures.complete; refused = c.run_lines.ensures.refused; too_long = c.run_lines.ensures.too_long })
