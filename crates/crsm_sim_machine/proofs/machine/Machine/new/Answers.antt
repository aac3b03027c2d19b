use Rattle.std.proofs.Common.{[]}
use Rattle.std.proofs.lemmas.Grind.{merely}
use Rattle.crsm_sim_machine.proofs.machine.Machine.new.Goals as goal

pub invariant_of-result-clause-stands : goal.invariant_of-result-clause-stands
invariant_of-result-clause-stands c =
    merely (record { log = []; has = (c.in_ok-never_booted.ensures c.args.me c.args.n).left })
