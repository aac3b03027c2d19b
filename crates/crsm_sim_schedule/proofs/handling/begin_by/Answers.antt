use Rattle.std.proofs.Common.{◌++◌, List, ℕ, ap, sym}
use Rattle.crsm_sim_schedule.proofs.handling.begin_by.Goals as goal

pub returns-in_default-begin-clause-err : goal.returns-in_default-begin-clause-err
returns-in_default-begin-clause-err g c = (c.args.text.now, ap (λ (t : List ℕ). t ++ c.args.text.now) (sym c.clear.ensures))
