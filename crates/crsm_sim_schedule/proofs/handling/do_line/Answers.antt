use Rattle.std.proofs.Common.{◌++◌, List, ℕ, ap, sym}
use Rattle.crsm_sim_schedule.proofs.handling.do_line.Goals as goal

pub returns-in-Err-NoMemory-clause-err : goal.returns-in-Err-NoMemory-clause-err
returns-in-Err-NoMemory-clause-err g c = λ s good here. (c.args.text.now, ap (λ (t : List ℕ). t ++ c.args.text.now) (sym c.clear.ensures))
