use Rattle.crsm_sim_schedule.proofs.Handled.{handles_if}
use Rattle.crsm_sim_schedule.proofs.handling.ReplayingHandler.line.Goals as goal

pub returns-clause-ok : goal.returns-clause-ok
returns-clause-ok g c = λ first lines shown number so.
    handles_if g.S.Simulation.rules g.S.Simulation.stands c.take_line.result _ c.args.at c.args.line.now c.args.text.now c.take_line.new.text c.args.self.now.simulation lines shown
    c.take_line.ensures.ok number so
