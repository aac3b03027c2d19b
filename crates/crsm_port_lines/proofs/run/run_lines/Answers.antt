use Rattle.crsm_port_lines.proofs.Exact as exact
use Rattle.crsm_port_lines.proofs.run.run_lines.Goals as goal

pub returns-clause-complete : goal.returns-clause-complete
returns-clause-complete g c = λ x lines fits may are is short no_read no_write.
    exact.completed (g.H.Handler.handling c.args.handler) x c.run_pieces.result _ _ _ _ lines c.run_pieces.ensures.ran
    (λ e. no_read (c.run_pieces.ensures.read e)) (λ e. no_write (c.run_pieces.ensures.write e)) fits may are is short

pub returns-clause-refused : goal.returns-clause-refused
returns-clause-refused g c = λ x lines shown text more why fits are is bad short no_read no_write.
    exact.refused (g.H.Handler.handling c.args.handler) x c.run_pieces.result _ _ _ _ lines shown text more why c.run_pieces.ensures.ran
    (λ e. no_read (c.run_pieces.ensures.read e)) (λ e. no_write (c.run_pieces.ensures.write e)) fits are is bad short

pub returns-clause-too_long : goal.returns-clause-too_long
returns-clause-too_long g c = λ x lines rest more fits are part long some is no_read no_write.
    exact.too_long (g.H.Handler.handling c.args.handler) x c.run_pieces.result _ _ _ _ lines rest more c.run_pieces.ensures.ran
    (λ e. no_read (c.run_pieces.ensures.read e)) (λ e. no_write (c.run_pieces.ensures.write e)) fits are part long some is

pub returns-clause-limit : goal.returns-clause-limit
returns-clause-limit g c = λ bytes is long. exact.not_done (g.H.Handler.handling c.args.handler) c.run_pieces.result _ _ _ _ bytes c.run_pieces.ensures.ran is long

pub returns-clause-within : goal.returns-clause-within
returns-clause-within g c = λ bytes is short. exact.not_too_long (g.H.Handler.handling c.args.handler) c.run_pieces.result _ _ _ _ bytes c.run_pieces.ensures.ran is short
