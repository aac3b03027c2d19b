use Rattle.crsm_port_lines.proofs.Pieces.{no_memory_at}
use Rattle.crsm_port_lines.proofs.run.run_pieces.Goals as goal

pub returns-in_default-clause-ran : goal.returns-in_default-clause-ran
returns-in_default-clause-ran g c = no_memory_at (g.H.Handler.handling c.args.handler) c.args.handler (g.I.Source.left c.args.input.now) (g.O.Sink.written c.args.output.now) c.requires
