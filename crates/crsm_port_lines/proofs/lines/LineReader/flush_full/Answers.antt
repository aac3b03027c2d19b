use Rattle.std.proofs.Common.{[]}
use Rattle.crsm_port_lines.specs.State.{state_of}
use Rattle.crsm_port_lines.proofs.Pieces.{nothing_carries, flush_on, flush_off}
use Rattle.crsm_port_lines.proofs.lines.LineReader.flush_full.Goals as goal

pub returns-then-as_slice-lt-FULL_BYTES-clause-ok : goal.returns-then-as_slice-lt-FULL_BYTES-clause-ok
returns-then-as_slice-lt-FULL_BYTES-clause-ok g c = λ first. nothing_carries (g.H.Handler.handling first) (g.O.Sink.written c.args.output.now) (state_of c.args.self.now) []

pub returns-clause-ok : goal.returns-clause-ok
returns-clause-ok g c = λ first. flush_on (g.H.Handler.handling first) c.flush.result _ _ (state_of c.args.self.now) (state_of c.flush.new.self) c.flush.ensures.put c.flush.ensures.state

pub returns-clause-err : goal.returns-clause-err
returns-clause-err g c = λ first. flush_off (g.H.Handler.handling first) c.flush.result _ _ (state_of c.args.self.now) (state_of c.flush.new.self) c.flush.ensures.fault c.flush.ensures.prefix c.flush.ensures.state
