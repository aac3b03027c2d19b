use Rattle.std.proofs.Common.{ap}
use Rattle.crsm_port_lines.specs.State.{State, state_of}
use Rattle.crsm_port_lines.proofs.Pieces.{piece_carries, piece_ends, piece_faults}
use Rattle.crsm_port_lines.proofs.UpToDate.{feeds}
use Rattle.crsm_port_lines.proofs.lines.LineReader.feed.Goals as goal

pub returns-in-Ok-clause-ok : goal.returns-in-Ok-clause-ok
returns-in-Ok-clause-ok g c = λ first.
    piece_carries (g.H.Handler.handling first) c.take_lines-taken.result _ _ _ (state_of c.args.self.now) (state_of c.take_lines-taken.new.self) (state_of c.flush.new.self) c.args.piece.now
    (c.take_lines-taken.ensures.ok first) c.in-Ok.ensures.put c.in-Ok.ensures.state

pub returns-in-Ok-clause-err : goal.returns-in-Ok-clause-err
returns-in-Ok-clause-err g c = λ first.
    piece_ends (g.H.Handler.handling first) c.take_lines-taken.result _ _ _ (state_of c.args.self.now) (state_of c.take_lines-taken.new.self) c.args.piece.now (c.take_lines-taken.ensures.err first) c.in-Ok.ensures.put

pub returns-in-Err-clause-err : goal.returns-in-Err-clause-err
returns-in-Err-clause-err g c = λ first.
    rw c.in-Err.ensures.fault (piece_faults (g.H.Handler.handling first) c.take_lines-taken.result _ _ _ (state_of c.args.self.now) (state_of c.take_lines-taken.new.self) c.args.piece.now
    (c.take_lines-taken.ensures.ok first) (c.take_lines-taken.ensures.err first) c.in-Err.ensures.prefix)

pub returns-in-Ok-clause-up_to_date : goal.returns-in-Ok-clause-up_to_date
returns-in-Ok-clause-up_to_date g c = λ first.
    feeds (g.H.Handler.handling first) c.take_lines-taken.result _ _ (state_of c.args.self.now) (state_of c.flush.new.self) c.args.piece.now
    (piece_carries (g.H.Handler.handling first) c.take_lines-taken.result _ _ _ (state_of c.args.self.now) (state_of c.take_lines-taken.new.self) (state_of c.flush.new.self) c.args.piece.now
    (c.take_lines-taken.ensures.ok first) c.in-Ok.ensures.put c.in-Ok.ensures.state)
    (ap (λ (st : State _). st.pending) c.in-Ok.ensures.state)
