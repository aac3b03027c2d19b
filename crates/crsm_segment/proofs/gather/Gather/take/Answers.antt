use Rattle.crsm_segment.specs.Gathering.{heading}
use Rattle.crsm_segment.proofs.Steps.{take_stands, take_answers}
use Rattle.crsm_segment.proofs.gather.Gather.take.Goals as goal

pub returns-clause-state : goal.returns-clause-state
returns-clause-state c =
    take_stands c.take_part.result c.self.inside.peers.items c.args.self.now c.args.from (heading c.args.boot c.args.number c.args.index c.args.count)
    c.args.bytes.now c.index_mut-peer.result.now c.take_part.new.peer c.self.view_is c.requires c.index_mut-peer.ensures.value c.take_part.ensures.state

pub returns-clause-taken : goal.returns-clause-taken
returns-clause-taken c =
    take_answers c.take_part.result c.self.inside.peers.items c.args.self.now c.args.from (heading c.args.boot c.args.number c.args.index c.args.count)
    c.args.bytes.now c.index_mut-peer.result.now c.self.view_is c.requires c.index_mut-peer.ensures.value c.take_part.ensures.taken
