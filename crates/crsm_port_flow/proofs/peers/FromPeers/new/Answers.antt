use Rattle.std.proofs.Common.{[], ap, arith, length}
use Rattle.crsm_port_flow.proofs.Earlies.{frames_fewer, nothing_kept}
use Rattle.crsm_port_flow.proofs.peers.FromPeers.new.Goals as goal

pub invariant_of-result-clause-few : goal.invariant_of-result-clause-few
invariant_of-result-clause-few c = omega (arith, ap length c.in_ok-with_capacity.ensures.items, frames_fewer [] c.in_ok-new.field-0.frames.items c.in_ok-new.ensures)

pub returns-clause-nothing : goal.returns-clause-nothing
returns-clause-nothing c = nothing_kept c.in_ok-with_capacity.field-0.items c.in_ok-new.field-0.frames.items c.in_ok-with_capacity.ensures.items c.in_ok-new.ensures
