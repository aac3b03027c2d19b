use Rattle.std.proofs.Common.{ℕ, List, subst, take_all}
use Rattle.crsm_spec.specs.Node.{Turn}
use Rattle.crsm_sim_machine.specs.Arriving.{turn_of}
use Rattle.crsm_world.specs.Turning.{ending_of, turn_at}
use Rattle.crsm_world.specs.World.{LeadsOn}
use Rattle.crsm_world.proofs.world.World.bytes_arrive.Goals as goal

pub returns : goal.returns
unfolding turn_of
returns c v h =
    subst (λ (bs : List ℕ). LeadsOn (turn_at (ending_of c.args.ending) v c.args.k (Turn.In c.args.from bs) c.args.reading) c.arrive.new.self.sites c.arrive.new.self.network c.args.lines.now c.arrive.new.lines)
    (take_all 8192 c.args.bytes.now c.requires.short) (c.in_ok-arrive.ensures v h)
