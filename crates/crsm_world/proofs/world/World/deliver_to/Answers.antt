use Rattle.std.proofs.Common.{subst}
use Rattle.crsm_world.specs.Several.{all_gone}
use Rattle.crsm_world.specs.World.{Leads}
use Rattle.crsm_world.proofs.world.World.deliver_to.Goals as goal

pub returns : goal.returns
returns c v r h e f =
    let took = c.in_ok-taken.ensures.takes v r h e f in
    let kept = c.in_ok-first.ensures took.now.n took.now.sites took.steps took.held.sites in
    let led = c.in_ok-lines.ensures c.args.reading v took.now took.steps took.held.network took.runs kept.1 kept.0 in
    subst (λ is. Leads (all_gone c.args.reading is v) c.let_each_out.new.self c.in_ok-lines.lines) took.numbers led
