use Rattle.crsm_world.proofs.Sites.{flush_set, machine_here, pend_found, with_port}
use Rattle.crsm_world.proofs.machines.Machines.flush.Goals as goal

pub returns : goal.returns
returns c n places steps h =
    let old = c.args.self.now in
    let here = pend_found old n places c.args.k steps c.index_mut.result.now h c.requires.within c.index_mut.ensures.value in
    let sent = c.in_ok-first.ensures.sent c.args.k n here.2.replica steps here.2.pends h.well in
    let kept = flush_set old n places c.args.k steps c.index_mut.result.now c.flush.new.self h c.requires.within c.index_mut.ensures.value (λ me m r p. c.in_ok-first.ensures.stands me m r steps p) in
    (sent, with_port _ n places c.flush.new.port kept sent.well)

pub flush-requires : goal.flush-requires
flush-requires c = c.requires.up c.index_mut.result.now (machine_here c.args.self.now.items.items c.args.k _ c.requires.within c.index_mut.ensures.value)
