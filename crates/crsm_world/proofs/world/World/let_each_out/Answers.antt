use Rattle.std.proofs.Common.{◌≡◌, [], ◌∷◌, ◌∙◌, ap, sym, subst, arith, List, length}
use Rattle.std.specs.List.{AllByRecursion}
use Rattle.std.specs.Vec.Iter.{into_iter_items}
use Rattle.crsm_sim_network.specs.Packets.{AreSpelt}
use Rattle.crsm_port.specs.Meaning.{Packet as Sent}
use Rattle.crsm_port.specs.Sent.{packets_of}
use Rattle.crsm_world.specs.declared.groups.DeliveredStep.{DeliveredStep}
use Rattle.crsm_world.specs.Machines.{MachinesStand}
use Rattle.crsm_world.specs.Several.{FitsTaken}
use Rattle.crsm_world.proofs.Series.{nothing_left, out_all, out_more}
use Rattle.crsm_world.proofs.world.World.let_each_out.Goals as goal

pub loop-one-preserved : goal.loop-one-preserved
loop-one-preserved c =
    let at = c.loop-one in
    let steps : into_iter_items at.one-iterator ≡ c.in-Some.one ∷ into_iter_items c.next.new.self = c.in-Some.ensures.steps.0 in
    record {
      sites = at.invariant.sites;
      len = let was = at.invariant.len in let gone = c.in-Some.ensures.steps.1 in let short = ap length steps in omega arith;
      spelt = (subst (λ (ts : List DeliveredStep). AllByRecursion FitsTaken ts) steps at.invariant.spelt).1;
      out = λ t v now drafts h runs sent.
          let sent_is = c.sent.ensures ∙ ap (λ s. s.port.sent) at.invariant.sites in
          let there : AreSpelt c.in-Some.one.step.batch.sends c.args.self.now.sites.port.sent at.place → AreSpelt c.in-Some.one.step.batch.sends (packets_of c.sent.result.now) at.place =
          subst (λ (ds : List Sent). AreSpelt c.in-Some.one.step.batch.sends ds at.place) (sym sent_is) in
          out_more c.args.k t v now _ _ _ c.in-Some.one _ at.place c.in_ok-next.next at.self (record at.self { network = c.let_all_out.new.network }) at.lines c.let_all_out.new.lines (at.invariant.out t v now drafts h runs sent) steps (λ spelt. c.in_ok-next.ensures.behind (there spelt))
          (λ u x network made spelt. c.in_ok-next.ensures.stands _ u.bytes x (c.use_up.ensures u.packets u.bytes network) made (there spelt));
    }

pub returns : goal.returns
returns c t v now drafts h runs sites sent =
    let at = c.loop-one in
    let empty : into_iter_items at.one-iterator ≡ [] = nothing_left _ (sym at.invariant.len ∙ c.in-None.ensures.steps.0) in
    out_all c.args.k t v now _ _ _ _ at.self at.lines (at.invariant.out t v now drafts h runs sent) empty (subst (λ s. MachinesStand s now.n now.sites) (sym at.invariant.sites) sites)
