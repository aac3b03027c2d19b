use Rattle.std.proofs.Common.{◌≡◌, ℕ, List, length}
use Rattle.std.specs.List.{AllByRecursion}
use Rattle.std.specs.Vec.Iter.{into_iter_items, into_iter_len}
use Rattle.crsm_sim_machine.specs.Outcomes.{Sends}
use Rattle.crsm_sim_network.specs.Packets.{NetworkStands}
use Rattle.crsm_spec.specs.Draft.{Draft}
use Rattle.crsm_spec.specs.World as on_paper
use Rattle.crsm_world.specs.Several.{FitsTaken, Runs}
use Rattle.crsm_world.proofs.Series.{Out}
use Rattle.crsm_world.proofs.world.World.let_each_out.Given as goal

abbrev pub invariant-loop-one : goal.invariant-loop-one
invariant-loop-one l = record {
  sites : l.self.sites ≡ l.initial.self.sites;
  len : into_iter_len l.one-iterator ≡ length (into_iter_items l.one-iterator);
  spelt : AllByRecursion FitsTaken (into_iter_items l.one-iterator);
  out : (t : ℕ) (v now : on_paper.World) (steps : List Draft) → NetworkStands l.initial.self.network v.packets v.bytes → Runs l.k t v l.fn.taken.items steps now → Sends l.initial.self.sites.port l.fn.first steps →
      Out l.k t v now l.fn.taken.items (into_iter_items l.one-iterator) l.initial.self.sites.port.sent l.place l.self l.lines;
}
