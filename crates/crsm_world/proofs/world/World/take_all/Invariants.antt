use Rattle.std.proofs.Common.{◌≡◌, Some, length, take}
use Rattle.std.specs.Prelude.{slice_get}
use Rattle.std.specs.List.{AllByRecursion}
use Rattle.crsm_spec.specs.Replica.{Replica}
use Rattle.crsm_spec.specs.World as on_paper
use Rattle.crsm_world.specs.Several.{AreFor, FitsTaken, TookAll}
use Rattle.crsm_world.specs.Machines.{IsNotDownAt}
use Rattle.crsm_world.specs.World.{Holds}
use Rattle.crsm_world.proofs.world.World.take_all.Given as goal

abbrev pub invariant-loop-number : goal.invariant-loop-number
invariant-loop-number l = record {
  count : length l.self.sites.items.items ≡ length l.initial.self.sites.items.items;
  up : IsNotDownAt l.self.sites l.k;
  spelt : AllByRecursion FitsTaken l.taken.items;
  takes : (v : on_paper.World) (r : Replica) → Holds l.initial.self v → slice_get v.sites l.k ≡ Some (on_paper.Site.Up r) → AreFor l.k v.packets l.numbers →
      TookAll l.k l.reading v (take l.number-index l.numbers) l.self l.taken.items;
}
