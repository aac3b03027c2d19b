-- What a world stands for.
use Rattle.std.specs.Prelude.{◌≡◌, true, false, List}
use Rattle.crsm_mpspec.specs.declared.line.MpLine.{MpLine}
use Rattle.crsm_mpspec.specs.World.{World, Moment}
use Rattle.crsm_mpworld.specs.declared.world.MpWorld.{MpWorld}
use Rattle.crsm_mpworld.specs.Sites.{StandFor}
use Rattle.crsm_mpworld.specs.Packets.{MpNetworkStands}

-- The world has the sites, the messages and the bytes of this one of the definitions.
pub record Holds (w : MpWorld) (v : World) : Type 0 where
  pub n : w.n ≡ v.n
  pub sites : StandFor w.sites v.n v.sites
  pub network : MpNetworkStands w.network v.packets v.bytes

-- the world is what the moment leads to, and the lines are its lines
pub record Leads (m : Moment) (w : MpWorld) (lines : List MpLine) : Type 0 where
  pub after : Holds w m.after
  pub told : lines ≡ m.lines

-- The world in memory stands for this one of the definitions.
pub record StandsInside (w : MpWorld) (v : World) : Type 0 where
  pub unspent : w.is_spent ≡ false
  pub holds : Holds w v

unfoldable pub MpWorldStands : MpWorld → World → Type 0
MpWorldStands w v = StandsInside w v

-- memory ran out in it: nothing is promised any more
unfoldable pub IsSpent : MpWorld → Type 0
IsSpent w = w.is_spent ≡ true

-- for each world of the definitions that the world stands for
abbrev pub WhereStands : MpWorld → (World → Type 0) → Type 0
WhereStands w P = (v : World) → MpWorldStands w v → P v

-- for each world of the definitions whose parts the world holds
abbrev pub WhereHolds : MpWorld → (World → Type 0) → Type 0
WhereHolds w P = (v : World) → Holds w v → P v
