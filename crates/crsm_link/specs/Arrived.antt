-- What the receiver's end of a link stands for.
use Rattle.std.specs.Prelude.{◌≡◌, ℕ, List, length}
use Rattle.crsm_base.specs.declared.InEpoch.{InEpoch}
use Rattle.crsm_spec.specs.Link.{taken}
use Rattle.crsm_link.specs.declared.inbound.In.{In}

-- The receiver's end stands for all frames that arrived, in the order of their arrival, each with its number: it has
-- returned those that were taken.
abbrev pub InStands : In → List (ℕ × InEpoch) → Type 0
InStands receiver arrived = receiver.next ≡ length (taken arrived)
