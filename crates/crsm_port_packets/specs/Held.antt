-- What a port of packets holds of the packets that it received, and what it gives.
use Rattle.std.specs.Prelude.{◌⊎◌, ℕ, List}
use Rattle.crsm_port.specs.Passing.{Cut, Datagrams, NoMore, Only, either}
use Rattle.crsm_port_packets.specs.Carrying.{Fragments, bundled_in, carried, fragments_in, put_together}
use Rattle.crsm_port_packets.specs.Format.{FragmentFields}
use Rattle.crsm_port_packets.specs.Kept.{kept_in}
use Rattle.crsm_port_packets.specs.Waiting.{waiting_in}
use Rattle.crsm_port_packets.specs.declared.received.Received.{Received}

-- the fragments that it keeps, and those in these packets
abbrev pub fragments_with : Datagrams → Received → Fragments
fragments_with packets r address f = kept_in r.fragments.pieces.items address f ⊎ fragments_in packets address f

-- the datagrams that these packets and what it holds make: one that came as it is, one that stands whole in a bundle,
-- and one whose fragments all came
abbrev pub made_of : Datagrams → Received → Datagrams
made_of packets r = either (carried packets) (either (waiting_in r.unpacking) (put_together (fragments_with packets r)))

-- what the port gives, where the port below gives these packets
abbrev pub unpacked : Datagrams → Received → Datagrams
unpacked packets r = Cut (made_of packets r)

-- a packet was taken: what waits then waited before or stands in the packet, and so with fragments
pub record Opens (from : ℕ) (packet : List ℕ) (old new : Received) : Type 0 where
  pub waiting : NoMore (either (waiting_in old.unpacking) (bundled_in (Only from packet))) (waiting_in new.unpacking)
  pub kept : (address : ℕ) (f : FragmentFields) → kept_in new.fragments.pieces.items address f → fragments_with (Only from packet) old address f
