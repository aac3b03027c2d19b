use Rattle.std.proofs.Common.{refl, List, [], true, subst, sym}
use Rattle.crsm_sim_network.specs.declared.packets.PacketEntry.{PacketEntry}
use Rattle.crsm_sim_network.specs.Packets.{HoldsPackets, is_up_among}
use Rattle.crsm_sim_network.proofs.Numbers.{has_none}
use Rattle.crsm_sim_network.proofs.network.Network.new.Goals as goal

pub returns : goal.returns
returns c = record {
  held = let P : List PacketEntry → Type 0 = λ ms. HoldsPackets c.new-2.result ms [] in subst P (sym c.new.ensures.items) tt;
  fresh = has_none (λ k. true) _ c.new-3.ensures.items;
  near = has_none (is_up_among _) _ c.new-5.ensures.items;
  tallied = c.new-6.ensures;
  counted = refl;
}
