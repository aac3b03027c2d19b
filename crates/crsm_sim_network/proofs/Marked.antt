-- The network after a change.
use Rattle.std.proofs.Common.{◌≡◌, ◌≤◌, ℕ, true, List, [], ◌∷◌, ◌++◌, length, map, set, Some, None, Bool, ap, sym, ◌∙◌, subst, arith, Vec, Global}
use Rattle.std.specs.Prelude.{slice_get, filter}
use Rattle.std.specs.Vec.{with_item}
use Rattle.std.proofs.lemmas.List.{map-append}
use Rattle.std.proofs.lemmas.Option.{slice_get_past}
use Rattle.crsm_spec.specs.World.{Packet}
use Rattle.crsm_sim_network.specs.declared.packets.PacketEntry.{PacketEntry}
use Rattle.crsm_sim_network.specs.declared.network.Network.{Network}
use Rattle.crsm_sim_network.specs.Packets.{IsPacket, HoldsPackets, HasFresh, NetworkStands, class_of, class_of_packet, is_fresh_for, is_up_among, used_up}
use Rattle.crsm_sim_network.specs.declared.tally.Tally.{Tally}
use Rattle.crsm_sim_network.specs.Tally.{TallyStands}
use Rattle.crsm_sim_network.proofs.Classes.{class_used}
use Rattle.crsm_sim_network.proofs.PacketLists.{packets_length, packets_grown, packets_more, packets_used, packets_here}
use Rattle.crsm_sim_network.proofs.Numbers.{has_used, has_sent, has_kept, has_fewer}

pub marks : (old : Network) (packets : List Packet) (bytes i class : ℕ) (m : PacketEntry) (tally : Tally) → NetworkStands old packets bytes → slice_get old.packets.items i ≡ Some m
    → class ≡ class_of m.to true → TallyStands tally (set (map class_of_packet packets) i class)
    → NetworkStands (record old { packets = with_item old.packets i (record m { is_used = true }); tally = tally }) (used_up i packets) bytes
marks old packets bytes i class m tally h e d stands =
    let found = packets_here old.spelling old.packets.items packets i m h.held e in
    record {
      held = packets_used old.spelling old.packets.items packets i m h.held e;
      fresh = has_used (λ k. true) packets i old.fresh.items h.fresh;
      near = has_used (is_up_among old.ups.items) packets i old.near.items h.near;
      tallied = subst (TallyStands tally) (sym (class_used packets i found.0 class found.1 (d ∙ ap (λ k. class_of k true) found.2.to))) stands;
      counted = h.counted;
    }

pub unmarked : (old : Network) (packets : List Packet) (bytes i : ℕ) → NetworkStands old packets bytes → length old.packets.items ≤ i → NetworkStands old (used_up i packets) bytes
unfolding used_up
unmarked old packets bytes i h l =
    let none : slice_get packets i ≡ None = slice_get_past packets i (omega (arith, l, packets_length old.spelling old.packets.items packets h.held)) in
    rw none h

-- all that is fresh is near, whoever is up
pub turned : (old : Network) (packets : List Packet) (bytes : ℕ) (kept near : Vec ℕ Global) (ups : Vec Bool Global) → NetworkStands old packets bytes
    → kept.items ≡ filter (is_fresh_for (λ k. true) packets) old.fresh.items → near.items ≡ kept.items → NetworkStands (record old { fresh = kept; near = near; ups = ups }) packets bytes
turned old packets bytes kept near ups h e f =
    let fresh = has_kept (λ k. true) packets old.fresh.items kept.items h.fresh e in
    record {
      held = h.held;
      fresh = fresh;
      near = subst (HasFresh (is_up_among ups.items) packets) (sym f) (has_fewer (is_up_among ups.items) packets kept.items fresh);
      tallied = h.tallied;
      counted = h.counted;
    }

-- those that are due stay near
pub nears : (old : Network) (packets : List Packet) (bytes : ℕ) (near : Vec ℕ Global) → NetworkStands old packets bytes
    → near.items ≡ filter (is_fresh_for (is_up_among old.ups.items) packets) old.near.items → NetworkStands (record old { near = near }) packets bytes
nears old packets bytes near h e = record {
  held = h.held;
  fresh = h.fresh;
  near = has_kept (is_up_among old.ups.items) packets old.near.items near.items h.near e;
  tallied = h.tallied;
  counted = h.counted;
}

-- there are more bytes than were sent
pub spelt_more : (old : Network) (packets : List Packet) (bytes : ℕ) (spelling more : List ℕ) → NetworkStands old packets bytes → spelling ≡ old.spelling ++ more → NetworkStands (record old { spelling = spelling }) packets bytes
spelt_more old packets bytes spelling more h e = record {
  held = subst (λ (bs : List ℕ). HoldsPackets bs old.packets.items packets) (sym e) (packets_grown old.spelling more old.packets.items packets h.held);
  fresh = h.fresh;
  near = h.near;
  tallied = h.tallied;
  counted = h.counted;
}

pub sends : (old : Network) (packets : List Packet) (bytes : ℕ) (items : Vec PacketEntry Global) (fresh near : Vec ℕ Global) (tally : Tally) (m : PacketEntry) (p : Packet) → NetworkStands old packets bytes
    → items.items ≡ old.packets.items ++ m ∷ [] → fresh.items ≡ old.fresh.items ++ length packets ∷ [] → near.items ≡ old.near.items ++ length packets ∷ [] → IsPacket old.spelling m p
    → TallyStands tally (map class_of_packet packets ++ class_of_packet p ∷ [])
    → NetworkStands (record old { packets = items; fresh = fresh; near = near; tally = tally }) (packets ++ p ∷ []) bytes
sends old packets bytes items fresh near tally m p h e f g is stands = record {
  held = let P : List PacketEntry → Type 0 = λ ms. HoldsPackets old.spelling ms (packets ++ p ∷ []) in subst P (sym e) (packets_more old.spelling old.packets.items packets m p h.held is);
  fresh = subst (HasFresh (λ k. true) (packets ++ p ∷ [])) (sym f) (has_sent (λ k. true) packets p old.fresh.items h.fresh);
  near = subst (HasFresh (is_up_among old.ups.items) (packets ++ p ∷ [])) (sym g) (has_sent (is_up_among old.ups.items) packets p old.near.items h.near);
  tallied = subst (TallyStands tally) (sym (map-append class_of_packet packets (p ∷ []))) stands;
  counted = h.counted;
}
