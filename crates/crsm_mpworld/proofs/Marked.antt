-- The network after a change.
use Rattle.std.proofs.Common.{◌≡◌, ℕ, true, false, List, [], ◌∷◌, ◌++◌, length, Option, Bool, refl, ap, sym, ◌∙◌, subst, arith, Vec, Global}
use Rattle.std.specs.Prelude.{filter, IsSome}
use Rattle.std.proofs.lemmas.List.{map-append}
use Rattle.crsm_mpspec.specs.declared.message.MpMessage.{MpMessage}
use Rattle.crsm_mpspec.specs.World.{Packet, packet_of}
use Rattle.crsm_mpreplica.specs.Fitting.{FitsMessage}
use Rattle.crsm_mpworld.specs.declared.network.MpNetwork.{MpNetwork}
use Rattle.crsm_mpworld.specs.declared.sent.Message.{Message}
use Rattle.crsm_mpworld.specs.Packets.{HasFresh, HasLast, HasSameLast, IsLast, MpNetworkStands, in_memory, is_fresh_for, is_up_among, used_up, with_later}
use Rattle.crsm_mpworld.specs.Sent.{Sent, marked}
use Rattle.crsm_mpworld.proofs.PacketLists.{fit_used, marked_used, all_more}
use Rattle.crsm_mpworld.proofs.Numbers.{has_fewer, later_kept, later_sent, later_used, within_sent, within_used}

pub marks : (old : MpNetwork) (packets : List Packet) (bytes i : ℕ) (sent : Sent) → MpNetworkStands old packets bytes → sent.packets ≡ marked i old.sent.packets
    → MpNetworkStands (record old { sent = sent }) (used_up i packets) bytes
marks old packets bytes i sent h e = record {
  held = e ∙ ap (marked i) h.held ∙ marked_used packets i;
  fit = fit_used packets i h.fit;
  fresh = later_used (λ k. true) packets i old.fresh.items old.fresh_end h.fresh;
  near = later_used (is_up_among old.ups.items) packets i old.near.items old.near_end h.near;
  fresh_end = within_used packets i old.fresh_end h.fresh_end;
  near_end = within_used packets i old.near_end h.near_end;
  counted = h.counted;
}

-- all that is fresh is near, whoever is up
pub turned : (old : MpNetwork) (packets : List Packet) (bytes : ℕ) (kept near : Vec ℕ Global) (ups : Vec Bool Global) (end : ℕ) → MpNetworkStands old packets bytes
    → kept.items ≡ filter (is_fresh_for (λ k. true) packets) (with_later old.fresh.items old.fresh_end packets) → near.items ≡ kept.items → end ≡ length packets
    → MpNetworkStands (record old { fresh = kept; fresh_end = end; near = near; near_end = end; ups = ups }) packets bytes
turned old packets bytes kept near ups end h e f g =
    let fresh = later_kept (λ k. true) packets _ kept.items end h.fresh e g in
    record {
      held = h.held;
      fit = h.fit;
      fresh = fresh;
      near = subst (λ (is : List ℕ). HasFresh (is_up_among ups.items) packets (with_later is end packets)) (sym f) (has_fewer (is_up_among ups.items) packets (with_later kept.items end packets) fresh);
      fresh_end = omega (arith, g);
      near_end = omega (arith, g);
      counted = h.counted;
    }

-- those that are due stay near
pub nears : (old : MpNetwork) (packets : List Packet) (bytes : ℕ) (near : Vec ℕ Global) (end : ℕ) → MpNetworkStands old packets bytes
    → near.items ≡ filter (is_fresh_for (is_up_among old.ups.items) packets) (with_later old.near.items old.near_end packets) → end ≡ length packets
    → MpNetworkStands (record old { near = near; near_end = end }) packets bytes
nears old packets bytes near end h e f = record {
  held = h.held;
  fit = h.fit;
  fresh = h.fresh;
  near = later_kept (is_up_among old.ups.items) packets _ near.items end h.near e f;
  fresh_end = h.fresh_end;
  near_end = omega (arith, f);
  counted = h.counted;
}

-- a message that is kept
pub keeps : (old : MpNetwork) (packets : List Packet) (bytes : ℕ) (sent : Sent) → MpNetworkStands old packets bytes → sent.packets ≡ old.sent.packets
    → MpNetworkStands (record old { sent = sent }) packets bytes
keeps old packets bytes sent h e = record {
  held = e ∙ h.held;
  fit = h.fit;
  fresh = h.fresh;
  near = h.near;
  fresh_end = h.fresh_end;
  near_end = h.near_end;
  counted = h.counted;
}

pub has_last : (network : MpNetwork) (k : ℕ) (m : MpMessage) → IsLast network k m → HasLast network
has_last network k m last = subst (λ (o : Option Message). IsSome o) (sym last.is) refl

-- the same one is still the last
pub still_has_last : (old new : MpNetwork) → HasSameLast old new → HasLast old → HasLast new
still_has_last old new same has = subst (λ (o : Option Message). IsSome o) (sym same) has

pub still_last : (old new : MpNetwork) (k : ℕ) (m : MpMessage) → HasSameLast old new → IsLast old k m → IsLast new k m
still_last old new k m same last = record { is = same ∙ last.is; fits = last.fits }

-- a packet with the message that was kept last
pub sends : (old : MpNetwork) (packets : List Packet) (bytes k to : ℕ) (m : MpMessage) (sent : Sent) → MpNetworkStands old packets bytes → IsLast old k m
    → sent.packets ≡ old.sent.packets ++ record { to = to; is_used = false; message = old.sent.last } ∷ []
    → MpNetworkStands (record old { sent = sent }) (packets ++ packet_of k (to, m) ∷ []) bytes
unfolding packet_of in_memory
sends old packets bytes k to m sent h last e =
    let p = packet_of k (to, m) in
    record {
      held = e ∙ ap (λ (o : Option Message). old.sent.packets ++ record { to = to; is_used = false; message = o } ∷ []) last.is
          ∙ ap (λ ms. ms ++ in_memory p ∷ []) h.held ∙ sym (map-append in_memory packets (p ∷ []));
      fit = all_more (λ q. FitsMessage q.message) packets p h.fit last.fits;
      fresh = later_sent (λ k. true) packets p old.fresh.items old.fresh_end h.fresh_end h.fresh;
      near = later_sent (is_up_among old.ups.items) packets p old.near.items old.near_end h.near_end h.near;
      fresh_end = within_sent packets p old.fresh_end h.fresh_end;
      near_end = within_sent packets p old.near_end h.near_end;
      counted = h.counted;
    }
