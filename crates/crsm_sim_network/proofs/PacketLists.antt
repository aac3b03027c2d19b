-- Datagrams in memory and in the definitions, one by one.
use Rattle.std.proofs.Common.{◌≡◌, ◌+◌, ℕ, zero, suc, arith, length-append, List, [], ◌∷◌, ◌++◌, length, get_or, set, true, Option, Some, None, refl, ap, sym, ◌∙◌, subst, ltb, Bor}
use Rattle.crsm_sim_network.proofs.Gets.{got, not_got, range_grown, range_end}
use Rattle.std.specs.Prelude.{slice_get, slice_range, is_some, IfSome, MatchOption}
use Rattle.std.specs.Option.{option_map_or}
use Rattle.crsm_spec.specs.World.{Packet}
use Rattle.crsm_sim_network.specs.declared.packets.PacketEntry.{PacketEntry}
use Rattle.crsm_sim_network.specs.declared.packets.PacketView.{PacketView}
use Rattle.crsm_sim_network.specs.Packets.{IsPacket, IsPacketView, HoldsPackets, used_up}

-- the datagram that was looked for
abbrev pub Found : List ℕ → Option PacketEntry → Option Packet → Type 0
Found bs None None = Unit {0}
Found bs (Some m) (Some p) = IsPacket bs m p
Found bs None (Some p) = ⊥
Found bs (Some m) None = ⊥

pub packets_length : (bs : List ℕ) (ms : List PacketEntry) (ps : List Packet) → HoldsPackets bs ms ps → length ms ≡ length ps
packets_length bs [] [] h = refl
packets_length bs (m ∷ ms) (p ∷ ps) h = ap suc (packets_length bs ms ps h.1)
packets_length bs [] (p ∷ ps) h = absurd h
packets_length bs (m ∷ ms) [] h = absurd h

-- datagram i in memory is datagram i of the definitions
pub packets_found : (bs : List ℕ) (ms : List PacketEntry) (ps : List Packet) (i : ℕ) → HoldsPackets bs ms ps → Found bs (slice_get ms i) (slice_get ps i)
packets_found bs [] [] i h = tt
packets_found bs (m ∷ ms) (p ∷ ps) zero h = h.0
packets_found bs (m ∷ ms) (p ∷ ps) (suc i) h = packets_found bs ms ps i h.1
packets_found bs [] (p ∷ ps) i h = absurd h
packets_found bs (m ∷ ms) [] i h = absurd h

-- bytes stay where further ones are appended
pub packets_grown : (bs more : List ℕ) (ms : List PacketEntry) (ps : List Packet) → HoldsPackets bs ms ps → HoldsPackets (bs ++ more) ms ps
packets_grown bs more [] [] h = tt
packets_grown bs more (m ∷ ms) (p ∷ ps) h =
    let is = h.0 in (
      record {
        from = is.from;
        to = is.to;
        order = is.order;
        within = omega (arith, is.within, length-append bs more);
        bytes = range_grown bs more m.start m.end is.order is.within ∙ is.bytes;
        fits = is.fits;
        used = is.used;
      },
      packets_grown bs more ms ps h.1,
    )
packets_grown bs more [] (p ∷ ps) h = absurd h
packets_grown bs more (m ∷ ms) [] h = absurd h

-- bytes appended to others stand there
pub spelt_here : (bs more new start end : List ℕ) → new ≡ bs ++ more → start ≡ bs → end ≡ new → slice_range new (length start) (length end) ≡ more
spelt_here bs more new start end e f g =
    let last : length end ≡ length bs + length more = ap length (g ∙ e) ∙ length-append bs more in
    ap (λ xs. slice_range xs (length start) (length end)) e ∙ ap (λ n. slice_range (bs ++ more) n (length end)) (ap length f) ∙ ap (λ n. slice_range (bs ++ more) (length bs) n) last ∙ range_end bs more

pub packets_more : (bs : List ℕ) (ms : List PacketEntry) (ps : List Packet) (m : PacketEntry) (p : Packet) → HoldsPackets bs ms ps → IsPacket bs m p → HoldsPackets bs (ms ++ m ∷ []) (ps ++ p ∷ [])
packets_more bs [] [] m p h is = (is, tt)
packets_more bs (a ∷ ms) (b ∷ ps) m p h is = (h.0, packets_more bs ms ps m p h.1 is)
packets_more bs [] (b ∷ ps) m p h is = absurd h
packets_more bs (a ∷ ms) [] m p h is = absurd h

-- another datagram in place of datagram i, in memory and in the definitions
pub packets_set : (bs : List ℕ) (ms : List PacketEntry) (ps : List Packet) (i : ℕ) (m : PacketEntry) (p : Packet) → HoldsPackets bs ms ps → IsPacket bs m p → HoldsPackets bs (set ms i m) (set ps i p)
packets_set bs [] [] i m p h is = tt
packets_set bs (a ∷ ms) (b ∷ ps) zero m p h is = (is, h.1)
packets_set bs (a ∷ ms) (b ∷ ps) (suc i) m p h is = (h.0, packets_set bs ms ps i m p h.1 is)
packets_set bs [] (b ∷ ps) i m p h is = absurd h
packets_set bs (a ∷ ms) [] i m p h is = absurd h

marked : (bs : List ℕ) (ms : List PacketEntry) (ps : List Packet) (i : ℕ) (m : PacketEntry) (found : Option Packet) → HoldsPackets bs ms ps → Found bs (Some m) found
    → HoldsPackets bs (set ms i (record m { is_used = true })) (option_map_or (λ p. set ps i (record p { used = true })) found ps)
marked bs ms ps i m (Some p) h is = packets_set bs ms ps i _ _ h (record { from = is.from; to = is.to; order = is.order; within = is.within; bytes = is.bytes; fits = is.fits; used = refl })
marked bs ms ps i m None h is = absurd is

-- datagram i is used from now on
pub packets_used : (bs : List ℕ) (ms : List PacketEntry) (ps : List Packet) (i : ℕ) (m : PacketEntry) → HoldsPackets bs ms ps → slice_get ms i ≡ Some m
    → HoldsPackets bs (set ms i (record m { is_used = true })) (used_up i ps)
unfolding used_up
packets_used bs ms ps i m h e = marked bs ms ps i m (slice_get ps i) h (let F : Option PacketEntry → Type 0 = λ o. Found bs o (slice_get ps i) in subst F e (packets_found bs ms ps i h))

-- a datagram of the definitions, and that it is the one in memory
abbrev pub FoundPacket : List ℕ → List Packet → ℕ → PacketEntry → Type 0
FoundPacket bs ps i m = (p : Packet) × (slice_get ps i ≡ Some p) × IsPacket bs m p

with_packets : (bs : List ℕ) (m : PacketEntry) (found : Option Packet) → Found bs (Some m) found → (p : Packet) × (found ≡ Some p) × IsPacket bs m p
with_packets bs m (Some p) is = (p, refl, is)
with_packets bs m None is = absurd is

without_packets : (bs : List ℕ) (found : Option Packet) → Found bs None found → found ≡ None
without_packets bs None is = refl
without_packets bs (Some p) is = absurd is

pub packets_here : (bs : List ℕ) (ms : List PacketEntry) (ps : List Packet) (i : ℕ) (m : PacketEntry) → HoldsPackets bs ms ps → slice_get ms i ≡ Some m → FoundPacket bs ps i m
packets_here bs ms ps i m h e = with_packets bs m (slice_get ps i) (let F : Option PacketEntry → Type 0 = λ o. Found bs o (slice_get ps i) in subst F e (packets_found bs ms ps i h))

pub packets_nowhere : (bs : List ℕ) (ms : List PacketEntry) (ps : List Packet) (i : ℕ) → HoldsPackets bs ms ps → slice_get ms i ≡ None → slice_get ps i ≡ None
packets_nowhere bs ms ps i h e = without_packets bs (slice_get ps i) (let F : Option PacketEntry → Type 0 = λ o. Found bs o (slice_get ps i) in subst F e (packets_found bs ms ps i h))

-- what a look-up gives
pub packets_got : (bs : List ℕ) (ms xs : List PacketEntry) (ps : List Packet) (i : ℕ) (r : Option (Bor PacketEntry)) → HoldsPackets bs ms ps → xs ≡ ms
    → is_some r ≡ ltb i (length xs) → IfSome r (λ x. x.now ≡ get_or xs i x.now) → MatchOption r (slice_get ps i ≡ None) (λ x. FoundPacket bs ps i x.now)
packets_got bs ms xs ps i None h e b is = packets_nowhere bs ms ps i h (ap (λ ys. slice_get ys i) (sym e) ∙ not_got xs i b)
packets_got bs ms xs ps i (Some x) h e b is = packets_here bs ms ps i x.now h (ap (λ ys. slice_get ys i) (sym e) ∙ got xs i x.now b is)

-- a datagram that is read
pub viewed : (ps : List Packet) (i : ℕ) (p : Packet) (r : Option PacketView) → slice_get ps i ≡ Some p → MatchOption r ⊥ (λ l. IsPacketView l p)
    → MatchOption r (slice_get ps i ≡ None) (λ l. (q : Packet) × (slice_get ps i ≡ Some q) × IsPacketView l q)
viewed ps i p None e h = absurd h
viewed ps i p (Some l) e h = (p, e, h)
