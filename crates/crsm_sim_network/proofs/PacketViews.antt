-- The datagrams that leave a replica, one by one.
use Rattle.std.proofs.Common.{◌≡◌, ◌<◌, ◌≤◌, ◌+◌, ◌-◌, ℕ, zero, suc, List, [], ◌∷◌, ◌++◌, length, map, min, get_or, take, Some, refl, ap, sym, ◌∙◌, subst, arith, append_assoc, append-nil, length-append}
use Rattle.std.specs.Prelude.{slice_get, option_map, unwrap_or}
use Rattle.std.specs.List.{enumerate_from, flat_map}
use Rattle.std.proofs.lemmas.List.{take_more, map-append, length-map}
use Rattle.std.proofs.lemmas.List.Sums.{sum_by-append}
use Rattle.crsm_base.specs.Messages.{datagram_bytes}
use Rattle.crsm_base.specs.declared.send.Send.{Send}
use Rattle.crsm_base.specs.declared.send.To.TheVariants as to_whom
use Rattle.crsm_port.specs.Meaning.{Packet as Sent}
use Rattle.crsm_spec.specs.Types.{Datagram, Line}
use Rattle.crsm_spec.specs.World.{Packet, packet_of, packets_size, send_line, send_lines}
use Rattle.crsm_sim_network.specs.declared.network.Network.{Network}
use Rattle.crsm_sim_network.specs.Packets.{AreSpelt, NetworkStands, sent_to, to_packets, sent_of}

pub to_replica : (s : Send) (to : ℕ) → s.to ≡ to_whom.Replica to → sent_to s ≡ (to, s.datagram) ∷ []
unfolding sent_to to_packets
to_replica s to e = ap (λ t. to_packets t s.datagram) e

pub to_address : (s : Send) (a : ℕ) → s.to ≡ to_whom.Address a → sent_to s ≡ []
unfolding sent_to to_packets
to_address s a e = ap (λ t. to_packets t s.datagram) e

pub one_sent : (network : Network) (packets : List Packet) (bytes k : ℕ) (s : Send) (to : ℕ) → s.to ≡ to_whom.Replica to
    → NetworkStands network (packets ++ packet_of k (to, s.datagram) ∷ []) (bytes + length (datagram_bytes s.datagram)) → NetworkStands network (packets ++ map (packet_of k) (sent_to s)) (bytes + packets_size (sent_to s))
unfolding packets_size
one_sent network packets bytes k s to e h = rw (to_replica s to e) (let z : bytes + length (datagram_bytes s.datagram) ≡ bytes + (0 + length (datagram_bytes s.datagram)) = omega arith in subst (λ (n : ℕ). NetworkStands network (packets ++ packet_of k (to, s.datagram) ∷ []) n) z h)

pub one_told : (lines : List Line) (k n : ℕ) (s : Send) (to : ℕ) → s.to ≡ to_whom.Replica to → lines ++ send_line k n (to, s.datagram) ∷ [] ≡ lines ++ send_lines k n (sent_to s)
unfolding send_lines
one_told lines k n s to e = rw (to_replica s to e) refl

pub none_sent : (network : Network) (packets : List Packet) (bytes k : ℕ) (s : Send) (a : ℕ) → s.to ≡ to_whom.Address a → NetworkStands network packets bytes → NetworkStands network (packets ++ map (packet_of k) (sent_to s)) (bytes + packets_size (sent_to s))
unfolding packets_size
none_sent network packets bytes k s a e h = rw (to_address s a e) (rw (append-nil packets) (let z : bytes ≡ bytes + 0 = omega arith in subst (λ (n : ℕ). NetworkStands network packets n) z h))

pub none_told : (lines : List Line) (k n : ℕ) (s : Send) (a : ℕ) → s.to ≡ to_whom.Address a → lines ≡ lines ++ send_lines k n (sent_to s)
unfolding send_lines
none_told lines k n s a e = rw (to_address s a e) (sym (append-nil lines))

-- the bytes that a port has at this place
pub text_is : (sent : List Sent) (n : ℕ) (d : Sent) (text : List ℕ) → slice_get sent n ≡ Some d → option_map {T = Sent} (λ d. d.bytes) (slice_get sent n) ≡ Some text → d.bytes ≡ text
text_is sent n d text f g = ap (λ o. unwrap_or o text) (sym (ap (option_map {T = Sent} (λ d. d.bytes)) f) ∙ g)

-- ---- several

pub no_sent : (network : Network) (packets : List Packet) (bytes k : ℕ) → NetworkStands network packets bytes → NetworkStands network (packets ++ map (packet_of k) (sent_of [])) (bytes + packets_size (sent_of []))
unfolding sent_of packets_size
no_sent network packets bytes k h = rw (append-nil packets) (let z : bytes ≡ bytes + 0 = omega arith in subst (λ (n : ℕ). NetworkStands network packets n) z h)

pub no_told : (lines : List Line) (k n : ℕ) → lines ≡ lines ++ send_lines k n (sent_of [])
unfolding sent_of send_lines
no_told lines k n = sym (append-nil lines)

size_both : (xs ys : List (ℕ × Datagram)) → packets_size (xs ++ ys) ≡ packets_size xs + packets_size ys
unfolding packets_size
size_both xs ys = sum_by-append (λ s. length (datagram_bytes s.1)) xs ys

lines_from : (k n : ℕ) (xs ys : List (ℕ × Datagram)) → send_lines k n (xs ++ ys) ≡ send_lines k n xs ++ send_lines k (n + length xs) ys
unfolding send_lines
lines_from k n [] ys = let z : n ≡ n + 0 = omega arith in ap (λ m. map (λ s. send_line k s.0 s.1) (enumerate_from m ys)) z
lines_from k n (x ∷ xs) ys =
    let z : n + 1 + length xs ≡ n + suc (length xs) = omega arith in
    ap (λ ls. send_line k n x ∷ ls) (lines_from k (n + 1) xs ys ∙ ap (λ m. map (λ s. send_line k s.0 s.1) (enumerate_from (n + 1) xs) ++ map (λ s. send_line k s.0 s.1) (enumerate_from m ys)) z)

pub more_sent : (sends : List Send) (i : ℕ) (s : Send) → i < length sends → s ≡ get_or sends i s → sent_of (take (i + 1) sends) ≡ sent_of (take i sends) ++ sent_to s
unfolding sent_of
more_sent sends i s l e =
    ap (flat_map sent_to) (take_more sends i s l ∙ ap (λ t. take i sends ++ t ∷ []) (sym e)) ∙ flat_both (take i sends) (s ∷ []) ∙ ap (λ xs. flat_map sent_to (take i sends) ++ xs) (append-nil (sent_to s))
  where
    flat_both : (xs ys : List Send) → flat_map sent_to (xs ++ ys) ≡ flat_map sent_to xs ++ flat_map sent_to ys
    flat_both [] ys = refl
    flat_both (x ∷ xs) ys = ap (λ zs. sent_to x ++ zs) (flat_both xs ys) ∙ sym (append_assoc (sent_to x) (flat_map sent_to xs) (flat_map sent_to ys))

-- the post after some and then one more
pub sent_next : (network : Network) (packets : List Packet) (bytes k : ℕ) (sends : List Send) (i : ℕ) (s : Send) → i < length sends → s ≡ get_or sends i s
    → NetworkStands network ((packets ++ map (packet_of k) (sent_of (take i sends))) ++ map (packet_of k) (sent_to s)) (bytes + packets_size (sent_of (take i sends)) + packets_size (sent_to s))
    → NetworkStands network (packets ++ map (packet_of k) (sent_of (take (i + 1) sends))) (bytes + packets_size (sent_of (take (i + 1) sends)))
sent_next network packets bytes k sends i s l e h =
    let xs = sent_of (take i sends) in
    let ys = sent_to s in
    let m : (packets ++ map (packet_of k) xs) ++ map (packet_of k) ys ≡ packets ++ map (packet_of k) (xs ++ ys) = append_assoc packets (map (packet_of k) xs) (map (packet_of k) ys) ∙ ap (λ zs. packets ++ zs) (sym (map-append (packet_of k) xs ys)) in
    let b : bytes + packets_size xs + packets_size ys ≡ bytes + packets_size (xs ++ ys) = omega (arith, size_both xs ys) in
    rw (more_sent sends i s l e) (subst (λ (n : ℕ). NetworkStands network (packets ++ map (packet_of k) (xs ++ ys)) n) b (subst (λ (ms : List Packet). NetworkStands network ms (bytes + packets_size xs + packets_size ys)) m h))

-- the lines of some and then of one more
pub told_next : (lines before after : List Line) (packets : List Packet) (k : ℕ) (sends : List Send) (i : ℕ) (s : Send) → i < length sends → s ≡ get_or sends i s
    → lines ≡ before ++ send_lines k (length packets) (sent_of (take i sends)) → after ≡ lines ++ send_lines k (length (packets ++ map (packet_of k) (sent_of (take i sends)))) (sent_to s)
    → after ≡ before ++ send_lines k (length packets) (sent_of (take (i + 1) sends))
told_next lines before after packets k sends i s l e f g =
    let xs = sent_of (take i sends) in
    let n : length (packets ++ map (packet_of k) xs) ≡ length packets + length xs = length-append packets (map (packet_of k) xs) ∙ ap (λ m. length packets + m) (length-map xs (packet_of k)) in
    g ∙ ap (λ ls. ls ++ send_lines k (length (packets ++ map (packet_of k) xs)) (sent_to s)) f
    ∙ ap (λ m. (before ++ send_lines k (length packets) xs) ++ send_lines k m (sent_to s)) n
    ∙ append_assoc before (send_lines k (length packets) xs) (send_lines k (length packets + length xs) (sent_to s))
    ∙ ap (λ ls. before ++ ls) (sym (lines_from k (length packets) xs (sent_to s)))
    ∙ ap (λ ys. before ++ send_lines k (length packets) ys) (sym (more_sent sends i s l e))

-- ---- the datagrams on a port

got_within : (sent : List Sent) (n : ℕ) (text : List ℕ) → option_map {T = Sent} (λ d. d.bytes) (slice_get sent n) ≡ Some text → n < length sent
got_within [] n text e = cc
got_within (d ∷ sent) zero text e = omega arith
got_within (d ∷ sent) (suc n) text e = let h = got_within sent n text e in omega (arith, h)

-- a port has all that is spelt there
all_there : (sends : List Send) (sent : List Sent) (first : ℕ) → AreSpelt sends sent first → length sends ≤ length sent - first
all_there [] sent first spelt = omega arith
all_there (s ∷ sends) sent first spelt =
    let z : first + 0 ≡ first = omega arith in
    let here : first < length sent = got_within sent first _ (subst (λ n. option_map {T = Sent} (λ d. d.bytes) (slice_get sent n) ≡ Some (datagram_bytes s.datagram)) z (spelt 0 s refl)) in
    let next : (i : ℕ) → first + suc i ≡ first + 1 + i = λ i. omega arith in
    let others = all_there sends sent (first + 1) (λ i t e. subst (λ n. option_map {T = Sent} (λ d. d.bytes) (slice_get sent n) ≡ Some (datagram_bytes t.datagram)) (next i) (spelt (suc i) t e)) in
    omega (arith, here, others)

-- so as many as it has there are all of them
pub all_go : (sends : List Send) (sent : List Sent) (len first there count : ℕ) → len ≡ length sent → there ≡ len - first → count ≡ min there (length sends) → AreSpelt sends sent first → length sends ≡ count
all_go sends sent len first there count l t e spelt = let most = all_there sends sent first spelt in omega (arith, most, l, t, e)
