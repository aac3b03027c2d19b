-- The sending of a step's output, by its batch.
use Rattle.std.proofs.Common.{◌≡◌, ◌+◌, ◌-◌, ℕ, zero, suc, min, List, [], ◌∷◌, ◌++◌, length, map, take, drop, Some, refl, sym, ap, ◌∙◌, subst, arith, append_assoc, append-nil, length-append}
use Rattle.std.specs.Prelude.{slice_get, option_map}
use Rattle.std.specs.List.{AllByRecursion}
use Rattle.std.proofs.Math.Seq.{take-append_seam}
use Rattle.std.proofs.lemmas.List.{take-map, length-map, take_all}
use Rattle.crsm_base.specs.Messages.{datagram_bytes}
use Rattle.crsm_base.specs.declared.send.Send.{Send}
use Rattle.crsm_sim_machine.specs.declared.Step.{Step}
use Rattle.crsm_sim_machine.specs.Outcomes.{Makes, Sends}
use Rattle.crsm_port.specs.Meaning.{Packet as Sent}
use Rattle.crsm_port.specs.Memory.{Memory}
use Rattle.crsm_shell.specs.Shell.{sends_in, sends_of}
use Rattle.crsm_replica_output.specs.Made.{to_replica, to_address, line_of}
use Rattle.crsm_spec.specs.Types.{Datagram, Line}
use Rattle.crsm_spec.specs.Draft.{Draft, Reply}
use Rattle.crsm_spec.specs.World.{Packet, body_size, packet_of, packets_size, send_lines}
use Rattle.crsm_sim_network.specs.declared.Network.{Network}
use Rattle.crsm_world.specs.Effects.{LetsOut}
use Rattle.crsm_sim_network.specs.Packets.{AreSpelt, NetworkStands, sent_to, to_packets, sent_of}

-- ---- what is among what is sent

none_of : (ys : List Reply) → sent_of (map to_address ys) ≡ []
unfolding sent_of sent_to to_packets to_address
none_of [] = refl
none_of (y ∷ ys) = none_of ys

pub sent_made : (xs : List (ℕ × Datagram)) (ys : List Reply) → sent_of (map to_replica xs ++ map to_address ys) ≡ xs
unfolding sent_of sent_to to_packets to_replica
sent_made [] ys = none_of ys
sent_made (x ∷ xs) ys = ap (λ zs. x ∷ zs) (sent_made xs ys)

sent_taken : (n : ℕ) (xs : List (ℕ × Datagram)) (ys : List Reply) → sent_of (take n (map to_replica xs ++ map to_address ys)) ≡ take n xs
unfolding sent_of sent_to to_packets to_replica
sent_taken zero xs ys = refl
sent_taken (suc n) [] ys = ap sent_of (take-map to_address (suc n) ys) ∙ none_of (take (suc n) ys)
sent_taken (suc n) (x ∷ xs) ys = ap (λ zs. x ∷ zs) (sent_taken n xs ys)

-- ---- prefixes

take_same : {X : Type 0} (xs : List X) (a b : ℕ) → min a (length xs) ≡ min b (length xs) → take a xs ≡ take b xs
take_same [] zero zero e = refl
take_same [] zero (suc b) e = refl
take_same [] (suc a) zero e = refl
take_same [] (suc a) (suc b) e = refl
take_same (x ∷ xs) zero zero e = refl
take_same (x ∷ xs) zero (suc b) e = absurd (omega arith)
take_same (x ∷ xs) (suc a) zero e = absurd (omega arith)
take_same (x ∷ xs) (suc a) (suc b) e = ap (λ ys. x ∷ ys) (take_same xs a b (omega arith))

pub drop_seam : {X : Type 0} (xs ys : List X) → drop (length xs) (xs ++ ys) ≡ ys
drop_seam [] ys = refl
drop_seam (x ∷ xs) ys = drop_seam xs ys

pub all_taken : (P : Send → Type 0) (xs : List Send) (n : ℕ) → AllByRecursion P xs → AllByRecursion P (take n xs)
all_taken P xs zero all = tt
all_taken P [] (suc n) all = tt
all_taken P (x ∷ xs) (suc n) all = (all.0, all_taken P xs n all.1)

-- ---- the bytes of what is sent

got_map : {X Y : Type 0} (f : X → Y) (xs : List X) (i : ℕ) → option_map f (slice_get xs i) ≡ slice_get (map f xs) i
got_map f [] i = refl
got_map f (x ∷ xs) zero = refl
got_map f (x ∷ xs) (suc i) = got_map f xs i

got_behind : {X : Type 0} (xs : List X) (n i : ℕ) → slice_get xs (n + i) ≡ slice_get (drop n xs) i
got_behind xs zero i = let z : 0 + i ≡ i = omega arith in ap (slice_get xs) z
got_behind [] (suc n) i = refl
got_behind (x ∷ xs) (suc n) i = let z : suc n + i ≡ suc (n + i) = omega arith in ap (slice_get (x ∷ xs)) z ∙ got_behind xs n i

got_prefix : {X : Type 0} (xs ys : List X) (i : ℕ) (x : X) → slice_get xs i ≡ Some x → slice_get (xs ++ ys) i ≡ Some x
got_prefix [] ys i x e = cc
got_prefix (a ∷ xs) ys zero x e = e
got_prefix (a ∷ xs) ys (suc i) x e = got_prefix xs ys i x e

abbrev bytes_of : Sent → List ℕ
bytes_of d = d.bytes

abbrev text_of : Send → List ℕ
text_of s = datagram_bytes s.datagram

pub spelt_here : (sends : List Send) (more : List (List ℕ)) (sent : List Sent) (first : ℕ) → drop first (map bytes_of sent) ≡ map text_of sends ++ more → AreSpelt sends sent first
spelt_here sends more sent first e i s here =
    got_map bytes_of sent (first + i) ∙ got_behind (map bytes_of sent) first i ∙ ap (λ ts. slice_get ts i) e
    ∙ got_prefix (map text_of sends) more i (text_of s) (sym (got_map text_of sends i) ∙ ap (option_map text_of) here)

-- those of one step alone
pub spelt_one : (step : Step) (x : Draft) (port : Memory) (first : ℕ) → Makes step x → Sends port first (x ∷ []) → AreSpelt step.batch.sends port.sent first
unfolding sends_of sends_in
spelt_one step x port first made sent =
    let one : sends_of (x ∷ []) ≡ step.batch.sends = append-nil (map to_replica x.sends ++ map to_address x.replies) ∙ sym made.batch.made.sends in
    spelt_here step.batch.sends [] port.sent first (sent.texts ∙ ap (map text_of) one ∙ sym (append-nil (map text_of step.batch.sends)))

got_first : {X : Type 0} (n : ℕ) (xs : List X) (i : ℕ) (x : X) → slice_get (take n xs) i ≡ Some x → slice_get xs i ≡ Some x
got_first zero xs i x e = cc
got_first (suc n) [] i x e = e
got_first (suc n) (a ∷ xs) zero x e = e
got_first (suc n) (a ∷ xs) (suc i) x e = got_first n xs i x e

pub spelt_first : (n : ℕ) (sends : List Send) (sent : List Sent) (first : ℕ) → AreSpelt sends sent first → AreSpelt (take n sends) sent first
spelt_first n sends sent first spelt i s here = spelt i s (got_first n sends i s here)

pub none_spelt : (sent : List Sent) (first : ℕ) → AreSpelt [] sent first
none_spelt sent first i s here = cc

-- the first of them, and no more than there are
pub spelt_taken : (count out : ℕ) (sends all : List Send) (sent : List Sent) (first : ℕ) → sends ≡ all → out ≡ min count (length all) → AreSpelt (take count all) sent first → AreSpelt (take out sends) sent first
spelt_taken count out sends all sent first e o spelt =
    subst (λ (ss : List Send). AreSpelt ss sent first) (take_same all count out (omega (arith, o)) ∙ ap (take out) (sym e)) spelt

-- ---- the whole

pub lets_out : (before : List Line) (packets : List Packet) (bytes k count : ℕ) (x : Draft) (sends : List Send) (told : List Line) (going own out shown size : ℕ) (network : Network) (answers first second third : List Line)
    → sends ≡ map to_replica x.sends ++ map to_address x.replies → told ≡ (x.lines ++ x.excess) ++ map line_of x.replies
    → going ≡ length (sent_of sends) → own ≡ length told - (length sends - going) → out ≡ min count (length sends) → answers ≡ drop own told → shown ≡ out - going
    → size ≡ body_size x.batch → NetworkStands network (packets ++ map (packet_of k) (sent_of (take out sends))) (bytes + size + packets_size (sent_of (take out sends)))
    → first ≡ before ++ take own told → second ≡ first ++ send_lines k (length packets) (sent_of (take out sends)) → third ≡ second ++ take shown answers
    → LetsOut before packets bytes k x (take count x.sends) (take (count - length x.sends) x.replies) network third
unfolding line_of
lets_out before packets bytes k count x sends told going own out shown size network answers first second third s t l o u g w z h a b d =
    let own_lines = x.lines ++ x.excess in
    let ls : going ≡ length x.sends = l ∙ ap length (ap sent_of s ∙ sent_made x.sends x.replies) in
    let total : length sends ≡ length x.sends + length x.replies =
    ap length s ∙ length-append (map to_replica x.sends) (map to_address x.replies) ∙ ap (λ n. n + length (map to_address x.replies)) (length-map x.sends to_replica) ∙ ap (λ n. length x.sends + n) (length-map x.replies to_address) in
    let told_long : length told ≡ length own_lines + length x.replies = ap length t ∙ length-append own_lines (map line_of x.replies) ∙ ap (λ n. length own_lines + n) (length-map x.replies line_of) in
    let own_is : own ≡ length own_lines = omega arith in
    let prefix : take own told ≡ own_lines = ap (λ n. take n told) own_is ∙ ap (take (length own_lines)) t ∙ take-append_seam own_lines (map line_of x.replies) in
    let rest : answers ≡ map line_of x.replies = g ∙ ap (λ n. drop n told) own_is ∙ ap (drop (length own_lines)) t ∙ drop_seam own_lines (map line_of x.replies) in
    let rest_long : length answers ≡ length x.replies = ap length rest ∙ length-map x.replies line_of in
    let sent_is : sent_of (take out sends) ≡ take count x.sends =
    ap (λ ss. sent_of (take out ss)) s ∙ sent_taken out x.sends x.replies ∙ take_same x.sends out count (omega arith) in
    let shown_is : take shown answers ≡ map (λ r. r.line) (take (count - length x.sends) x.replies) =
    ap (take shown) rest ∙ take-map line_of shown x.replies ∙ ap (map line_of) (take_same x.replies shown (count - length x.sends) (omega arith)) in
    record {
      stands = subst (λ (xs : List (ℕ × Datagram)). NetworkStands network (packets ++ map (packet_of k) xs) (bytes + body_size x.batch + packets_size xs)) sent_is
          (subst (λ (n : ℕ). NetworkStands network (packets ++ map (packet_of k) (sent_of (take out sends))) (bytes + n + packets_size (sent_of (take out sends)))) z h);
      told = d ∙ ap (λ ls. ls ++ take shown answers) (b ∙ ap (λ ls. ls ++ send_lines k (length packets) (sent_of (take out sends))) (a ∙ ap (λ ls. before ++ ls) prefix))
          ∙ ap (λ ls. ls ++ take shown answers) (append_assoc before own_lines (send_lines k (length packets) (sent_of (take out sends))))
          ∙ append_assoc before (own_lines ++ send_lines k (length packets) (sent_of (take out sends))) (take shown answers)
          ∙ ap (λ xs. before ++ ((own_lines ++ send_lines k (length packets) xs) ++ take shown answers)) sent_is
          ∙ ap (λ ls. before ++ ((own_lines ++ send_lines k (length packets) (take count x.sends)) ++ ls)) shown_is;
    }

pub lets_all_out : (before : List Line) (packets : List Packet) (bytes k count : ℕ) (x : Draft) (sends : List Send) (network : Network) (lines : List Line)
    → sends ≡ map to_replica x.sends ++ map to_address x.replies → count ≡ length sends
    → LetsOut before packets bytes k x (take count x.sends) (take (count - length x.sends) x.replies) network lines → LetsOut before packets bytes k x x.sends x.replies network lines
lets_all_out before packets bytes k count x sends network lines s n h =
    let total : length sends ≡ length x.sends + length x.replies =
    ap length s ∙ length-append (map to_replica x.sends) (map to_address x.replies) ∙ ap (λ n. n + length (map to_address x.replies)) (length-map x.sends to_replica) ∙ ap (λ n. length x.sends + n) (length-map x.replies to_address) in
    let a : take count x.sends ≡ x.sends = take_all count x.sends (omega arith) in
    let b : take (count - length x.sends) x.replies ≡ x.replies = take_all (count - length x.sends) x.replies (omega arith) in
    subst (λ (ys : List Reply). LetsOut before packets bytes k x x.sends ys network lines) b
    (subst (λ (xs : List (ℕ × Datagram)). LetsOut before packets bytes k x xs (take (count - length x.sends) x.replies) network lines) a h)
