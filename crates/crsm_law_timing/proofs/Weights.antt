-- A timeline does not fill the world: what a replica still has to send, and what a delivery causes, takes few bytes.
use Rattle.std.proofs.Common.{◌≡◌, ℕ, zero, suc, ◌+◌, ◌*◌, ◌≤◌, List, [], ◌∷◌, ◌++◌, length, refl, ap, Bool, true, false, cond, arith, map}
use Rattle.std.specs.Prelude.{Some, slice_get, slice_set, sum_by, filter, flat_map, not, ◌==◌}
use Rattle.std.proofs.lemmas.Option.{none-some, same_Some}
use Rattle.std.proofs.lemmas.List.{length-append}
use Rattle.std.proofs.lemmas.Grind.{flat_map-append}
use Rattle.std.proofs.lemmas.List.Sums.{sum_by-cons, sum_by-append}
use Rattle.crsm_base.specs.Messages.{datagram_bytes, payload_bytes}
use Rattle.crsm_base.specs.Records.{rec_bytes, body_bytes}
use Rattle.crsm_base.specs.Spelling.{u64_bytes, u16_bytes, stamp_bytes, entry_bytes, command_bytes, op_bytes, key_bytes, val_bytes}
use Rattle.crsm_spec.specs.Types.{Rec, InEpoch, Datagram}
use Rattle.crsm_spec.specs.Lists.{numbers_below}
use Rattle.crsm_spec.specs.Replica.{Replica}
use Rattle.crsm_spec.specs.World.{Site, Packet, packet_of, body_size, packets_size}
use Rattle.crsm_spec_plan.specs.declared.Plan.{Plan}
use Rattle.crsm_spec_plan.specs.Timelines.{the_command}
use Rattle.crsm_law_timing.proofs.Local.{the_stamp, the_entry, many_below}
use Rattle.crsm_law_timing.proofs.Paying.{peers, frames}

-- ---- what is to come

abbrev pub weight_issued : List ℕ → ℕ
weight_issued [] = 8000
weight_issued (t ∷ ts) = 0

abbrev pub site_weight : Site → ℕ
site_weight (Site.Up r) = weight_issued r.issued
site_weight (Site.Down log) = 0

abbrev pub datagram_weight : Datagram → ℕ
datagram_weight (Datagram.Frame from to epoch seq p) = 400
datagram_weight _ = 100

abbrev pub packet_weight : Packet → ℕ
packet_weight m = cond m.used 0 (datagram_weight m.datagram)

unfoldable pub sites_weight : List Site → ℕ
sites_weight ss = sum_by site_weight ss

unfoldable pub packets_weight : List Packet → ℕ
packets_weight ms = sum_by packet_weight ms

-- ---- sums

pub sum_set : {A : Type 0} (f : A → ℕ) (xs : List A) (i : ℕ) (a b : A) → slice_get xs i ≡ Some a → sum_by f (slice_set xs i b) + f a ≡ sum_by f xs + f b
sum_set f [] i a b e = absurd (none-some a e)
sum_set f (x ∷ xs) zero a b e =
    let p = sum_by-cons f b xs in
    let q = sum_by-cons f x xs in
    let r : f x ≡ f a = ap f (same_Some x a e) in
    omega (arith, p, q, r)
sum_set f (x ∷ xs) (suc i) a b e =
    let h = sum_set f xs i a b e in
    let p = sum_by-cons f x (slice_set xs i b) in
    let q = sum_by-cons f x xs in
    omega (arith, h, p, q)

pub set_site : (ss : List Site) (k : ℕ) (r q : Replica) → slice_get ss k ≡ Some (Site.Up r) → sites_weight (slice_set ss k (Site.Up q)) + weight_issued r.issued ≡ sites_weight ss + weight_issued q.issued
unfolding sites_weight
set_site ss k r q e = sum_set site_weight ss k (Site.Up r) (Site.Up q) e

pub set_used : (ms : List Packet) (i : ℕ) (m : Packet) → slice_get ms i ≡ Some m → packets_weight (slice_set ms i (record m { used = true })) + packet_weight m ≡ packets_weight ms
unfolding packets_weight
set_used ms i m e = let h = sum_set packet_weight ms i m (record m { used = true }) e in omega (arith, h)

pub weight_more : (ms ns : List Packet) → packets_weight (ms ++ ns) ≡ packets_weight ms + packets_weight ns
unfolding packets_weight
weight_more ms ns = sum_by-append packet_weight ms ns

-- ---- bytes

commit_short : (plan : Plan) → length (flat_map rec_bytes (Rec.Commit (the_stamp plan) ∷ [])) ≤ 100
unfolding rec_bytes stamp_bytes u64_bytes
commit_short plan = omega arith

-- the lengths of what is kept and sent
pub command_short : (plan : Plan) (m k : ℕ) → length (datagram_bytes (Datagram.Frame m k 0 0 (InEpoch.Prepare (the_entry plan)))) ≤ 100
unfolding datagram_bytes payload_bytes entry_bytes stamp_bytes command_bytes op_bytes key_bytes val_bytes u64_bytes u16_bytes the_command
command_short plan m k = omega arith

pub ok_short : (plan : Plan) (m k u : ℕ) → length (datagram_bytes (Datagram.Frame m k 0 0 (InEpoch.PrepareOk (the_stamp plan) u))) ≤ 100
unfolding datagram_bytes payload_bytes stamp_bytes u64_bytes
ok_short plan m k u = omega arith

pub ack_short : (m k a : ℕ) → length (datagram_bytes (Datagram.Ack m k 0 a)) ≤ 100
unfolding datagram_bytes u64_bytes
ack_short m k a = omega arith

pub entry_kept : (plan : Plan) → body_size (Rec.Prepare (the_entry plan) ∷ []) ≤ 100
unfolding body_size body_bytes rec_bytes entry_bytes stamp_bytes command_bytes op_bytes key_bytes val_bytes u64_bytes u16_bytes the_command
entry_kept plan = omega arith

pub commit_kept : (plan : Plan) (recs : List Rec) → body_size (recs ++ Rec.Commit (the_stamp plan) ∷ []) ≤ body_size recs + 100
unfolding body_size body_bytes
commit_kept plan recs =
    let h = one in
    let e = ap length (flat_map-append rec_bytes recs (Rec.Commit (the_stamp plan) ∷ [])) in
    let l = length-append (flat_map rec_bytes recs) (flat_map rec_bytes (Rec.Commit (the_stamp plan) ∷ [])) in
    omega (arith, h, e, l)
  where
    one : length (flat_map rec_bytes (Rec.Commit (the_stamp plan) ∷ [])) ≤ 100
    one = commit_short plan

-- ---- what is sent

-- the datagrams and what comes of them
unfoldable pub out_weight : ℕ → List (ℕ × Datagram) → ℕ
out_weight k out = packets_size out + packets_weight (map (packet_of k) out)

pub nothing_out : (k : ℕ) → out_weight k [] ≡ 0
unfolding out_weight packets_size packets_weight
nothing_out k = refl

one_out : (k j : ℕ) (d : Datagram) (out : List (ℕ × Datagram)) → out_weight k ((j, d) ∷ out) ≡ length (datagram_bytes d) + datagram_weight d + out_weight k out
unfolding out_weight packets_size packets_weight packet_of
one_out k j d out =
    let p = sum_by-cons (λ (s : ℕ × Datagram). length (datagram_bytes s.1)) (j, d) out in
    let q = sum_by-cons packet_weight (record { from = k; to = j; datagram = d; used = false }) (map (λ s. record { from = k; to = s.0; datagram = s.1; used = false }) out) in
    omega (arith, p, q)

pub ack_out : (k m a : ℕ) (out : List (ℕ × Datagram)) → out_weight k ((m, Datagram.Ack k m 0 a) ∷ out) ≤ 200 + out_weight k out
ack_out k m a out = let e = one_out k m (Datagram.Ack k m 0 a) out in let s = ack_short k m a in omega (arith, e, s)

frames_each : (k : ℕ) (payload : InEpoch) → ((j : ℕ) → length (datagram_bytes (Datagram.Frame k j 0 0 payload)) ≤ 100) → (js : List ℕ) →
    out_weight k (map (λ j. (j, Datagram.Frame k j 0 0 payload)) js) ≤ 500 * length js
frames_each k payload h [] = let e = nothing_out k in omega (arith, e)
frames_each k payload h (j ∷ js) =
    let e = one_out k j (Datagram.Frame k j 0 0 payload) (map (λ j. (j, Datagram.Frame k j 0 0 payload)) js) in
    let s = h j in
    let r = frames_each k payload h js in
    omega (arith, e, s, r)

filter_short : (p : ℕ → Bool) (xs : List ℕ) → length (filter p xs) ≤ length xs
filter_short p [] = omega arith
filter_short p (x ∷ xs) = go (p x) (filter_short p xs)
  where
    go : (b : Bool) → length (filter p xs) ≤ length xs → length (cond b (x ∷ filter p xs) (filter p xs)) ≤ suc (length xs)
    go true h = omega (arith, h)
    go false h = omega (arith, h)

pub frames_out : (plan : Plan) (k : ℕ) (payload : InEpoch) → plan.n ≤ 15 → ((j : ℕ) → length (datagram_bytes (Datagram.Frame k j 0 0 payload)) ≤ 100) → out_weight k (frames plan k payload) ≤ 7500
frames_out plan k payload most h =
    let e = frames_each k payload h (peers plan k) in
    let s = filter_short (λ j. not (j == k)) (numbers_below plan.n) in
    let m = many_below plan.n in
    omega (arith, e, s, m, most)

-- each datagram takes a byte at least
datagram_some : (d : Datagram) → 1 ≤ length (datagram_bytes d)
unfolding datagram_bytes
datagram_some (Datagram.Frame from to epoch seq p) = omega arith
datagram_some (Datagram.Ack from to epoch next) = omega arith
datagram_some (Datagram.Part from to boot number index count bytes) = omega arith
datagram_some (Datagram.Request c) = omega arith
datagram_some (Datagram.Reply client number told) = omega arith
datagram_some (Datagram.Operate ms) = omega arith

pub packets_few : (out : List (ℕ × Datagram)) → length out ≤ packets_size out
unfolding packets_size
packets_few [] = omega arith
packets_few (s ∷ out) =
    let h = packets_few out in
    let p = sum_by-cons (λ (s : ℕ × Datagram). length (datagram_bytes s.1)) s out in
    let d = datagram_some s.1 in
    omega (arith, h, p, d)
