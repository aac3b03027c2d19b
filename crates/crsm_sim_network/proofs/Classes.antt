-- The classes of datagrams, and their counts.
use Rattle.std.proofs.Common.{◌≡◌, ℕ, zero, suc, Bool, true, cond, List, [], ◌∷◌, map, set, take, Some, refl, ap, sym, ◌∙◌, arith}
use Rattle.std.specs.Prelude.{slice_get}
use Rattle.std.specs.List.{count_by}
use Rattle.std.specs.Option.{option_map_or}
use Rattle.std.proofs.lemmas.List.Sums.{sum_by-cons}
use Rattle.crsm_spec.specs.World.{Packet}
use Rattle.crsm_sim_network.specs.Nth.{IsNth}
use Rattle.crsm_sim_network.specs.Packets.{class_of, class_of_packet, used_up}

-- ---- one datagram more that is used

map_set : {A B : Type 0} (f : A → B) (xs : List A) (i : ℕ) (x : A) → map f (set xs i x) ≡ set (map f xs) i (f x)
map_set f [] i x = refl
map_set f (a ∷ xs) zero x = refl
map_set f (a ∷ xs) (suc i) x = ap (λ ys. f a ∷ ys) (map_set f xs i x)

pub class_used : (packets : List Packet) (i : ℕ) (p : Packet) (class : ℕ) → slice_get packets i ≡ Some p → class ≡ class_of p.to true → map class_of_packet (used_up i packets) ≡ set (map class_of_packet packets) i class
unfolding used_up class_of_packet
class_used packets i p class e d =
    ap (λ o. map class_of_packet (option_map_or (λ m. set packets i (record m { used = true })) o packets)) e ∙ map_set class_of_packet packets i (record p { used = true }) ∙ ap (set (map class_of_packet packets) i) (sym d)

-- ---- a test of classes that is one of datagrams

pub count_classes : (w : ℕ → Bool) (test : Packet → Bool) (packets : List Packet) → ((p : Packet) → w (class_of_packet p) ≡ test p) → count_by w (map class_of_packet packets) ≡ count_by test packets
count_classes w test [] f = refl
count_classes w test (p ∷ packets) f =
    let here : cond (w (class_of_packet p)) 1 0 ≡ cond (test p) 1 0 = ap (λ b. cond {A = ℕ} b 1 0) (f p) in
    let rest = count_classes w test packets f in
    let one = sum_by-cons (λ x. cond (w x) 1 0) (class_of_packet p) (map class_of_packet packets) in
    let two = sum_by-cons (λ x. cond (test x) 1 0) p packets in
    omega (arith, here, rest, one, two)

get_mapped : (packets : List Packet) (n c : ℕ) → slice_get (map class_of_packet packets) n ≡ Some c → (p : Packet) × (slice_get packets n ≡ Some p) × (class_of_packet p ≡ c)
get_mapped [] n c e = absurd (cc)
get_mapped (p ∷ packets) zero c e = (p, refl, let same : class_of_packet p ≡ c = cc in same)
get_mapped (p ∷ packets) (suc n) c e = get_mapped packets n c e

take_mapped : (packets : List Packet) (n : ℕ) → take n (map class_of_packet packets) ≡ map class_of_packet (take n packets)
take_mapped packets zero = refl
take_mapped [] (suc n) = refl
take_mapped (p ∷ packets) (suc n) = ap (λ xs. class_of_packet p ∷ xs) (take_mapped packets n)

pub nth_class : (w : ℕ → Bool) (test : Packet → Bool) (packets : List Packet) (j n : ℕ) → ((p : Packet) → w (class_of_packet p) ≡ test p) → IsNth w (map class_of_packet packets) j n → IsNth test packets j n
nth_class w test packets j n f is =
    let found = get_mapped packets n is.element is.is in
    record {
      element = found.0;
      is = found.1;
      passes = sym (f found.0) ∙ ap w found.2 ∙ is.passes;
      before = sym (count_classes w test (take n packets) f) ∙ ap (count_by w) (sym (take_mapped packets n)) ∙ is.before;
    }
