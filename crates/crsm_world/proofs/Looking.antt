-- The view of a world: the indices of datagrams, and who is up.
use Rattle.std.proofs.Common.{◌≡◌, ◌≤◌, ◌+◌, ℕ, zero, suc, Bool, true, false, cond, not, ◌&&◌, ◌||◌, List, [], ◌∷◌, length, map, take, Some, None, refl, ap, sym, ◌∙◌, arith, inl, inr}
use Rattle.std.specs.Prelude.{slice_get, filter, nat_eq, nat_lt, option_map}
use Rattle.std.specs.List.{count_by, enumerate_from}
use Rattle.std.specs.Option.{option_map_or}
use Rattle.std.proofs.lemmas.Bool.{ltb-true, ltb-false, lt-ltb, le-ltb}
use Rattle.std.proofs.lemmas.Bool.Decides.{eqb_tells}
use Rattle.std.proofs.lemmas.List.Sums.{sum_by-cons}
use Rattle.std.proofs.lemmas.Option.{slice_get-map, slice_get_past}
use Rattle.crsm_sim_generator.specs.View.{Mark, places, is_up_in as is_seen_up, fresh_seen, fresh_to_any, fresh_to_up, used_to_up}
use Rattle.crsm_sim_network.specs.Packets.{is_of}
use Rattle.crsm_spec.specs.World.{Packet, Site, World as Cluster, is_up, is_up_at}
use Rattle.crsm_sim_network.specs.Nth.{IsNth}
use Rattle.crsm_world.specs.Machines.{is_up_in}
use Rattle.crsm_world.specs.Seen.{is_receiver, mark_of, view_of}

-- ---- places

abbrev pub numbers : List (ℕ × Mark) → List ℕ
numbers ps = map (λ p. p.0) ps

abbrev pub places_from : ℕ → (Mark → Bool) → List Mark → List ℕ
places_from k test xs = map (λ p. p.0) (filter (λ p. test p.1) (enumerate_from k xs))

length_from : (test : Mark → Bool) (k : ℕ) (xs : List Mark) → length (places_from k test xs) ≡ count_by test xs
length_from test k [] = refl
length_from test k (x ∷ xs) =
    let rest = length_from test (k + 1) xs in
    let one : length (places_from k test (x ∷ xs)) ≡ cond (test x) 1 0 + count_by test xs =
    elim (test x) as (λ b. length (numbers (cond b ((k, x) ∷ filter (λ p. test p.1) (enumerate_from (k + 1) xs)) (filter (λ p. test p.1) (enumerate_from (k + 1) xs)))) ≡ cond b 1 0 + count_by test xs) [
      | true ↦ omega (arith, rest)
      | false ↦ omega (arith, rest)
    ] in
    one ∙ sym (sum_by-cons (λ y. cond (test y) 1 0) x xs)

nth_from : (test : Mark → Bool) (k n : ℕ) (xs : List Mark) (x : Mark) → slice_get xs n ≡ Some x → test x ≡ true → slice_get (places_from k test xs) (count_by test (take n xs)) ≡ Some (k + n)
nth_from test k n [] x e b = absurd (cc)
nth_from test k zero (a ∷ xs) x e b =
    let same : a ≡ x = cc in
    let z : k ≡ k + 0 = omega arith in
    rw (same, b) (ap Some z)
nth_from test k (suc n) (a ∷ xs) x e b =
    let count = count_by test (take n xs) in
    let rest = nth_from test (k + 1) n xs x e b in
    let z : k + 1 + n ≡ k + suc n = omega arith in
    let up : 1 + count ≡ suc count = omega arith in
    let down : 0 + count ≡ count = omega arith in
    ap (slice_get (places_from k test (a ∷ xs))) (sum_by-cons (λ y. cond (test y) 1 0) a (take n xs))
    ∙ elim (test a) as (λ c. slice_get (numbers (cond c ((k, a) ∷ filter (λ p. test p.1) (enumerate_from (k + 1) xs)) (filter (λ p. test p.1) (enumerate_from (k + 1) xs)))) (cond c 1 0 + count) ≡ Some (k + suc n)) [
      | true ↦ ap (slice_get (k ∷ places_from (k + 1) test xs)) up ∙ rest ∙ ap Some z
      | false ↦ ap (slice_get (places_from (k + 1) test xs)) down ∙ rest ∙ ap Some z
    ]

count_marks : (test : Packet → Bool) (seen : Mark → Bool) (packets : List Packet) → ((p : Packet) → test p ≡ seen (mark_of p)) → count_by test packets ≡ count_by seen (map mark_of packets)
count_marks test seen [] f = refl
count_marks test seen (p ∷ packets) f =
    let here : cond (test p) 1 0 ≡ cond (seen (mark_of p)) 1 0 = ap (λ b. cond {A = ℕ} b 1 0) (f p) in
    let rest = count_marks test seen packets f in
    let one = sum_by-cons (λ x. cond (test x) 1 0) p packets in
    let two = sum_by-cons (λ x. cond (seen x) 1 0) (mark_of p) (map mark_of packets) in
    omega (arith, here, rest, one, two)

take_marks : (packets : List Packet) (n : ℕ) → take n (map mark_of packets) ≡ map mark_of (take n packets)
take_marks packets zero = refl
take_marks [] (suc n) = refl
take_marks (p ∷ packets) (suc n) = ap (λ xs. mark_of p ∷ xs) (take_marks packets n)

count_seen : (test : Packet → Bool) (seen : Mark → Bool) (packets : List Packet) → ((p : Packet) → test p ≡ seen (mark_of p)) → count_by test packets ≡ length (places seen (map mark_of packets))
unfolding places
count_seen test seen packets f = count_marks test seen packets f ∙ sym (length_from seen 0 (map mark_of packets))

nth_seen : (test : Packet → Bool) (seen : Mark → Bool) (packets : List Packet) (j n : ℕ) → ((p : Packet) → test p ≡ seen (mark_of p)) → IsNth test packets j n → slice_get (places seen (map mark_of packets)) j ≡ Some n
unfolding places
nth_seen test seen packets j n f is =
    let marks = map mark_of packets in
    let here : slice_get marks n ≡ Some (mark_of is.element) = slice_get-map mark_of packets n ∙ ap (option_map mark_of) is.is in
    let passes : seen (mark_of is.element) ≡ true = sym (f is.element) ∙ is.passes in
    let before : j ≡ count_by seen (take n marks) = sym is.before ∙ count_marks test seen (take n packets) f ∙ ap (count_by seen) (sym (take_marks packets n)) in
    let z : 0 + n ≡ n = omega arith in
    ap (slice_get (places_from 0 seen marks)) before ∙ nth_from seen 0 n marks (mark_of is.element) here passes ∙ ap Some z

-- ---- who is up

pub seen_up : (v : Cluster) (k : ℕ) → is_up_at v k ≡ is_seen_up (view_of v) k
unfolding is_up_at is_seen_up view_of
seen_up v k = by_sites v.sites k
  where
    by_sites : (sites : List Site) (k : ℕ) → option_map_or is_up (slice_get sites k) false ≡ option_map_or (λ up. up) (slice_get (map is_up sites) k) false
    by_sites [] k = refl
    by_sites (s ∷ sites) zero = refl
    by_sites (s ∷ sites) (suc k) = by_sites sites k

pub seen_up_in : (v : Cluster) (k : ℕ) → is_up_in v.sites k ≡ is_seen_up (view_of v) k
unfolding is_up_in is_up_at
seen_up_in v k = seen_up v k

pub up_in_at : (v : Cluster) (k : ℕ) → is_up_in v.sites k ≡ is_up_at v k
unfolding is_up_in is_up_at
up_in_at v k = refl

fresh_up : (v : Cluster) (p : Packet) → is_of false (is_receiver true v) p ≡ not p.used && is_seen_up (view_of v) p.to
unfolding is_of
fresh_up v p = ap (λ b. not p.used && b) (seen_up v p.to)

fresh_any : (v : Cluster) (p : Packet) → is_of false (is_receiver false v) p ≡ not p.used
unfolding is_of
fresh_any v p = and_true (not p.used)
  where
    and_true : (b : Bool) → b && true ≡ b
    and_true true = refl
    and_true false = refl

used_up : (v : Cluster) (p : Packet) → is_of true (is_receiver true v) p ≡ p.used && is_seen_up (view_of v) p.to
unfolding is_of
used_up v p = ap (λ b. p.used && b) (seen_up v p.to)

-- ---- datagrams

pub fresh_count : (v : Cluster) (up : Bool) → count_by (is_of false (is_receiver up v)) v.packets ≡ length (fresh_seen up (view_of v))
unfolding fresh_to_up fresh_to_any view_of mark_of
fresh_count v true = count_seen _ (λ m. not m.used && is_seen_up (view_of v) m.to) v.packets (fresh_up v)
fresh_count v false = count_seen _ (λ m. not m.used) v.packets (fresh_any v)

pub fresh_nth : (v : Cluster) (up : Bool) (j n : ℕ) → IsNth (is_of false (is_receiver up v)) v.packets j n → slice_get (fresh_seen up (view_of v)) j ≡ Some n
unfolding fresh_to_up fresh_to_any view_of mark_of
fresh_nth v true j n is = nth_seen _ (λ m. not m.used && is_seen_up (view_of v) m.to) v.packets j n (fresh_up v) is
fresh_nth v false j n is = nth_seen _ (λ m. not m.used) v.packets j n (fresh_any v) is

pub used_count : (v : Cluster) → count_by (is_of true (is_receiver true v)) v.packets ≡ length (used_to_up (view_of v))
unfolding used_to_up view_of mark_of
used_count v = count_seen _ (λ m. m.used && is_seen_up (view_of v) m.to) v.packets (used_up v)

pub used_nth : (v : Cluster) (j n : ℕ) → IsNth (is_of true (is_receiver true v)) v.packets j n → slice_get (used_to_up (view_of v)) j ≡ Some n
unfolding used_to_up view_of mark_of
used_nth v j n is = nth_seen _ (λ m. m.used && is_seen_up (view_of v) m.to) v.packets j n (used_up v) is

-- ---- receivers one after another

pub one_up : (up : ℕ → Bool) (k j : ℕ) → (nat_lt j k && up j) || (nat_eq j k && up k) ≡ nat_lt j (k + 1) && up j
one_up up k j =
    elim (nat_lt j k) as (λ b. nat_lt j k ≡ b → (b && up j) || (nat_eq j k && up k) ≡ nat_lt j (k + 1) && up j) [
      | true ↦ λ e.
          let l = ltb-true j k e in
          let more : nat_lt j (k + 1) ≡ true = lt-ltb j (k + 1) (omega (arith, l)) in
          elim (eqb_tells j k) [
            | inl t ↦ let s = t.1 in absurd (omega (arith, l, s))
            | inr t ↦ rw (more, t.0) (or_false (up j))
          ]
      | false ↦ λ e.
          let l = ltb-false j k e in
          elim (eqb_tells j k) [
            | inl t ↦
                let s = t.1 in
                let more : nat_lt j (k + 1) ≡ true = lt-ltb j (k + 1) (omega (arith, s)) in
                rw (more, t.0) (ap up (sym s))
            | inr t ↦
                let d = t.1 in
                let more : nat_lt j (k + 1) ≡ false = le-ltb j (k + 1) (omega (arith, l, d)) in
                rw (more, t.0) refl
          ]
    ] refl
  where
    or_false : (b : Bool) → b || false ≡ b
    or_false true = refl
    or_false false = refl

pub none_up : (up : ℕ → Bool) (j : ℕ) → false ≡ nat_lt j 0 && up j
none_up up j = sym (ap (λ b. b && up j) (le-ltb j 0 (omega arith)))

pub all_up : (places : List Site) (k j : ℕ) → length places ≤ k → nat_lt j k && is_up_in places j ≡ is_up_in places j
unfolding is_up_in
all_up places k j few =
    elim (nat_lt j k) as (λ b. nat_lt j k ≡ b → b && option_map_or is_up (slice_get places j) false ≡ option_map_or is_up (slice_get places j) false) [
      | true ↦ λ e. refl
      | false ↦ λ e.
          let l = ltb-false j k e in
          let past : slice_get places j ≡ None = slice_get_past places j (omega (arith, few, l)) in
          sym (ap (λ o. option_map_or is_up o false) past)
    ] refl

pub added_up : (test : ℕ → Bool) (k j : ℕ) (up : Bool) → up ≡ true → test j || nat_eq j k ≡ test j || (nat_eq j k && up)
added_up test k j up e = ap (λ b. test j || b) (and_true (nat_eq j k) ∙ ap (λ b. nat_eq j k && b) (sym e))
  where
    and_true : (b : Bool) → b ≡ b && true
    and_true true = refl
    and_true false = refl

pub added_down : (test : ℕ → Bool) (k j : ℕ) (up : Bool) → up ≡ false → test j ≡ test j || (nat_eq j k && up)
added_down test k j up e = or_false (test j) ∙ ap (λ b. test j || b) (and_false (nat_eq j k) ∙ ap (λ b. nat_eq j k && b) (sym e))
  where
    or_false : (b : Bool) → b ≡ b || false
    or_false true = refl
    or_false false = refl

    and_false : (b : Bool) → false ≡ b && false
    and_false true = refl
    and_false false = refl
