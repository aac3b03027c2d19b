-- The datagrams that carry a control message.
use Rattle.std.proofs.Common.{◌≡◌, ◌<◌, ◌≤◌, ℕ, zero, suc, ◌+◌, ◌/◌, ◌*◌, ◌^◌, List, [], ◌∷◌, length, map, take, drop, refl, ap, ◌∙◌, arith, Bool, true, false, nat_lt, nat_eq, cond}
use Rattle.std.specs.List.{enumerate_from, AllByRecursion}
use Rattle.std.proofs.lemmas.List.{take_all, length-take, length-drop}
use Rattle.std.proofs.lemmas.Bool.Decides.{nat_tests}
use Rattle.crsm_base.specs.declared.datagram.Datagram.TheVariants as datagram
use Rattle.crsm_base.specs.Limits.{most_parts}
use Rattle.crsm_base.specs.Messages.{part_least, part_most, control_bytes, FitsControl, FitsDatagram}
use Rattle.crsm_spec.specs.Types.{Datagram, Control}
use Rattle.crsm_spec.specs.Log.{boots}
use Rattle.crsm_spec.specs.Replica.{Replica}
use Rattle.crsm_spec.specs.Draft.{parts_to}
use Rattle.crsm_spec.specs.Parts.{part_count, cut_into, cut}
use Rattle.crsm_segment.specs.Pieces.{send_of, piece_of, sends_of}
use Rattle.crsm_replica_output.specs.Made.{to_replica}
use Rattle.crsm_fact_log.proofs.Parts.{cut_length}
use Rattle.crsm_replica_output.proofs.Sizes.{few}

same_each : (from to boot number : ℕ) (message : List ℕ) (ps : List (ℕ × List ℕ)) →
    map (λ p. send_of to (piece_of from boot number message p.0 p.1)) ps
    ≡ map to_replica (map (λ p. (to, datagram.Part from to boot number p.0 (length (cut message)) p.1)) ps)
unfolding send_of to_replica
same_each from to boot number message [] = refl
same_each from to boot number message (p ∷ ps) =
    ap (λ xs. to_replica (to, datagram.Part from to boot number p.0 (length (cut message)) p.1) ∷ xs) (same_each from to boot number message ps)

-- what is cut is what is sent
pub as_cut : (r : Replica) (k : ℕ) (c : Control) → sends_of r.me k (boots r.log) r.made (control_bytes c) ≡ map to_replica (parts_to r k c)
unfolding sends_of parts_to
as_cut r k c = same_each r.me k (boots r.log) r.made (control_bytes c) (enumerate_from 0 (cut (control_bytes c)))

-- a message no longer than a part is one part
one_piece : (m : List ℕ) → 1 ≤ length m → length m ≤ 8000 → cut m ≡ m ∷ []
unfolding cut part_count cut_into
one_piece m some short =
    let one : (length m + 7999) / 8000 ≡ 1 = omega (arith, some, short) in
    ap (λ n. cut_into n m) one ∙ ap (λ z. z ∷ []) (take_all 8000 m short)

pub one_part : (r : Replica) (k : ℕ) (c : Control) → 1 ≤ length (control_bytes c) → length (control_bytes c) ≤ 8000 →
    parts_to r k c ≡ (k, datagram.Part r.me k (boots r.log) r.made 0 1 (control_bytes c)) ∷ []
unfolding parts_to
one_part r k c some short =
    ap (λ pieces. map (λ p. (k, datagram.Part r.me k (boots r.log) r.made p.0 (length pieces) p.1)) (enumerate_from 0 pieces))
    (one_piece (control_bytes c) some short)

-- the part at index i of n has a length that it may have
pub record IsPart (n : ℕ) (p : ℕ × List ℕ) : Type 0 where
  pub index : p.0 < n
  pub least : part_least p.0 n ≤ length p.1
  pub most : length p.1 ≤ part_most p.0 n

least_is : (i n len : ℕ) (b : Bool) → nat_lt (i + 1) n ≡ b → (i + 1 < n → 8000 ≤ len) → 1 ≤ len → cond b 8000 1 ≤ len
least_is i n len true e full least = full (grind (arith, nat_tests, e))
least_is i n len false e full least = least

most_is : (i n len : ℕ) (b c : Bool) → nat_lt (i + 1) n ≡ b → nat_eq n 271 ≡ c → len ≤ 8000 → (i + 1 ≡ n → n ≡ 271 → len ≤ 2688) → i < n →
    len ≤ cond b 8000 (cond c 2688 8000)
most_is i n len true c e l short last below = short
most_is i n len false true e l short last below = last (grind (arith, nat_tests, e, below)) (grind (arith, nat_tests, l))
most_is i n len false false e l short last below = short

longer : (n k : ℕ) → suc (suc k) ≡ (n + 7999) / 8000 → 8001 ≤ n
longer n k e = omega (arith, e)

nonempty : (n k : ℕ) → suc k ≡ (n + 7999) / 8000 → 1 ≤ n
nonempty n k e = omega (arith, e)

above_one : (n i k : ℕ) (m : List ℕ) → i + suc k ≡ n → suc k ≡ (length m + 7999) / 8000 → i + 1 < n → 8000 ≤ length (take 8000 m)
above_one n i zero m at count more = absurd (omega (arith, at, more))
above_one n i (suc k) m at count more = let long = longer (length m) k count in omega (arith, long, length-take 8000 m)

at_last : (n i k : ℕ) (m : List ℕ) → i + suc k ≡ n → 8000 * i + length m ≤ 2162688 → i + 1 ≡ n → n ≡ 271 → length (take 8000 m) ≤ 2688
at_last n i k m at bound last all = let e : i ≡ 270 = omega (arith, last, all) in omega (arith, bound, e, length-take 8000 m)

part_is : (n i k : ℕ) (m : List ℕ) → i + suc k ≡ n → suc k ≡ (length m + 7999) / 8000 → 8000 * i + length m ≤ 2162688 → IsPart n (i, take 8000 m)
part_is n i k m at count bound =
    let filled = nonempty (length m) k count in
    record {
      index = omega (arith, at);
      least = least_is i n (length (take 8000 m)) (nat_lt (i + 1) n) refl (above_one n i k m at count) (omega (arith, filled, length-take 8000 m));
      most = most_is i n (length (take 8000 m)) (nat_lt (i + 1) n) (nat_eq n 271) refl refl (omega (arith, length-take 8000 m)) (at_last n i k m at bound) (omega (arith, at));
    }

next_bound : (i k : ℕ) (m : List ℕ) → 8000 * i + length m ≤ 2162688 → suc (suc k) ≡ (length m + 7999) / 8000 → 8000 * (i + 1) + length (drop 8000 m) ≤ 2162688
next_bound i k m bound count = let long = longer (length m) k count in omega (arith, bound, long, length-drop 8000 m)

parts_are : (n i k : ℕ) (m : List ℕ) → i + k ≡ n → k ≡ (length m + 7999) / 8000 → 8000 * i + length m ≤ 2162688 →
    AllByRecursion (IsPart n) (enumerate_from i (cut_into k m))
unfolding cut_into
parts_are n i zero m at count bound = tt
parts_are n i (suc zero) m at count bound = (part_is n i 0 m at count bound, tt)
parts_are n i (suc (suc k)) m at count bound = (
  part_is n i (suc k) m at count bound,
  parts_are n (i + 1) (suc k) (drop 8000 m) (omega (arith, at)) (omega (arith, count, length-drop 8000 m)) (next_bound i k m bound count),
)

spelt_each : (r : Replica) (k n : ℕ) → r.me < 15 → k < 15 → boots r.log < 2 ^ 64 → r.made < 2 ^ 64 → n ≤ most_parts → (ps : List (ℕ × List ℕ)) → AllByRecursion (IsPart n) ps →
    AllByRecursion (λ (s : ℕ × Datagram). (s.0 < 15) × FitsDatagram s.1) (map (λ p. (k, datagram.Part r.me k (boots r.log) r.made p.0 n p.1)) ps)
spelt_each r k n me to boot number most [] all = tt
spelt_each r k n me to boot number most (p ∷ ps) all =
    ((to, (me, to, boot, number, all.0.index, most, all.0.least, all.0.most)), spelt_each r k n me to boot number most ps all.1)

pub parts_spelt : (r : Replica) (k : ℕ) (c : Control) → r.me < 15 → k < 15 → boots r.log < 2 ^ 64 → r.made < 2 ^ 64 → FitsControl c →
    AllByRecursion (λ (s : ℕ × Datagram). (s.0 < 15) × FitsDatagram s.1) (parts_to r k c)
unfolding parts_to cut part_count
parts_spelt r k c me to boot number fits =
    let most = few c fits in
    let count : length (cut_into ((length (control_bytes c) + 7999) / 8000) (control_bytes c)) ≡ (length (control_bytes c) + 7999) / 8000 = cut_length _ _ in
    spelt_each r k _ me to boot number (omega (arith, count, most)) _
    (parts_are (length (cut_into ((length (control_bytes c) + 7999) / 8000) (control_bytes c))) 0 ((length (control_bytes c) + 7999) / 8000)
    (control_bytes c) (omega (arith, count)) refl (omega (arith, most)))
