-- Boolean tests of numbers, stamps, ballots and addresses imply the relations that they test.
use Rattle.std.proofs.Common.{◌≡◌, ℕ, ◌+◌, refl, sym, ◌∙◌, ap, Bool, true, false, arith}
use Rattle.std.specs.Prelude.{◌≢◌, IsTrue, not, nat_lt, nat_le, ◌==◌, ◌&&◌, ◌||◌}
use Rattle.std.proofs.lemmas.Bool.{and_parts, eqb-true, eq-eqb, false≢true, not-false, ltb-false, leb-false}
use Rattle.crsm_base.specs.Order.{ballot_lt, ballot_eq, stamp_eq}
use Rattle.crsm_spec.specs.Types.{Stamp, Ballot}
use Rattle.crsm_spec.specs.Choice.{when◌then◌otherwise◌}
use Rattle.crsm_spec.specs.Replica.{Replica}
use Rattle.crsm_spec.specs.Frames.{is_astray}
use Rattle.crsm_spec.specs.Coordinate.{greater_ballot}
use Rattle.std.proofs.lemmas.Bool.Decides.{nat_tests}

pub or_parts : (a b : Bool) → (a || b) ≡ false → (a ≡ false) × (b ≡ false)
or_parts true b h = absurd (false≢true (sym h))
or_parts false b h = (refl, h)

pub not_not : (a : Bool) → not a ≡ false → IsTrue a
not_not a h = not-false a h

-- of two numbers neither is below the other
pub same_number : (a b : ℕ) → nat_lt a b ≡ false → nat_lt b a ≡ false → a ≡ b
same_number a b h i = let p = ltb-false a b h in let q = ltb-false b a i in omega (arith, p, q)

pub next_number : (i e : ℕ) → nat_le i e ≡ false → nat_lt (e + 1) i ≡ false → i ≡ e + 1
next_number i e h j = let p = leb-false i e h in let q = ltb-false (e + 1) i j in omega (arith, p, q)

pub same_ballot : (a b : Ballot) → IsTrue (ballot_eq a b) → a ≡ b
unfolding ballot_eq
same_ballot a b h =
    let p = and_parts (a.round == b.round) (a.by == b.by) h in
    let c : Ballot = record { round = b.round; by = a.by } in
    let one : a ≡ c = ap (λ r. record { round = r; by = a.by }) (eqb-true a.round b.round p.0) in
    let two : c ≡ b = ap (λ s. record { round = b.round; by = s }) (eqb-true a.by b.by p.1) in
    one ∙ two

pub ballot_is : (b : Ballot) → IsTrue (ballot_eq b b)
unfolding ballot_eq
ballot_is b = go (b.round == b.round) (b.by == b.by) (eq-eqb b.round b.round refl) (eq-eqb b.by b.by refl)
  where
    go : (p q : Bool) → p ≡ true → q ≡ true → (p && q) ≡ true
    go true q h i = i
    go false q h i = h

-- one round above the greater of two ballots is above the first
pub above_top : (a b : Ballot) (k : ℕ) → IsTrue (ballot_lt a (record { round = (greater_ballot a b).round + 1; by = k }))
unfolding greater_ballot ballot_lt when◌then◌otherwise◌
above_top a b k = go (ballot_lt a b) refl
  where
    go : (c : Bool) → ballot_lt a b ≡ c → IsTrue (ballot_lt a (record { round = (when c then b otherwise a).round + 1; by = k }))
    go true h = grind (arith, nat_tests, h)
    go false h = grind (arith, nat_tests)

-- a datagram that is not astray is of another replica and for this one
pub not_astray : (r : Replica) (from to : ℕ) → is_astray r from to ≡ false → (from ≢ r.me) × (to ≡ r.me)
unfolding is_astray
not_astray r from to h =
    let p = or_parts (nat_lt 14 from || from == r.me) (not (to == r.me)) h in
    let q = or_parts (nat_lt 14 from) (from == r.me) p.0 in
    (λ e. false≢true (sym q.1 ∙ eq-eqb from r.me e), eqb-true to r.me (not_not (to == r.me) p.1))

pub same_stamp : (a b : Stamp) → IsTrue (stamp_eq a b) → a ≡ b
unfolding stamp_eq
same_stamp a b h =
    let p = and_parts (a.time == b.time) (a.origin == b.origin) h in
    let c : Stamp = record { time = b.time; origin = a.origin } in
    let one : a ≡ c = ap (λ t. record { time = t; origin = a.origin }) (eqb-true a.time b.time p.0) in
    let two : c ≡ b = ap (λ k. record { time = b.time; origin = k }) (eqb-true a.origin b.origin p.1) in
    one ∙ two
