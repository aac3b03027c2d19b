-- Ballots are in a total order.
use Rattle.std.proofs.Common.{◌≡◌, ◌⊎◌, Bool, true, false, arith, inl, inr, refl}
use Rattle.std.proofs.lemmas.Bool.Decides.{nat_tests}
use Rattle.crsm_base.specs.declared.stamp.Ballot.{Ballot}
use Rattle.crsm_base.specs.Order.{ballot_lt, ballot_eq}

pub below-irrefl : (a : Ballot) → ballot_lt a a ≡ false
unfolding ballot_lt
below-irrefl a = grind (arith, nat_tests)

pub below_trans : (a b c : Ballot) → ballot_lt a b ≡ true → ballot_lt b c ≡ true → ballot_lt a c ≡ true
unfolding ballot_lt
below_trans a b c h k = grind (arith, nat_tests)

pub le_trans : (a b c : Ballot) → ballot_lt b a ≡ false → ballot_lt c b ≡ false → ballot_lt c a ≡ false
unfolding ballot_lt
le_trans a b c h k = grind (arith, nat_tests)

pub below_le : (a b c : Ballot) → ballot_lt a b ≡ true → ballot_lt c b ≡ false → ballot_lt a c ≡ true
unfolding ballot_lt
below_le a b c h k = grind (arith, nat_tests)

pub le_below : (a b c : Ballot) → ballot_lt b a ≡ false → ballot_lt b c ≡ true → ballot_lt a c ≡ true
unfolding ballot_lt
le_below a b c h k = grind (arith, nat_tests)

pub below_not_back : (a b : Ballot) → ballot_lt a b ≡ true → ballot_lt b a ≡ false
unfolding ballot_lt
below_not_back a b h = grind (arith, nat_tests)

same_ballot : (a b : Ballot) → a.round ≡ b.round → a.by ≡ b.by → a ≡ b
same_ballot a b h k = λ i. record { round = h i; by = k i }

same_round : (a b : Ballot) → ballot_lt a b ≡ false → ballot_lt b a ≡ false → a.round ≡ b.round
unfolding ballot_lt
same_round a b h k = grind (arith, nat_tests)

same_by : (a b : Ballot) → ballot_lt a b ≡ false → ballot_lt b a ≡ false → a.by ≡ b.by
unfolding ballot_lt
same_by a b h k = grind (arith, nat_tests)

pub same_from_both : (a b : Ballot) → ballot_lt a b ≡ false → ballot_lt b a ≡ false → a ≡ b
same_from_both a b h k = same_ballot a b (same_round a b h k) (same_by a b h k)

pub compare : (a b : Ballot) → (ballot_lt a b ≡ true) ⊎ ((a ≡ b) ⊎ (ballot_lt b a ≡ true))
compare a b = go (ballot_lt a b) refl (ballot_lt b a) refl
  where
    go : (r : Bool) → ballot_lt a b ≡ r → (s : Bool) → ballot_lt b a ≡ s → (ballot_lt a b ≡ true) ⊎ ((a ≡ b) ⊎ (ballot_lt b a ≡ true))
    go true h s k = inl h
    go false h true k = inr (inr k)
    go false h false k = inr (inl (same_from_both a b h k))

pub ballot_eq_is : (a b : Ballot) → ballot_eq a b ≡ true → a ≡ b
unfolding ballot_eq
ballot_eq_is a b h = same_ballot a b (grind (arith, nat_tests)) (grind (arith, nat_tests))
