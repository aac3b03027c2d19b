-- Replicas without one, and those below a number.
use Rattle.std.proofs.Common.{◌≡◌, ◌∙◌, ℕ, zero, suc, ◌+◌, ◌<◌, ◌≤◌, refl, ap, sym, List, [], ◌∷◌, ◌++◌, length, take, get_or, Bool, true, false, arith}
use Rattle.std.specs.Prelude.{◌≢◌, ◌==◌, ◌||◌, ◌&&◌, not, nat_lt, filter, Option, None, Some, unwrap_or}
use Rattle.std.specs.List.{list_any, range_with_len}
use Rattle.std.proofs.lemmas.Bool.Decides.{nat_tests}
use Rattle.std.proofs.lemmas.List.{take_more, append-nil}
use Rattle.std.proofs.lemmas.List.Elements.{filter-append}
use Rattle.crsm_spec.specs.Lists.{has, numbers_below}

abbrev pub but_for : ℕ → List ℕ → List ℕ
but_for me ks = filter (λ k. not (k == me)) ks

is_eq : (a b : ℕ) → a ≡ b → (a == b) ≡ true
is_eq a b h = grind (arith, nat_tests)

not_eq : (a b : ℕ) → a ≢ b → (a == b) ≡ false
not_eq a b h = grind (arith, nat_tests)

one_skipped : (k me : ℕ) → k ≡ me → but_for me (k ∷ []) ≡ []
one_skipped k me e = rw (is_eq k me e) refl

one_taken : (k me : ℕ) → k ≢ me → but_for me (k ∷ []) ≡ k ∷ []
one_taken k me e = rw (not_eq k me e) refl

more : (ks : List ℕ) (i me : ℕ) → i < length ks → but_for me (take (i + 1) ks) ≡ but_for me (take i ks) ++ but_for me (get_or ks i 0 ∷ [])
more ks i me l = ap (λ zs. but_for me zs) (take_more ks i 0 l) ∙ filter-append (λ k. not (k == me)) (take i ks) (get_or ks i 0 ∷ [])

pub skips : (ks others : List ℕ) (i me : ℕ) → i < length ks → get_or ks i 0 ≡ me → others ≡ but_for me (take i ks) → others ≡ but_for me (take (i + 1) ks)
skips ks others i me l e h =
    h ∙ sym (append-nil (but_for me (take i ks))) ∙ ap (λ zs. but_for me (take i ks) ++ zs) (sym (one_skipped (get_or ks i 0) me e)) ∙ sym (more ks i me l)

pub takes : (ks others now : List ℕ) (i me : ℕ) → i < length ks → get_or ks i 0 ≢ me → now ≡ others ++ get_or ks i 0 ∷ [] → others ≡ but_for me (take i ks) →
    now ≡ but_for me (take (i + 1) ks)
takes ks others now i me l e n h =
    n ∙ ap (λ zs. zs ++ get_or ks i 0 ∷ []) h ∙ ap (λ zs. but_for me (take i ks) ++ zs) (sym (one_taken (get_or ks i 0) me e)) ∙ sym (more ks i me l)

pub take_whole : (ks : List ℕ) (i : ℕ) → length ks ≤ i → take i ks ≡ ks
take_whole [] zero l = refl
take_whole [] (suc i) l = refl
take_whole (k ∷ ks) zero l = absurd (omega arith)
take_whole (k ∷ ks) (suc i) l = ap (λ js. k ∷ js) (take_whole ks i (omega arith))

-- ---- the numbers below one

either_way : (b : Bool) (i n k : ℕ) → (i == k) ≡ b → (b || (nat_lt k (i + 1 + n) && not (nat_lt k (i + 1)))) ≡ (nat_lt k (i + suc n) && not (nat_lt k i))
either_way true i n k e = grind (arith, nat_tests)
either_way false i n k e = grind (arith, nat_tests)

has_range : (n i k : ℕ) → list_any (λ j. j == k) (range_with_len i n) ≡ (nat_lt k (i + n) && not (nat_lt k i))
has_range zero i k = grind (arith, nat_tests)
has_range (suc n) i k = ap (λ b. (i == k) || b) (has_range n (i + 1) k) ∙ either_way (i == k) i n k refl

from_zero : (n k : ℕ) → (nat_lt k (0 + n) && not (nat_lt k 0)) ≡ nat_lt k n
from_zero n k = grind (arith, nat_tests)

pub has_below : (n k : ℕ) → nat_lt k n ≡ has (numbers_below n) k
unfolding has numbers_below
has_below n k = sym (has_range n 0 k ∙ from_zero n k)

-- ---- which replicas are counted

named : (o : Option (List ℕ)) (ks : List ℕ) (n : ℕ) → o ≡ Some ks → ks ≡ unwrap_or o (numbers_below n)
named o ks n e = sym (ap (λ (p : Option (List ℕ)). unwrap_or p (numbers_below n)) e)

pub among_named : (o : Option (List ℕ)) (ks spec : List ℕ) (n k : ℕ) → o ≡ Some ks → unwrap_or o (numbers_below n) ≡ spec → has ks k ≡ has spec k
among_named o ks spec n k e h = ap (λ js. has js k) (named o ks n e ∙ h)

pub among_first : (o : Option (List ℕ)) (spec : List ℕ) (n k : ℕ) → o ≡ None → unwrap_or o (numbers_below n) ≡ spec → nat_lt k n ≡ has spec k
among_first o spec n k e h =
    has_below n k ∙ ap (λ js. has js k) (sym (ap (λ (p : Option (List ℕ)). unwrap_or p (numbers_below n)) e) ∙ h)
