use Rattle.std.proofs.Common.{◌≡◌, ◌≢◌, ℕ, ◌+◌, ◌/◌, ◌%◌, ◌^◌, ◌<◌, ◌≤◌, List, [], ◌∷◌, ◌++◌, length, get_or, take, drop, zero, suc, true, false, Bool, ◌&&◌, ◌||◌, nat_lt, refl, ap, sym, ◌∙◌, arith, decimal}
use Rattle.std.proofs.lemmas.Fmt.{decimal_by_steps}
use Rattle.std.specs.List.{list_all}
use Rattle.std.proofs.lemmas.Bool.Decides.{nat_tests}
use Rattle.std.proofs.lemmas.List.{drop_more, take-append-drop, get_or_at, length-append}
use Rattle.hex.specs.Hex.{encode_lower, encode_with, lower_digits}
use Rattle.crsm_text.specs.Words.{Lacks}

pub Lacks-append : (c : ℕ) (xs ys : List ℕ) → Lacks c xs → Lacks c ys → Lacks c (xs ++ ys)
Lacks-append c [] ys p q = q
Lacks-append c (x ∷ xs) ys p q = (p.0, Lacks-append c xs ys p.1 q)

-- each element of a prefix that differs
pub Lacks-take : (c : ℕ) (xs : List ℕ) (i : ℕ) → i ≤ length xs → ((k : ℕ) → k < i → get_or xs k 0 ≢ c) → Lacks c (take i xs)
Lacks-take c xs zero short h = tt
Lacks-take c [] (suc i) short h = tt
Lacks-take c (x ∷ xs) (suc i) short h = (h 0 (omega arith), Lacks-take c xs i (omega arith) (λ k l. h (suc k) (omega arith)))

-- an element that is not 0 stands at no index
pub Lacks-index : (c : ℕ) (xs : List ℕ) (k : ℕ) → Lacks c xs → 0 < c → get_or xs k 0 ≢ c
Lacks-index c [] k p pos = λ e. absurd (omega (arith, e))
Lacks-index c (x ∷ xs) zero p pos = p.0
Lacks-index c (x ∷ xs) (suc k) p pos = Lacks-index c xs k p.1 pos

-- before the first such element stands one list
pub split_unique : (c : ℕ) (a b x y : List ℕ) → Lacks c a → Lacks c b → a ++ c ∷ x ≡ b ++ c ∷ y → (a ≡ b) × (x ≡ y)
split_unique c [] [] x y p q e = (refl, cc)
split_unique c [] (n ∷ b) x y p q e = absurd (q.0 (cc))
split_unique c (m ∷ a) [] x y p q e = absurd (p.0 (cc))
split_unique c (m ∷ a) (n ∷ b) x y p q e =
    let tails : a ++ c ∷ x ≡ b ++ c ∷ y = cc in
    let r = split_unique c a b x y p.1 q.1 tails in
    let heads : m ≡ n = cc in
    (let same : a ≡ b = r.0 in cc, r.1)

-- where one list has the element, the other does
pub lacks_not : (c : ℕ) (a b y : List ℕ) → Lacks c a → a ≢ b ++ c ∷ y
lacks_not c [] [] y p e = cc
lacks_not c [] (n ∷ b) y p e = cc
lacks_not c (m ∷ a) [] y p e = p.0 (cc)
lacks_not c (m ∷ a) (n ∷ b) y p e = let tails : a ≡ b ++ c ∷ y = cc in lacks_not c a b y p.1 tails

pub Lacks-decimal : (c n : ℕ) → c < 48 → n < 2 ^ 64 → Lacks c (decimal n)
Lacks-decimal c n low fits = decimal_by_steps (λ _ ds. Lacks c ds)
    (λ m small. (λ e. absurd (omega (arith, e)), tt))
    (λ m ds big p. Lacks-append c ds ((48 + m % 10) ∷ []) p (λ e. absurd (omega (arith, e)), tt))
    n fits

-- both sides of a test that holds
pub and_true : (a b : Bool) → (a && b) ≡ true → (a ≡ true) × (b ≡ true)
and_true true b h = (refl, h)
and_true false b h = cc

-- an element that a test of each element tells apart
pub Lacks-test : (c : ℕ) (xs : List ℕ) → list_all (λ x. nat_lt x c || nat_lt c x) xs ≡ true → Lacks c xs
Lacks-test c [] h = tt
Lacks-test c (x ∷ xs) h =
    let p = and_true (nat_lt x c || nat_lt c x) (list_all (λ x. nat_lt x c || nat_lt c x) xs) h in
    (λ e. let t : nat_lt x c || nat_lt c x ≡ true = p.0 in absurd (grind (arith, nat_tests)), Lacks-test c xs p.1)

pub Lacks-encode_lower : (c : ℕ) (bytes : List ℕ) → 0 < c → Lacks c lower_digits → Lacks c (encode_lower bytes)
unfolding encode_with
Lacks-encode_lower c [] pos lacks = tt
Lacks-encode_lower c (b ∷ bytes) pos lacks =
    (Lacks-index c lower_digits (b / 16) lacks pos, (Lacks-index c lower_digits (b % 16) lacks pos, Lacks-encode_lower c bytes pos lacks))

-- what stands at the first such element splits the list there
pub split_here : (c : ℕ) (xs w r : List ℕ) (i : ℕ) → i < length xs → get_or xs i 0 ≡ c → ((k : ℕ) → k < i → get_or xs k 0 ≢ c) → Lacks c w → xs ≡ w ++ c ∷ r → (take i xs ≡ w) × (drop (i + 1) xs ≡ r)
split_here c xs w r i within here below lacks e =
    let cut : drop i xs ≡ c ∷ drop (i + 1) xs = drop_more xs i 0 within ∙ ap (λ y. y ∷ drop (i + 1) xs) here in
    let whole : take i xs ++ c ∷ drop (i + 1) xs ≡ w ++ c ∷ r = ap (λ ys. take i xs ++ ys) (sym cut) ∙ take-append-drop i xs ∙ e in
    split_unique c (take i xs) w (drop (i + 1) xs) r (Lacks-take c xs i (omega arith) below) lacks whole

-- a list with such an element has it at some index
pub split_nowhere : (c : ℕ) (xs w r : List ℕ) (i : ℕ) → length xs ≤ i → ((k : ℕ) → k < i → get_or xs k 0 ≢ c) → xs ≢ w ++ c ∷ r
split_nowhere c xs w r i past below e =
    let here : get_or xs (length w) 0 ≡ c = ap (λ ys. get_or ys (length w) 0) e ∙ get_or_at w c r 0 (length w) refl in
    let long : length xs ≡ length w + length (c ∷ r) = ap length e ∙ length-append w (c ∷ r) in
    below (length w) (omega arith) here
