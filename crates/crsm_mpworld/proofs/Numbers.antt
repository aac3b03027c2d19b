-- The numbers of the fresh messages.
use Rattle.std.proofs.Common.{◌≡◌, ◌<◌, ◌≤◌, ◌+◌, ℕ, zero, suc, Bool, true, false, ◌&&◌, not, cond, List, [], ◌∷◌, ◌++◌, length, map, set, Some, None, refl, ap, sym, ◌∙◌, subst, arith, append_assoc, length-append, append-nil, ◌-◌}
use Rattle.std.specs.Prelude.{slice_get, filter}
use Rattle.std.specs.List.{AllByRecursion, enumerate_from, range_with_len}
use Rattle.std.specs.Option.{option_map_or}
use Rattle.std.proofs.lemmas.List.{length-set}
use Rattle.std.proofs.lemmas.List.Elements.{filter-append}
use Rattle.crsm_mpspec.specs.World.{Packet}
use Rattle.crsm_mpworld.specs.Packets.{is_fresh_for, used_up, numbers_of, with_later, HasFresh}
use Rattle.crsm_mpworld.proofs.Gets.{get_before}

-- ---- filters

-- one filter behind another
pub filter_both : {A : Type 0} (p q : A → Bool) (xs : List A) → filter q (filter p xs) ≡ filter (λ x. p x && q x) xs
filter_both p q [] = refl
filter_both p q (x ∷ xs) =
    elim (p x) as (λ b. filter q (cond b (x ∷ filter p xs) (filter p xs)) ≡ cond (b && q x) (x ∷ filter (λ y. p y && q y) xs) (filter (λ y. p y && q y) xs)) [
      | true ↦ elim (q x) as (λ b. cond b (x ∷ filter q (filter p xs)) (filter q (filter p xs)) ≡ cond b (x ∷ filter (λ y. p y && q y) xs) (filter (λ y. p y && q y) xs)) [
        | true ↦ ap (λ ys. x ∷ ys) (filter_both p q xs)
        | false ↦ filter_both p q xs
      ]
      | false ↦ filter_both p q xs
    ]

-- a filter twice is once
pub filter_twice : {A : Type 0} (p : A → Bool) (xs : List A) → filter p (filter p xs) ≡ filter p xs
filter_twice p [] = refl
filter_twice p (x ∷ xs) =
    elim (p x) as (λ b. p x ≡ b → filter p (cond b (x ∷ filter p xs) (filter p xs)) ≡ cond b (x ∷ filter p xs) (filter p xs)) [
      | true ↦ λ e. rw e (ap (λ ys. x ∷ ys) (filter_twice p xs))
      | false ↦ λ e. filter_twice p xs
    ] refl

-- filters that agree on the elements
pub filter_same : {A : Type 0} (P : A → Type 0) (p q : A → Bool) (xs : List A) → ((x : A) → P x → p x ≡ q x) → AllByRecursion P xs → filter p xs ≡ filter q xs
filter_same P p q [] f all = refl
filter_same P p q (x ∷ xs) f all = rw (f x all.0) (ap (λ ys. cond (q x) (x ∷ ys) ys) (filter_same P p q xs f all.1))

pub filter_alike : {A : Type 0} (p q : A → Bool) (xs : List A) → ((x : A) → p x ≡ q x) → filter p xs ≡ filter q xs
filter_alike p q [] f = refl
filter_alike p q (x ∷ xs) f = rw (f x) (ap (λ ys. cond (q x) (x ∷ ys) ys) (filter_alike p q xs f))

-- what holds of each element holds of each that is left
pub all_filtered : {A : Type 0} (P : A → Type 0) (p : A → Bool) (xs : List A) → AllByRecursion P xs → AllByRecursion P (filter p xs)
all_filtered P p [] all = tt
all_filtered P p (x ∷ xs) all =
    elim (p x) as (λ b. AllByRecursion P (cond b (x ∷ filter p xs) (filter p xs))) [ true ↦ (all.0, all_filtered P p xs all.1) | false ↦ all_filtered P p xs all.1 ]

-- ---- numbers

pub range_more : (a n : ℕ) → range_with_len a (n + 1) ≡ range_with_len a n ++ (a + n) ∷ []
range_more a zero = ap (λ i. i ∷ []) (let e : a ≡ a + 0 = omega arith in e)
range_more a (suc n) =
    let e : a + 1 + n ≡ a + suc n = omega arith in
    let f : suc n + 1 ≡ suc (n + 1) = omega arith in
    ap (range_with_len a) f ∙ ap (λ is. a ∷ is) (range_more (a + 1) n ∙ ap (λ i. range_with_len (a + 1) n ++ i ∷ []) e)

pub range_to : (i : ℕ) → range_with_len 0 (i + 1) ≡ range_with_len 0 i ++ i ∷ []
range_to i = range_more 0 i ∙ ap (λ j. range_with_len 0 i ++ j ∷ []) (let z : 0 + i ≡ i = omega arith in z)

all_above : (a n m : ℕ) → a + n ≤ m → AllByRecursion (λ i. i < m) (range_with_len a n)
all_above a zero m l = tt
all_above a (suc n) m l = (omega arith, all_above (a + 1) n m (omega arith))

all_numbers : (packets : List Packet) → AllByRecursion (λ i. i < length packets) (numbers_of packets)
all_numbers packets = all_above 0 (length packets) (length packets) (omega arith)

-- ---- a message that is used up

-- two numbers differ
other : ℕ → ℕ → Bool
other zero zero = false
other zero (suc j) = true
other (suc i) zero = true
other (suc i) (suc j) = other i j

pub and_true : (b : Bool) → b ≡ b && true
and_true true = refl
and_true false = refl

and_false : (b : Bool) → false ≡ b && false
and_false true = refl
and_false false = refl

used_later : (m : Packet) (packets : List Packet) (i : ℕ) → used_up (suc i) (m ∷ packets) ≡ m ∷ used_up i packets
unfolding used_up
used_later m packets i = elim (slice_get packets i) as (λ o. option_map_or (λ p. m ∷ set packets i (record p { used = true })) o (m ∷ packets) ≡ m ∷ option_map_or (λ p. set packets i (record p { used = true })) o packets) [ Some p ↦ refl | None ↦ refl ]

fresh_after : (test : ℕ → Bool) (packets : List Packet) (i j : ℕ) → is_fresh_for test (used_up i packets) j ≡ is_fresh_for test packets j && other i j
unfolding is_fresh_for used_up other
fresh_after test [] i j = refl
fresh_after test (m ∷ packets) zero zero = and_false (not m.used && test m.to)
fresh_after test (m ∷ packets) zero (suc j) = and_true (is_fresh_for test packets j)
fresh_after test (m ∷ packets) (suc i) zero = ap (λ ms. is_fresh_for test ms 0) (used_later m packets i) ∙ and_true (not m.used && test m.to)
fresh_after test (m ∷ packets) (suc i) (suc j) = ap (λ ms. is_fresh_for test ms (suc j)) (used_later m packets i) ∙ fresh_after test packets i j

used_length : (packets : List Packet) (i : ℕ) → length (used_up i packets) ≡ length packets
unfolding used_up
used_length packets i = elim (slice_get packets i) as (λ o. length (option_map_or (λ p. set packets i (record p { used = true })) o packets) ≡ length packets) [ Some p ↦ length-set packets i _ | None ↦ refl ]

others : (test : ℕ → Bool) (packets : List Packet) (i : ℕ) (is : List ℕ) → filter (is_fresh_for test (used_up i packets)) is ≡ filter (other i) (filter (is_fresh_for test packets) is)
others test packets i is =
    filter_alike (is_fresh_for test (used_up i packets)) (λ j. is_fresh_for test packets j && other i j) is (fresh_after test packets i) ∙ sym (filter_both (is_fresh_for test packets) (other i) is)

has_used : (test : ℕ → Bool) (packets : List Packet) (i : ℕ) (is : List ℕ) → HasFresh test packets is → HasFresh test (used_up i packets) is
has_used test packets i is h = record {
  sent = subst (λ (n : ℕ). AllByRecursion (λ j. j < n) is) (sym (used_length packets i)) h.sent;
  all = others test packets i is ∙ ap (filter (other i)) h.all ∙ sym (others test packets i (numbers_of packets))
      ∙ ap (λ n. filter (is_fresh_for test (used_up i packets)) (range_with_len 0 n)) (sym (used_length packets i));
}

-- ---- a message that is sent

fresh_before : (test : ℕ → Bool) (packets : List Packet) (m : Packet) (i : ℕ) → i < length packets → is_fresh_for test (packets ++ m ∷ []) i ≡ is_fresh_for test packets i
unfolding is_fresh_for
fresh_before test packets m i l = ap (λ o. option_map_or (λ p. not p.used && test p.to) o false) (get_before packets m i l)

-- the new one stands behind the others, if at all
more_filtered : (test : ℕ → Bool) (packets : List Packet) (m : Packet) (is : List ℕ) → AllByRecursion (λ i. i < length packets) is
    → filter (is_fresh_for test (packets ++ m ∷ [])) (is ++ length packets ∷ []) ≡ filter (is_fresh_for test packets) is ++ filter (is_fresh_for test (packets ++ m ∷ [])) (length packets ∷ [])
more_filtered test packets m is sent =
    filter-append _ is (length packets ∷ [])
    ∙ ap (λ js. js ++ filter (is_fresh_for test (packets ++ m ∷ [])) (length packets ∷ [])) (filter_same (λ i. i < length packets) _ (is_fresh_for test packets) is (fresh_before test packets m) sent)

numbers_more : (packets : List Packet) (m : Packet) → numbers_of packets ++ length packets ∷ [] ≡ numbers_of (packets ++ m ∷ [])
numbers_more packets m =
    sym (range_more 0 (length packets) ∙ ap (λ i. numbers_of packets ++ i ∷ []) (let z : 0 + length packets ≡ length packets = omega arith in z)) ∙ ap (range_with_len 0) (sym (length-append packets (m ∷ [])))

all_wider : (n : ℕ) (is : List ℕ) → AllByRecursion (λ i. i < n) is → AllByRecursion (λ i. i < n + 1) (is ++ n ∷ [])
all_wider n [] all = (omega arith, tt)
all_wider n (i ∷ is) all = (let l = all.0 in omega arith, all_wider n is all.1)

has_sent : (test : ℕ → Bool) (packets : List Packet) (m : Packet) (is : List ℕ) → HasFresh test packets is → HasFresh test (packets ++ m ∷ []) (is ++ length packets ∷ [])
has_sent test packets m is h = record {
  sent = subst (λ (n : ℕ). AllByRecursion (λ i. i < n) (is ++ length packets ∷ [])) (sym (length-append packets (m ∷ []))) (all_wider (length packets) is h.sent);
  all = more_filtered test packets m is h.sent ∙ ap (λ js. js ++ filter (is_fresh_for test (packets ++ m ∷ [])) (length packets ∷ [])) h.all
      ∙ sym (more_filtered test packets m (numbers_of packets) (all_numbers packets)) ∙ ap (filter (is_fresh_for test (packets ++ m ∷ []))) (numbers_more packets m);
}

-- ---- fewer numbers

pub has_none : (test : ℕ → Bool) (is : List ℕ) → is ≡ [] → HasFresh test [] is
has_none test is e = record { sent = subst (AllByRecursion (λ i. i < length {A = Packet} [])) (sym e) tt; all = ap (filter (is_fresh_for test [])) e }

pub has_kept : (test : ℕ → Bool) (packets : List Packet) (is kept : List ℕ) → HasFresh test packets is → kept ≡ filter (is_fresh_for test packets) is → HasFresh test packets kept
has_kept test packets is kept h e = record {
  sent = subst (AllByRecursion (λ i. i < length packets)) (sym e) (all_filtered (λ i. i < length packets) (is_fresh_for test packets) is h.sent);
  all = ap (filter (is_fresh_for test packets)) e ∙ filter_twice (is_fresh_for test packets) is ∙ h.all;
}

narrower : (test : ℕ → Bool) (packets : List Packet) (i : ℕ) → is_fresh_for test packets i ≡ is_fresh_for (λ k. true) packets i && is_fresh_for test packets i
unfolding is_fresh_for
narrower test packets i =
    elim (slice_get packets i) as (λ o. option_map_or (λ m. not m.used && test m.to) o false ≡ option_map_or (λ m. not m.used && true) o false && option_map_or (λ m. not m.used && test m.to) o false) [ Some m ↦ at (not m.used) (test m.to) | None ↦ refl ]
  where
    at : (a b : Bool) → (a && b) ≡ ((a && true) && (a && b))
    at true b = refl
    at false b = refl

fewer : (test : ℕ → Bool) (packets : List Packet) (is : List ℕ) → filter (is_fresh_for test packets) is ≡ filter (is_fresh_for test packets) (filter (is_fresh_for (λ k. true) packets) is)
fewer test packets is =
    filter_alike (is_fresh_for test packets) (λ i. is_fresh_for (λ k. true) packets i && is_fresh_for test packets i) is (narrower test packets) ∙ sym (filter_both (is_fresh_for (λ k. true) packets) (is_fresh_for test packets) is)

-- where all fresh ones are among them, so are those that pass a test
pub has_fewer : (test : ℕ → Bool) (packets : List Packet) (is : List ℕ) → HasFresh (λ k. true) packets is → HasFresh test packets is
has_fewer test packets is h = record {
  sent = h.sent;
  all = fewer test packets is ∙ ap (filter (is_fresh_for test packets)) h.all ∙ sym (fewer test packets (numbers_of packets));
}

-- ---- numbers from one on

-- a number more
range_next : (is : List ℕ) (a k : ℕ) → a ≤ k → (is ++ range_with_len a (k - a)) ++ k ∷ [] ≡ is ++ range_with_len a (k + 1 - a)
range_next is a k l =
    let e : (k - a) + 1 ≡ k + 1 - a = omega (arith, l) in
    let f : k ≡ a + (k - a) = omega (arith, l) in
    append_assoc is (range_with_len a (k - a)) (k ∷ [])
    ∙ ap (λ js. is ++ js) (ap (λ i. range_with_len a (k - a) ++ i ∷ []) f ∙ sym (range_more a (k - a)) ∙ ap (range_with_len a) e)

-- none
pub range_none : (is : List ℕ) (a n : ℕ) → n ≤ a → is ≡ is ++ range_with_len a (n - a)
range_none is a n l = sym (append-nil is) ∙ ap (λ m. is ++ range_with_len a m) (let z : 0 ≡ n - a = omega (arith, l) in z)

pub filter_later : (test : ℕ → Bool) (is : List ℕ) (a k : ℕ) → a ≤ k
    → filter test (is ++ range_with_len a (k - a)) ++ filter test (k ∷ []) ≡ filter test (is ++ range_with_len a (k + 1 - a))
filter_later test is a k l = sym (filter-append test (is ++ range_with_len a (k - a)) (k ∷ [])) ∙ ap (filter test) (range_next is a k l)

pub later_none : (packets : List Packet) (is : List ℕ) (from : ℕ) → from ≡ length packets → is ≡ with_later is from packets
later_none packets is from e = range_none is from (length packets) (omega (arith, e))

later_more : (packets : List Packet) (m : Packet) (is : List ℕ) (from : ℕ) → from ≤ length packets → with_later is from packets ++ length packets ∷ [] ≡ with_later is from (packets ++ m ∷ [])
later_more packets m is from l =
    range_next is from (length packets) l
    ∙ ap (λ n. is ++ range_with_len from n) (let e : length packets + 1 - from ≡ length (packets ++ m ∷ []) - from = omega (arith, length-append packets (m ∷ [])) in e)

pub later_sent : (test : ℕ → Bool) (packets : List Packet) (m : Packet) (is : List ℕ) (from : ℕ) → from ≤ length packets
    → HasFresh test packets (with_later is from packets) → HasFresh test (packets ++ m ∷ []) (with_later is from (packets ++ m ∷ []))
later_sent test packets m is from l h = subst (HasFresh test (packets ++ m ∷ [])) (later_more packets m is from l) (has_sent test packets m (with_later is from packets) h)

pub within_sent : (packets : List Packet) (m : Packet) (from : ℕ) → from ≤ length packets → from ≤ length (packets ++ m ∷ [])
within_sent packets m from l = omega (arith, l, length-append packets (m ∷ []))

pub later_used : (test : ℕ → Bool) (packets : List Packet) (i : ℕ) (is : List ℕ) (from : ℕ)
    → HasFresh test packets (with_later is from packets) → HasFresh test (used_up i packets) (with_later is from (used_up i packets))
later_used test packets i is from h =
    subst (λ (n : ℕ). HasFresh test (used_up i packets) (is ++ range_with_len from (n - from))) (sym (used_length packets i)) (has_used test packets i (with_later is from packets) h)

pub within_used : (packets : List Packet) (i from : ℕ) → from ≤ length packets → from ≤ length (used_up i packets)
within_used packets i from l = omega (arith, l, used_length packets i)

-- of these numbers those that are kept, where no message is later
pub later_kept : (test : ℕ → Bool) (packets : List Packet) (is kept : List ℕ) (end : ℕ) → HasFresh test packets is → kept ≡ filter (is_fresh_for test packets) is
    → end ≡ length packets → HasFresh test packets (with_later kept end packets)
later_kept test packets is kept end h e f = subst (HasFresh test packets) (later_none packets kept end f) (has_kept test packets is kept h e)

-- ---- by place

get_here : (packets : List Packet) (m : Packet) (ms : List Packet) → slice_get (packets ++ m ∷ ms) (length packets) ≡ Some m
get_here [] m ms = refl
get_here (a ∷ packets) m ms = get_here packets m ms

-- a test by place of a list, over numbers that begin behind `before`
numbered : (q : Packet → Bool) (before packets : List Packet) (n : ℕ) → length before ≡ n
    → map (λ p. p.0) (filter (λ p. q p.1) (enumerate_from n packets)) ≡ filter (λ i. option_map_or q (slice_get (before ++ packets) i) false) (range_with_len n (length packets))
numbered q before [] n e = refl
numbered q before (m ∷ packets) n e =
    let here : option_map_or q (slice_get (before ++ m ∷ packets) n) false ≡ q m = ap (λ o. option_map_or q o false) (ap (slice_get (before ++ m ∷ packets)) (sym e) ∙ get_here before m packets) in
    let step : length (before ++ m ∷ []) ≡ n + 1 = omega (arith, length-append before (m ∷ []), e) in
    let rest = numbered q (before ++ m ∷ []) packets (n + 1) step ∙ ap (λ ms. filter (λ i. option_map_or q (slice_get ms i) false) (range_with_len (n + 1) (length packets))) (append_assoc before (m ∷ []) packets) in
    elim (q m) as (λ b. option_map_or q (slice_get (before ++ m ∷ packets) n) false ≡ b
    → map (λ p. p.0) (cond b ((n, m) ∷ filter (λ p. q p.1) (enumerate_from (n + 1) packets)) (filter (λ p. q p.1) (enumerate_from (n + 1) packets)))
    ≡ filter (λ i. option_map_or q (slice_get (before ++ m ∷ packets) i) false) (n ∷ range_with_len (n + 1) (length packets))) [
      | true ↦ λ f. rw f (ap (λ is. n ∷ is) rest)
      | false ↦ λ f. rw f rest
    ] here

pub numbers_fresh : (test : ℕ → Bool) (packets : List Packet) → filter (is_fresh_for test packets) (numbers_of packets) ≡ map (λ p. p.0) (filter (λ p. not p.1.used && test p.1.to) (enumerate_from 0 packets))
unfolding is_fresh_for
numbers_fresh test packets = sym (numbered (λ m. not m.used && test m.to) [] packets 0 refl)
