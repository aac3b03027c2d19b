-- The greatest of some moments, replica by replica.
use Rattle.std.proofs.Common.{◌≡◌, ◌≢◌, ℕ, zero, suc, ◌+◌, ◌<◌, List, [], ◌∷◌, ◌++◌, refl, sym, ◌∙◌, ap, Bool, true, false, cond, arith, map, max, min, ◌-◌, append_assoc}
use Rattle.std.specs.Prelude.{filter, not, ◌==◌}
use Rattle.std.specs.List.{range_with_len, flat_map}
use Rattle.std.proofs.lemmas.Grind.{flat_map-append}
use Rattle.crsm_delay.specs.Times.{row}
use Rattle.std.proofs.lemmas.List.{append-nil}
use Rattle.std.proofs.lemmas.Bool.{eq-eqb, ne_eqb}
use Rattle.crsm_spec.specs.Lists.{greatest, numbers_below}
use Rattle.crsm_spec_plan.specs.declared.Plan.{Plan}
use Rattle.crsm_spec_plan.specs.Plans.{FitsPlan, ok_at, delay_of, offset_of, reading, stamped, arrival, others, commit_at}

-- the greatest over the replicas below k, and the command's own
pub last_below : Plan → ℕ → ℕ → ℕ
last_below plan i k = greatest (plan.at ∷ map (λ j. ok_at plan j + delay_of plan j i) (filter (λ j. not (j == plan.origin)) (numbers_below k)))

pub all_below : (plan : Plan) (i : ℕ) → last_below plan i plan.n ≡ commit_at plan i
unfolding last_below commit_at others
all_below plan i = refl

pub none_below : (plan : Plan) (i : ℕ) → plan.at ≡ last_below plan i 0
unfolding last_below numbers_below greatest
none_below plan i = omega arith

one_later : (n : ℕ) → suc n + 1 ≡ suc (n + 1)
one_later n = omega arith

one_more : (a n : ℕ) → range_with_len a (n + 1) ≡ range_with_len a n ++ (a + n) ∷ []
one_more a zero = ap (λ k. k ∷ []) (omega arith)
one_more a (suc n) = ap (range_with_len a) (one_later n) ∙ ap (λ l. a ∷ l) (one_more (a + 1) n) ∙ ap (λ k. a ∷ (range_with_len (a + 1) n ++ k ∷ [])) (omega arith)

greatest_more : (xs : List ℕ) (x : ℕ) → greatest (xs ++ x ∷ []) ≡ max (greatest xs) x
unfolding greatest
greatest_more [] x = omega arith
greatest_more (y ∷ ys) x = let h = greatest_more ys x in omega (arith, h)

filter_more : (p : ℕ → Bool) (xs : List ℕ) (x : ℕ) → filter p (xs ++ x ∷ []) ≡ filter p xs ++ cond (p x) (x ∷ []) []
filter_more p [] x = go (p x)
  where
    go : (b : Bool) → cond b (x ∷ []) [] ≡ cond b (x ∷ []) []
    go b = refl
filter_more p (y ∷ ys) x = go (p y) (filter_more p ys x)
  where
    go : (b : Bool) → filter p (ys ++ x ∷ []) ≡ filter p ys ++ cond (p x) (x ∷ []) [] → cond b (y ∷ filter p (ys ++ x ∷ [])) (filter p (ys ++ x ∷ [])) ≡ cond b (y ∷ filter p ys) (filter p ys) ++ cond (p x) (x ∷ []) []
    go true h = ap (λ l. y ∷ l) h
    go false h = h

map_more : (f : ℕ → ℕ) (xs ys : List ℕ) → map f (xs ++ ys) ≡ map f xs ++ map f ys
map_more f [] ys = refl
map_more f (x ∷ xs) ys = ap (λ l. f x ∷ l) (map_more f xs ys)

step : (plan : Plan) (i k : ℕ) (b : Bool) → not (k == plan.origin) ≡ b →
    last_below plan i (k + 1) ≡ greatest ((plan.at ∷ map (λ j. ok_at plan j + delay_of plan j i) (filter (λ j. not (j == plan.origin)) (numbers_below k))) ++ map (λ j. ok_at plan j + delay_of plan j i) (cond b (k ∷ []) []))
unfolding last_below numbers_below
step plan i k b e =
    let f : ℕ → ℕ = λ j. ok_at plan j + delay_of plan j i in
    let p : ℕ → Bool = λ j. not (j == plan.origin) in
    ap (λ l. greatest (plan.at ∷ map f (filter p l))) (one_more 0 k ∙ ap (λ n. range_with_len 0 k ++ n ∷ []) (omega arith))
    ∙ ap (λ l. greatest (plan.at ∷ map f l)) (filter_more p (range_with_len 0 k) k ∙ ap (λ c. filter p (range_with_len 0 k) ++ cond c (k ∷ []) []) e)
    ∙ ap (λ l. greatest (plan.at ∷ l)) (map_more f (filter p (range_with_len 0 k)) (cond b (k ∷ []) []))

-- the sum stays in its range
sum_small : (plan : Plan) (i k ok takes : ℕ) → FitsPlan plan → ok ≡ ok_at plan k → takes ≡ delay_of plan k i → ok + takes < 18446744073709551616
unfolding ok_at arrival stamped reading
sum_small plan i k ok takes fit o t =
    let a = fit.at in
    let b = fit.offsets plan.origin in
    let c = fit.delays plan.origin k in
    let d = fit.delays k i in
    omega (arith, o, t, a, b, c, d)

pub another : (plan : Plan) (i k last ok takes comes : ℕ) → FitsPlan plan → k ≢ plan.origin → last ≡ last_below plan i k → ok ≡ ok_at plan k → takes ≡ delay_of plan k i →
    comes ≡ min (ok + takes) 18446744073709551615 → max last comes ≡ last_below plan i (k + 1)
unfolding last_below
another plan i k last ok takes comes fit ne e o t m =
    let s = step plan i k true (ap not (ne_eqb k plan.origin ne)) in
    let g = greatest_more (plan.at ∷ map (λ j. ok_at plan j + delay_of plan j i) (filter (λ j. not (j == plan.origin)) (numbers_below k))) (ok_at plan k + delay_of plan k i) in
    let b = sum_small plan i k ok takes fit o t in
    omega (arith, s, g, e, o, t, m, b)

pub the_origin : (plan : Plan) (i k last : ℕ) → k ≡ plan.origin → last ≡ last_below plan i k → last ≡ last_below plan i (k + 1)
unfolding last_below
the_origin plan i k last q e =
    e ∙ sym (step plan i k false (ap not (eq-eqb k plan.origin q)) ∙ ap greatest (append-nil (plan.at ∷ map (λ j. ok_at plan j + delay_of plan j i) (filter (λ j. not (j == plan.origin)) (numbers_below k)))))

-- what is acknowledged when, in numbers of 64 bits
pub ok_is : (plan : Plan) (k takes ahead behind arrival' stamped' past left ok : ℕ) → FitsPlan plan → takes ≡ delay_of plan plan.origin k → ahead ≡ offset_of plan plan.origin → behind ≡ offset_of plan k →
    arrival' ≡ min (plan.at + takes) 18446744073709551615 → stamped' ≡ min (plan.at + ahead) 18446744073709551615 → past ≡ min (stamped' + 1) 18446744073709551615 → left ≡ past - behind →
    ok ≡ max arrival' left → ok ≡ ok_at plan k
unfolding ok_at arrival stamped reading
ok_is plan k takes ahead behind arrival' stamped' past left ok fit t a b m n o p q =
    let f = fit.at in
    let g = fit.offsets plan.origin in
    let h = fit.delays plan.origin k in
    omega (arith, t, a, b, m, n, o, p, q, f, g, h)

-- ---- rows

pub rows_none : (plan : Plan) (text : List ℕ) → text ≡ text ++ flat_map (row plan) (numbers_below 0)
unfolding numbers_below
rows_none plan text = sym (append-nil text)

pub rows_more : (plan : Plan) (i : ℕ) (text now : List ℕ) → now ≡ text ++ flat_map (row plan) (numbers_below i) → now ++ row plan i ≡ text ++ flat_map (row plan) (numbers_below (i + 1))
unfolding numbers_below
rows_more plan i text now e =
    ap (λ l. l ++ row plan i) e ∙ append_assoc text (flat_map (row plan) (range_with_len 0 i)) (row plan i)
    ∙ ap (λ l. text ++ (flat_map (row plan) (range_with_len 0 i) ++ l)) (sym (append-nil (row plan i)))
    ∙ ap (λ l. text ++ l) (sym (flat_map-append (row plan) (range_with_len 0 i) (i ∷ [])))
    ∙ ap (λ l. text ++ flat_map (row plan) l) (sym (one_more 0 i ∙ ap (λ n. range_with_len 0 i ++ n ∷ []) (omega arith)))
