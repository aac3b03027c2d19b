-- A bounded number of events happen: each has a number of its own.
use Rattle.std.proofs.Common.{◌≡◌, ◌≢◌, ℕ, zero, suc, ◌+◌, ◌<◌, ◌≤◌, List, [], ◌∷◌, ◌++◌, length, refl, sym, ◌∙◌, ap, subst, inl, inr, cond, arith, map}
use Rattle.std.specs.Prelude.{◌⊎◌, filter, not, ◌==◌}
use Rattle.std.proofs.lemmas.Bool.{cases_eq, eq-eqb, ne_eqb}
use Rattle.std.proofs.lemmas.List.{length-map}
use Rattle.crsm_spec.specs.Lists.{Among}
use Rattle.crsm_fact_log.proofs.Lists.{among_either}
use Rattle.crsm_spec_plan.specs.declared.Plan.{Plan}
use Rattle.crsm_spec_plan.specs.Plans.{FitsPlan}
use Rattle.crsm_spec_plan.specs.Timelines.{Timed, sent, IsDue, IsTimeline}
use Rattle.crsm_law_timing.specs.SoFar.{IsSoFar, EventsEndWhole}
use Rattle.crsm_law_timing.proofs.Behind.{due_later}
use Rattle.crsm_law_timing.proofs.SoFar.{reached}
use Rattle.crsm_law_pending.specs.Agendas.{IsAgenda, number_of}
use Rattle.crsm_law_pending.specs.Following.{AgendasEnd}
use Rattle.crsm_law_pending.proofs.Numbers.{due_below, one_number}

-- ---- different numbers below a bound

abbrev AreApart : List ℕ → Type 0
AreApart [] = Unit {0}
AreApart (x ∷ xs) = (Among xs x → ⊥) × AreApart xs

without : ℕ → List ℕ → List ℕ
without n xs = filter (λ x. not (x == n)) xs

-- where it stands at the head
module _ (n x : ℕ) (xs : List ℕ) where
  keeps : x ≢ n → without n (x ∷ xs) ≡ x ∷ without n xs
  unfolding without
  keeps ne = ap (λ b. cond (not b) (x ∷ filter (λ x. not (x == n)) xs) (filter (λ x. not (x == n)) xs)) (ne_eqb x n ne)

  drops : x ≡ n → without n (x ∷ xs) ≡ without n xs
  unfolding without
  drops q = ap (λ b. cond (not b) (x ∷ filter (λ x. not (x == n)) xs) (filter (λ x. not (x == n)) xs)) (eq-eqb x n q)

without_from : (n : ℕ) (xs : List ℕ) (y : ℕ) → Among (without n xs) y → Among xs y × (y ≢ n)
unfolding without
without_from n [] y a = absurd a
without_from n (x ∷ xs) y a = elim (cases_eq x n) [
  | inl q ↦ (let b = without_from n xs y (subst (λ l. Among l y) (drops n x xs q) a) in (inr b.0, b.1))
  | inr ne ↦ kept ne (without_from n xs y) (subst (λ l. Among l y) (keeps n x xs ne) a)
]
  where
    kept : x ≢ n → (Among (without n xs) y → Among xs y × (y ≢ n)) → Among (x ∷ without n xs) y → Among (x ∷ xs) y × (y ≢ n)
    kept ne rest (inl q) = (inl q, λ e. ne (q ∙ e))
    kept ne rest (inr b) = let c = rest b in (inr c.0, c.1)

without_apart : (n : ℕ) (xs : List ℕ) → AreApart xs → AreApart (without n xs)
unfolding without
without_apart n [] h = tt
without_apart n (x ∷ xs) h = elim (cases_eq x n) [
  | inl q ↦ subst AreApart (sym (drops n x xs q)) (without_apart n xs h.1)
  | inr ne ↦ subst AreApart (sym (keeps n x xs ne)) (λ a. h.0 (without_from n xs x a).0, without_apart n xs h.1)
]

-- it is all where the number is not there
without_none : (n : ℕ) (xs : List ℕ) → (Among xs n → ⊥) → length (without n xs) ≡ length xs
unfolding without
without_none n [] h = refl
without_none n (x ∷ xs) h = ap length (keeps n x xs (λ q. h (inl q))) ∙ ap suc (without_none n xs (λ a. h (inr a)))

one_less : (n : ℕ) (xs : List ℕ) → AreApart xs → length xs ≤ length (without n xs) + 1
unfolding without
one_less n [] h = omega arith
one_less n (x ∷ xs) h = elim (cases_eq x n) [
  | inl q ↦ (let a = ap length (drops n x xs q) in let b = without_none n xs (λ c. h.0 (subst (Among xs) (sym q) c)) in omega (arith, a, b))
  | inr ne ↦ (let a = ap length (keeps n x xs ne) in let b = one_less n xs h.1 in omega (arith, a, b))
]

few_below : (n : ℕ) (xs : List ℕ) → AreApart xs → ((x : ℕ) → Among xs x → x < n) → length xs ≤ n
few_below zero [] h below = omega arith
few_below zero (x ∷ xs) h below = absurd (let b = below x (inl refl) in omega (arith, b))
few_below (suc n) xs h below =
    let a = few_below n (without n xs) (without_apart n xs h) (λ x b. let c = without_from n xs x b in let d = below x c.0 in let e = c.1 in less x d e) in
    let b = one_less n xs h in
    omega (arith, a, b)
  where
    less : (x : ℕ) → x < suc n → x ≢ n → x < n
    less x lt ne = grind (arith, lt, ne)

-- ---- the numbers of events

numbers : List Timed → List ℕ
numbers es = map (λ (f : Timed). number_of f.does) es

due_all : (plan : Plan) (es : List Timed) → IsSoFar plan es → (f : Timed) → Among es f → IsDue plan es f
due_all plan es IsSoFar.nothing f a = absurd a
due_all plan es (IsSoFar.more {es = before} e so next) f a = due_later plan before (e ∷ []) f (elim (among_either before (e ∷ []) f a) [
  | inl b ↦ due_all plan before so f b
  | inr (inl q) ↦ subst (IsDue plan before) q next.due
  | inr (inr b) ↦ absurd b
])

numbered : (es : List Timed) (n : ℕ) → Among (numbers es) n → (f : Timed) × Among es f × (number_of f.does ≡ n)
unfolding numbers
numbered [] n a = absurd a
numbered (e ∷ es) n (inl q) = (e, inl refl, q)
numbered (e ∷ es) n (inr a) = let t = numbered es n a in (t.0, inr t.1, t.2)

apart_more : (es : List Timed) (e : Timed) → AreApart (numbers es) → (Among (numbers es) (number_of e.does) → ⊥) → AreApart (numbers (es ++ e ∷ []))
unfolding numbers
apart_more [] e h none = (λ a. a, tt)
apart_more (f ∷ fs) e h none = (λ a. elim (more fs (number_of f.does) a) [ inl b ↦ h.0 b | inr q ↦ none (inl q) ], apart_more fs e h.1 (λ a. none (inr a)))
  where
    more : (fs : List Timed) (n : ℕ) → Among (numbers (fs ++ e ∷ [])) n → Among (numbers fs) n ⊎ (n ≡ number_of e.does)
    more [] n (inl q) = inr (sym q)
    more [] n (inr a) = absurd a
    more (g ∷ gs) n (inl q) = inl (inl q)
    more (g ∷ gs) n (inr a) = elim (more gs n a) [ inl b ↦ inl (inr b) | inr q ↦ inr q ]

numbers_apart : (plan : Plan) (es : List Timed) → FitsPlan plan → IsSoFar plan es → AreApart (numbers es)
unfolding numbers
numbers_apart plan es fit IsSoFar.nothing = tt
numbers_apart plan es fit (IsSoFar.more {es = before} e so next) = apart_more before e (numbers_apart plan before fit so) none
  where
    none : Among (numbers before) (number_of e.does) → ⊥
    none a =
        let t = numbered before (number_of e.does) a in
        next.not_yet (subst (Among before) (one_number plan before t.0 e fit (due_all plan before so t.0 t.1) next.due t.2) t.1)

few : (plan : Plan) (es : List Timed) → FitsPlan plan → IsSoFar plan es → length es ≤ 200016
unfolding numbers
few plan es fit so =
    let stands = reached plan es fit so in
    let w = stands.weight in
    let p = stands.few in
    let s = stands.size in
    let n = few_below (16 + length (sent plan es)) (numbers es) (numbers_apart plan es fit so) (λ n a. below n a) in
    let l = length-map es (λ (f : Timed). number_of f.does) in
    omega (arith, w, p, s, n, l)
  where
    below : (n : ℕ) → Among (numbers es) n → n < 16 + length (sent plan es)
    below n a = let t = numbered es n a in let d = due_below plan es t.0 fit (due_all plan es so t.0 t.1) in let q = t.2 in omega (arith, d, q)

module _ (law : EventsEndWhole) where
  ends : (plan : Plan) (es : List Timed) → FitsPlan plan → IsSoFar plan es → IsAgenda plan es [] → IsTimeline plan es
  ends plan es fit so h = law.whole plan es fit so (λ e d. elim (h.all e d (due_below plan es e fit d)) [ inl a ↦ a | inr a ↦ absurd a ])

  pub agendas_end : AgendasEnd
  agendas_end = record { ends = ends; few = few }
