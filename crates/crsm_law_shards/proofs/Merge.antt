-- Each entry of a list has a point: the latest time at which it or one before it was asked for. Lists are merged by
-- these points, and entries with one point keep their order.
use Rattle.std.proofs.Common.{◌≡◌, ℕ, ◌<◌, ◌≤◌, leb, Bool, true, false, cond, List, [], ◌∷◌, map, refl, sym, ◌∙◌, ap, inl, inr, arith}
use Rattle.std.specs.Prelude.{filter, max, Some}
use Rattle.std.specs.List.{AllByRecursion}
use Rattle.std.proofs.lemmas.Bool.{cases_lt, leb-true, leb-false}
use Rattle.crsm_fact_log.proofs.Lists.{all_more}
use Rattle.crsm_law_shards.specs.Served.{Answered, Precedes, Served}
use Rattle.crsm_law_shards.proofs.Timely.{IsTimely}

-- an entry behind its point
abbrev pub Timed : Type 0
Timed = ℕ × Served

abbrev pub from_point : ℕ → List Served → List Timed
from_point t [] = []
from_point t (x ∷ xs) = (max t x.asked, x) ∷ from_point (max t x.asked) xs

-- before the first with its point or a later one
abbrev pub insert : Timed → List Timed → List Timed
insert z [] = z ∷ []
insert z (y ∷ ys) = cond (leb z.0 y.0) (z ∷ y ∷ ys) (y ∷ insert z ys)

abbrev pub in_order : List Timed → List Timed
in_order [] = []
in_order (z ∷ zs) = insert z (in_order zs)

-- ---- points ascend

abbrev pub AreFrom : ℕ → List Timed → Type 0
AreFrom t zs = AllByRecursion (λ y. t ≤ y.0) zs

abbrev pub Ascend : List Timed → Type 0
Ascend [] = Unit {0}
Ascend (z ∷ zs) = AreFrom z.0 zs × Ascend zs

later : (t u : ℕ) (zs : List Timed) → t ≤ u → AreFrom u zs → AreFrom t zs
later t u zs le h = all_more (λ y. u ≤ y.0) (λ y. t ≤ y.0) (λ y f. omega (arith, le, f)) zs h

pub all_inserted : (P : Timed → Type 0) (z : Timed) (ys : List Timed) → P z → AllByRecursion P ys → AllByRecursion P (insert z ys)
all_inserted P z [] here all = (here, tt)
all_inserted P z (y ∷ ys) here all = go (leb z.0 y.0) (all_inserted P z ys here all.1)
  where
    go : (b : Bool) → AllByRecursion P (insert z ys) → AllByRecursion P (cond b (z ∷ y ∷ ys) (y ∷ insert z ys))
    go true rest = (here, all)
    go false rest = (all.0, rest)

pub all_in_order : (P : Timed → Type 0) (zs : List Timed) → AllByRecursion P zs → AllByRecursion P (in_order zs)
all_in_order P [] all = tt
all_in_order P (z ∷ zs) all = all_inserted P z (in_order zs) all.0 (all_in_order P zs all.1)

inserted : (z : Timed) (ys : List Timed) → Ascend ys → Ascend (insert z ys)
inserted z [] h = (tt, tt)
inserted z (y ∷ ys) h = go (leb z.0 y.0) refl (inserted z ys h.1)
  where
    go : (b : Bool) → leb z.0 y.0 ≡ b → Ascend (insert z ys) → Ascend (cond b (z ∷ y ∷ ys) (y ∷ insert z ys))
    go true e rest = let le = leb-true z.0 y.0 e in ((le, later z.0 y.0 ys le h.0), h)
    go false e rest = let gt = leb-false z.0 y.0 e in (all_inserted (λ w. y.0 ≤ w.0) z ys (omega (arith, gt)) h.0, rest)

pub ordered : (zs : List Timed) → Ascend (in_order zs)
ordered [] = tt
ordered (z ∷ zs) = inserted z (in_order zs) (ordered zs)

-- ---- what is in order stays

first_there : (z : Timed) (ys : List Timed) → AreFrom z.0 ys → insert z ys ≡ z ∷ ys
first_there z [] h = refl
first_there z (y ∷ ys) h = ap (λ b. cond b (z ∷ y ∷ ys) (y ∷ insert z ys)) (leb-is z.0 y.0 h.0)
  where
    leb-is : (a b : ℕ) → a ≤ b → leb a b ≡ true
    leb-is a b le = go (leb a b) refl
      where
        go : (c : Bool) → leb a b ≡ c → leb a b ≡ true
        go true e = e
        go false e = absurd (let gt = leb-false a b e in omega (arith, gt, le))

in_order_is : (zs : List Timed) → Ascend zs → in_order zs ≡ zs
in_order_is [] h = refl
in_order_is (z ∷ zs) h = ap (insert z) (in_order_is zs h.1) ∙ first_there z zs h.0

-- ---- those that pass a test

module _ (p : Timed → Bool) where
  all_kept : (P : Timed → Type 0) (zs : List Timed) → AllByRecursion P zs → AllByRecursion P (filter p zs)
  all_kept P [] all = tt
  all_kept P (z ∷ zs) all = go (p z) (all_kept P zs all.1)
    where
      go : (b : Bool) → AllByRecursion P (filter p zs) → AllByRecursion P (cond b (z ∷ filter p zs) (filter p zs))
      go true rest = (all.0, rest)
      go false rest = rest

  insert_kept : (z : Timed) (ys : List Timed) → Ascend ys → p z ≡ true → filter p (insert z ys) ≡ insert z (filter p ys)
  insert_kept z [] h e = ap (λ b. cond b (z ∷ []) []) e
  insert_kept z (y ∷ ys) h e = go (leb z.0 y.0) (p y) refl refl (insert_kept z ys h.1 e)
    where
      go : (b c : Bool) → leb z.0 y.0 ≡ b → p y ≡ c → filter p (insert z ys) ≡ insert z (filter p ys) → filter p (cond b (z ∷ y ∷ ys) (y ∷ insert z ys)) ≡ insert z (filter p (y ∷ ys))
      go true c le is rest =
          let from : AreFrom z.0 (y ∷ ys) = (leb-true z.0 y.0 le, later z.0 y.0 ys (leb-true z.0 y.0 le) h.0) in
          ap (λ b. cond b (z ∷ filter p (y ∷ ys)) (filter p (y ∷ ys))) e ∙ sym (first_there z (filter p (y ∷ ys)) (all_kept (λ w. z.0 ≤ w.0) (y ∷ ys) from))
      go false true gt is rest =
          ap (λ b. cond b (y ∷ filter p (insert z ys)) (filter p (insert z ys))) is
          ∙ ap (λ l. y ∷ l) rest
          ∙ sym (ap (λ b. cond b (z ∷ y ∷ filter p ys) (y ∷ insert z (filter p ys))) gt)
          ∙ sym (ap (λ b. insert z (cond b (y ∷ filter p ys) (filter p ys))) is)
      go false false gt is rest =
          ap (λ b. cond b (y ∷ filter p (insert z ys)) (filter p (insert z ys))) is
          ∙ rest
          ∙ sym (ap (λ b. insert z (cond b (y ∷ filter p ys) (filter p ys))) is)

  insert_dropped : (z : Timed) (ys : List Timed) → p z ≡ false → filter p (insert z ys) ≡ filter p ys
  insert_dropped z [] e = ap (λ b. cond b (z ∷ []) []) e
  insert_dropped z (y ∷ ys) e = go (leb z.0 y.0) (insert_dropped z ys e)
    where
      go : (b : Bool) → filter p (insert z ys) ≡ filter p ys → filter p (cond b (z ∷ y ∷ ys) (y ∷ insert z ys)) ≡ filter p (y ∷ ys)
      go true rest = ap (λ b. cond b (z ∷ filter p (y ∷ ys)) (filter p (y ∷ ys))) e
      go false rest = ap (λ l. cond (p y) (y ∷ l) l) rest

  pub kept_in_order : (zs : List Timed) → filter p (in_order zs) ≡ in_order (filter p zs)
  kept_in_order [] = refl
  kept_in_order (z ∷ zs) = go (p z) refl (kept_in_order zs)
    where
      go : (b : Bool) → p z ≡ b → filter p (in_order zs) ≡ in_order (filter p zs) → filter p (insert z (in_order zs)) ≡ in_order (cond b (z ∷ filter p zs) (filter p zs))
      go true e rest = insert_kept z (in_order zs) (ordered zs) e ∙ ap (insert z) rest
      go false e rest = insert_dropped z (in_order zs) e ∙ rest

-- ---- points

from_ascend : (t : ℕ) (xs : List Served) → AreFrom t (from_point t xs) × Ascend (from_point t xs)
from_ascend t [] = (tt, tt)
from_ascend t (x ∷ xs) =
    let rest = from_ascend (max t x.asked) xs in
    ((omega arith, later t (max t x.asked) (from_point (max t x.asked) xs) (omega arith) rest.0), (rest.0, rest.1))

pub points_stay : (t : ℕ) (xs : List Served) → in_order (from_point t xs) ≡ from_point t xs
points_stay t xs = in_order_is (from_point t xs) (from_ascend t xs).1

pub without_points : (t : ℕ) (xs : List Served) → map (λ (z : Timed). z.1) (from_point t xs) ≡ xs
without_points t [] = refl
without_points t (x ∷ xs) = ap (λ l. x ∷ l) (without_points (max t x.asked) xs)

-- a point is within the time of the command: it was asked for by then, and its answer was had no sooner
pub record IsWithin (z : Timed) : Type 0 where
  pub asked : z.1.asked ≤ z.0
  pub had : (a : Answered) → z.1.answered ≡ Some a → z.0 ≤ a.had

abbrev HadFrom : ℕ → Served → Type 0
HadFrom t x = (a : Answered) → x.answered ≡ Some a → t ≤ a.had

pub points_within : (t : ℕ) (xs : List Served) → AllByRecursion (HadFrom t) xs → IsTimely xs → AllByRecursion IsWithin (from_point t xs)
points_within t [] from h = tt
points_within t (x ∷ xs) from h = (
  record { asked = omega arith; had = had_here },
  points_within (max t x.asked) xs (both xs from.1 h.1) h.2,
)
  where
    not_before : (a : Answered) → (a.had < x.asked → ⊥) → t ≤ a.had → max t x.asked ≤ a.had
    not_before a never le = elim (cases_lt a.had x.asked) [ inl lt ↦ absurd (never lt) | inr ge ↦ omega (arith, ge, le) ]

    had_here : (a : Answered) → x.answered ≡ Some a → max t x.asked ≤ a.had
    had_here a e = not_before a (λ lt. h.0 (a, e, lt)) (from.0 a e)

    both : (ys : List Served) → AllByRecursion (HadFrom t) ys → AllByRecursion (λ y. Precedes y x → ⊥) ys → AllByRecursion (HadFrom (max t x.asked)) ys
    both [] f g = tt
    both (y ∷ ys) f g = (λ a e. not_before a (λ lt. g.0 (a, e, lt)) (f.0 a e), both ys f.1 g.1)

-- ---- lists in order of their points are in real time

pub in_real_time : (zs : List Timed) → Ascend zs → AllByRecursion IsWithin zs → IsTimely (map (λ (z : Timed). z.1) zs)
in_real_time [] h w = tt
in_real_time (z ∷ zs) h w = (
  λ p. (let b = w.0.had p.0 p.1 in let a = w.0.asked in let lt = p.2 in absurd (omega (arith, a, b, lt))),
  behind zs h.0 w.1,
  in_real_time zs h.1 w.1,
)
  where
    behind : (ys : List Timed) → AreFrom z.0 ys → AllByRecursion IsWithin ys → AllByRecursion (λ y. Precedes y z.1 → ⊥) (map (λ (z : Timed). z.1) ys)
    behind [] f g = tt
    behind (y ∷ ys) f g = (
      λ p. (let b = g.0.had p.0 p.1 in let a = w.0.asked in let lt = p.2 in let le = f.0 in absurd (omega (arith, a, b, lt, le))),
      behind ys f.1 g.1,
    )
