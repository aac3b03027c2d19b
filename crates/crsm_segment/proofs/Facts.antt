-- Parts with one index each, and what they have at an index.
use Rattle.std.proofs.Common.{◌≡◌, ◌≢◌, ℕ, zero, suc, Bool, true, false, cond, ◌&&◌, ◌||◌, ◌==◌, List, [], ◌∷◌, ◌++◌, filter, arith, refl, sym, subst, ap, ◌∙◌, Option, Some, None, is_some, unwrap_or, append-nil}
use Rattle.std.specs.List.{Contains, list_any, list_all, flat_map}
use Rattle.std.proofs.lemmas.Bool.Decides.{nat_tests}
use Rattle.std.proofs.lemmas.List.Elements.{Contains-append_right, filter-append}
use Rattle.std.proofs.lemmas.List.Folds.{list_any_at, list_any-append}
use Rattle.crsm_spec.specs.Parts.{Piece, has_index}
use Rattle.crsm_segment.specs.Gather.{bytes_at, AreOnce}

-- ---- tests on lists

pub any_true : {X : Type 0} (f : X → Bool) (xs : List X) (x : X) → Contains xs x → f x ≡ true → list_any f xs ≡ true
any_true f xs x c e = list_any_at f xs c.0 x c.1 (ap f c.2 ∙ e)

pub both_false : (a b : Bool) → a ≡ false → b ≡ false → (a || b) ≡ false
both_false true b e h = e
both_false false b e h = h

pub any_false : {X : Type 0} (f : X → Bool) (xs : List X) → ((x : X) → Contains xs x → f x ≡ false) → list_any f xs ≡ false
any_false f [] h = refl
any_false f (x ∷ xs) h =
    both_false (f x) (list_any f xs) (h x (0, omega arith, refl)) (any_false f xs (λ y c. h y (Contains-append_right (x ∷ []) xs y c)))

both_true : (a b : Bool) → a ≡ true → b ≡ true → (a && b) ≡ true
both_true true b e h = h
both_true false b e h = e

pub all_true : {X : Type 0} (f : X → Bool) (xs : List X) → ((x : X) → Contains xs x → f x ≡ true) → list_all f xs ≡ true
all_true f [] h = refl
all_true f (x ∷ xs) h =
    both_true (f x) (list_all f xs) (h x (0, omega arith, refl)) (all_true f xs (λ y c. h y (Contains-append_right (x ∷ []) xs y c)))

pub all_equal : {X : Type 0} (f : X → Bool) (b : Bool) (xs : List X) (x : X) → Contains xs x → ((y : X) → Contains xs y → f y ≡ b) → list_all f xs ≡ b
all_equal f true xs x c h = all_true f xs h
all_equal f false [] x c h = absurd (let n = c.1 in omega arith)
all_equal f false (y ∷ ys) x c h = rw (h y (0, omega arith, refl)) refl

-- ---- elements that pass a test

pub filter_none : {X : Type 0} (f : X → Bool) (xs : List X) → ((x : X) → Contains xs x → f x ≡ false) → filter f xs ≡ []
filter_none f [] h = refl
filter_none f (x ∷ xs) h =
    ap (λ b. cond b (x ∷ filter f xs) (filter f xs)) (h x (0, omega arith, refl)) ∙ filter_none f xs (λ y c. h y (Contains-append_right (x ∷ []) xs y c))

pub filter_push : {X : Type 0} (f : X → Bool) (xs : List X) (x : X) → f x ≡ true → filter f (xs ++ x ∷ []) ≡ filter f xs ++ x ∷ []
filter_push f xs x e = filter-append f xs (x ∷ []) ∙ ap (λ b. filter f xs ++ cond b (x ∷ []) []) e

pub filter_push_other : {X : Type 0} (f : X → Bool) (xs : List X) (x : X) → f x ≡ false → filter f (xs ++ x ∷ []) ≡ filter f xs
filter_push_other f xs x e = filter-append f xs (x ∷ []) ∙ ap (λ b. filter f xs ++ cond b (x ∷ []) []) e ∙ append-nil (filter f xs)

-- what passes is an element
pub in_filter : {X : Type 0} (f : X → Bool) (xs : List X) (x : X) → Contains (filter f xs) x → Contains xs x × (f x ≡ true)
in_filter f [] x c = absurd (let n = c.1 in omega arith)
in_filter f (y ∷ ys) x c = go (f y) refl c (λ d. in_filter f ys x d)
  where
    go : (b : Bool) → f y ≡ b → Contains (cond b (y ∷ filter f ys) (filter f ys)) x → (Contains (filter f ys) x → Contains ys x × (f x ≡ true)) →
        Contains (y ∷ ys) x × (f x ≡ true)
    go true e (zero, n, is) rest = (subst (λ z. Contains (y ∷ ys) z) is (0, omega arith, refl), ap f (sym is) ∙ e)
    go true e (suc i, n, is) rest = let (c, k) = rest (i, omega arith, is) in (Contains-append_right (y ∷ []) ys x c, k)
    go false e d rest = let (c, k) = rest d in (Contains-append_right (y ∷ []) ys x c, k)

pub to_filter : {X : Type 0} (f : X → Bool) (xs : List X) (x : X) → Contains xs x → f x ≡ true → Contains (filter f xs) x
to_filter f [] x c e = absurd (let n = c.1 in omega arith)
to_filter f (y ∷ ys) x (zero, n, is) e =
    let here : f y ≡ true = ap f is ∙ e in
    subst (λ b. Contains (cond b (y ∷ filter f ys) (filter f ys)) x) (sym here) (subst (λ z. Contains (y ∷ filter f ys) z) is (0, omega arith, refl))
to_filter f (y ∷ ys) x (suc i, n, is) e = go (f y) (to_filter f ys x (i, omega arith, is) e)
  where
    go : (b : Bool) → Contains (filter f ys) x → Contains (cond b (y ∷ filter f ys) (filter f ys)) x
    go true rest = Contains-append_right (y ∷ []) (filter f ys) x rest
    go false rest = rest

-- ---- what stands at an index

pub some_at : (kept : List Piece) (i : ℕ) → is_some (bytes_at kept i) ≡ has_index kept i
unfolding has_index
some_at [] i = refl
some_at (q ∷ qs) i = go (q.index == i) (some_at qs i)
  where
    go : (b : Bool) → is_some (bytes_at qs i) ≡ list_any (λ p. p.index == i) qs →
        is_some (cond b (Some q.bytes) (bytes_at qs i)) ≡ (b || list_any (λ p. p.index == i) qs)
    go true rest = refl
    go false rest = rest

none_of : (o : Option (List ℕ)) → is_some o ≡ false → o ≡ None
none_of None e = refl
none_of (Some x) e = cc

pub no_bytes_at : (kept : List Piece) (i : ℕ) → has_index kept i ≡ false → bytes_at kept i ≡ None
no_bytes_at kept i e = none_of (bytes_at kept i) (some_at kept i ∙ e)

-- one part more stands at its own index, where none stood, and changes no other
pub bytes_at_push : (kept : List Piece) (p : Piece) → has_index kept p.index ≡ false → bytes_at (kept ++ p ∷ []) p.index ≡ Some p.bytes
unfolding has_index
bytes_at_push [] p none =
    let same : (p.index == p.index) ≡ true = grind (arith, nat_tests) in
    ap (λ b. cond b (Some p.bytes) None) same
bytes_at_push (q ∷ qs) p none = go (q.index == p.index) none (λ e. bytes_at_push qs p e)
  where
    go : (b : Bool) → (b || list_any (λ r. r.index == p.index) qs) ≡ false →
        (list_any (λ r. r.index == p.index) qs ≡ false → bytes_at (qs ++ p ∷ []) p.index ≡ Some p.bytes) →
        cond b (Some q.bytes) (bytes_at (qs ++ p ∷ []) p.index) ≡ Some p.bytes
    go true e rest = cc
    go false e rest = rest e

pub bytes_at_other : (kept : List Piece) (p : Piece) (i : ℕ) → i ≢ p.index → bytes_at (kept ++ p ∷ []) i ≡ bytes_at kept i
bytes_at_other [] p i other =
    let apart : (p.index == i) ≡ false = grind (arith, nat_tests) in
    ap (λ b. cond b (Some p.bytes) None) apart
bytes_at_other (q ∷ qs) p i other = ap (λ o. cond (q.index == i) (Some q.bytes) o) (bytes_at_other qs p i other)

-- ---- one part an index

once_head : (qs : List Piece) (p q : Piece) → has_index qs q.index ≡ false → (q.index == p.index) ≡ false → has_index (qs ++ p ∷ []) q.index ≡ false
unfolding has_index
once_head qs p q none apart =
    list_any-append (λ r. r.index == q.index) qs (p ∷ [])
    ∙ both_false (list_any (λ r. r.index == q.index) qs) (list_any (λ r. r.index == q.index) (p ∷ [])) none
    (let flipped : (p.index == q.index) ≡ false = grind (arith, nat_tests) in both_false (p.index == q.index) false flipped refl)

pub either_false : (x y : Bool) → (x || y) ≡ false → (x ≡ false) × (y ≡ false)
either_false true y e = absurd (no e)
  where
    no : true ≡ false → ⊥
    no e = cc
either_false false y e = (refl, e)

pub once_push : (kept : List Piece) (p : Piece) → AreOnce kept → has_index kept p.index ≡ false → AreOnce (kept ++ p ∷ [])
unfolding has_index
once_push [] p once none = (refl, tt)
once_push (q ∷ qs) p once none =
    let (apart, rest) = either_false (q.index == p.index) (list_any (λ r. r.index == p.index) qs) none in
    (once_head qs p q once.0 apart, once_push qs p once.1 rest)

none_at : (qs : List Piece) (i : ℕ) → has_index qs i ≡ false → flat_map (λ q. cond (q.index == i) q.bytes []) qs ≡ []
unfolding has_index
none_at [] i none = refl
none_at (q ∷ qs) i none =
    let (apart, rest) = either_false (q.index == i) (list_any (λ r. r.index == i) qs) none in
    ap (λ b. cond b q.bytes [] ++ flat_map (λ q. cond (q.index == i) q.bytes []) qs) apart ∙ none_at qs i rest

same_index : (qs : List Piece) (i j : ℕ) → (i == j) ≡ true → has_index qs i ≡ false → has_index qs j ≡ false
same_index qs i j e none = let is : i ≡ j = grind (arith, nat_tests) in subst (λ k. has_index qs k ≡ false) is none

-- where each index has one part, the bytes of all parts at an index are those of the one
pub bytes_once : (kept : List Piece) (i : ℕ) → AreOnce kept → flat_map (λ q. cond (q.index == i) q.bytes []) kept ≡ unwrap_or (bytes_at kept i) []
bytes_once [] i once = refl
bytes_once (q ∷ qs) i once = go (q.index == i) refl (bytes_once qs i once.1)
  where
    go : (b : Bool) → (q.index == i) ≡ b → flat_map (λ q. cond (q.index == i) q.bytes []) qs ≡ unwrap_or (bytes_at qs i) [] →
        cond b q.bytes [] ++ flat_map (λ q. cond (q.index == i) q.bytes []) qs ≡ unwrap_or (cond b (Some q.bytes) (bytes_at qs i)) []
    go true e rest = ap (λ z. q.bytes ++ z) (none_at qs i (same_index qs q.index i e once.0)) ∙ append-nil q.bytes
    go false e rest = rest
