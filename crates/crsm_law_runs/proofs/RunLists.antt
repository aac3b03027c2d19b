-- The longest of several lists, and properties of each element.
use Rattle.std.proofs.Common.{◌≡◌, ℕ, ◌≤◌, List, [], ◌∷◌, ◌++◌, length, refl, sym, ap, subst, inl, inr, Bool, true, false, cond, arith, length-append, append-nil, ◌∙◌}
use Rattle.std.specs.Prelude.{◌⊎◌, nat_lt, fold}
use Rattle.std.specs.List.{AllByRecursion}
use Rattle.std.proofs.lemmas.Bool.{ltb-true, ltb-false}
use Rattle.crsm_spec.specs.Types.{Entry}
use Rattle.crsm_spec.specs.Lists.{Among, IsPrefixOf}
use Rattle.crsm_spec.specs.Run.{longest}

pub each_of : {A : Type 0} (P : A → Type 0) (xs : List A) → AllByRecursion P xs → (x : A) → Among xs x → P x
each_of P [] h x a = absurd a
each_of P (y ∷ ys) h x (inl e) = subst P e h.0
each_of P (y ∷ ys) h x (inr a) = each_of P ys h.1 x a

pub of_each : {A : Type 0} (P : A → Type 0) (xs : List A) → ((x : A) → Among xs x → P x) → AllByRecursion P xs
of_each P [] h = tt
of_each P (y ∷ ys) h = (h y (inl refl), of_each P ys (λ x a. h x (inr a)))

-- the longer of two, the first among equals
abbrev longer : List Entry → List Entry → List Entry
longer best es = cond (nat_lt (length best) (length es)) es best

longest_is : (lists : List (List Entry)) → longest lists ≡ fold longer [] lists
unfolding longest
longest_is lists = refl

both_short : (best es : List Entry) → (length best ≤ length (longer best es)) × (length es ≤ length (longer best es))
both_short best es = go (nat_lt (length best) (length es)) refl
  where
    go : (c : Bool) → nat_lt (length best) (length es) ≡ c → (length best ≤ length (cond c es best)) × (length es ≤ length (cond c es best))
    go true h = let l = ltb-true (length best) (length es) h in (omega (arith, l), omega arith)
    go false h = let l = ltb-false (length best) (length es) h in (omega arith, omega (arith, l))

lengths : (lists : List (List Entry)) (best : List Entry) → (length best ≤ length (fold longer best lists)) × ((es : List Entry) → Among lists es → length es ≤ length (fold longer best lists))
lengths [] best = (omega arith, λ es a. absurd a)
lengths (fs ∷ lists) best =
    let t = lengths lists (longer best fs) in
    let b = both_short best fs in (
      up (length best) (length (longer best fs)) _ b.0 t.0,
      λ es a. elim a [ inl e ↦ subst (λ (z : List Entry). length z ≤ length (fold longer (longer best fs) lists)) e (up (length fs) (length (longer best fs)) _ b.1 t.0) | inr h ↦ t.1 es h ],
    )
  where
    up : (a b c : ℕ) → a ≤ b → b ≤ c → a ≤ c
    up a b c h k = omega (arith, h, k)

among_longest : (lists : List (List Entry)) (best : List Entry) → (fold longer best lists ≡ best) ⊎ Among lists (fold longer best lists)
among_longest [] best = inl refl
among_longest (fs ∷ lists) best = elim (among_longest lists (longer best fs)) [
  | inl e ↦ go (nat_lt (length best) (length fs)) e
  | inr a ↦ inr (inr a)
]
  where
    go : (c : Bool) → fold longer (longer best fs) lists ≡ cond c fs best → (fold longer (longer best fs) lists ≡ best) ⊎ Among (fs ∷ lists) (fold longer (longer best fs) lists)
    go true e = inr (inl (sym e))
    go false e = inl e

-- the longest is one of them, if there is one, and none is longer
pub longest_among : (lists : List (List Entry)) → (longest lists ≡ []) ⊎ Among lists (longest lists)
longest_among lists = subst (λ z. (z ≡ []) ⊎ Among lists z) (sym (longest_is lists)) (among_longest lists [])

pub none_longer : (lists : List (List Entry)) (es : List Entry) → Among lists es → length es ≤ length (longest lists)
none_longer lists es a = subst (λ z. length es ≤ length z) (sym (longest_is lists)) ((lengths lists []).1 es a)

-- of two lists of which one is a prefix of the other, the shorter is the prefix
pub shorter_prefix : (es fs : List Entry) → IsPrefixOf es fs ⊎ IsPrefixOf fs es → length es ≤ length fs → IsPrefixOf es fs
shorter_prefix es fs (inl p) le = p
shorter_prefix es fs (inr p) le = ([], same_list p.0 p.1)
  where
    same_list : (rest : List Entry) → fs ++ rest ≡ es → es ++ [] ≡ fs
    same_list [] e = append-nil es ∙ sym (sym (append-nil fs) ∙ e)
    same_list (x ∷ rest) e = let a = length-append fs (x ∷ rest) in let b = ap length e in absurd (omega (arith, a, b, le))

pub empty_prefix : (es : List Entry) → length es ≤ 0 → IsPrefixOf es []
empty_prefix [] le = ([], refl)
empty_prefix (x ∷ es) le = absurd (omega (arith, le))
