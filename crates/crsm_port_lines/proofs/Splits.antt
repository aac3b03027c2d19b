-- A text splits into lines in one way.
use Rattle.std.proofs.Common.{◌≡◌, ◌≤◌, ◌⊎◌, inl, inr, List, [], ◌∷◌, ◌++◌, Option, Some, None, length, refl, ap, sym, ◌∙◌, arith, append_assoc}
use Rattle.std.specs.List.{AllByRecursion}
use Rattle.crsm_text.specs.Words.{Lacks}
use Rattle.crsm_text.proofs.WordsLemmas.{split_unique, lacks_not}
use Rattle.crsm_io.specs.Streams.{Takes}
use Rattle.crsm_port_lines.specs.Handling.{Text}
use Rattle.crsm_port_lines.specs.State.{IsLine, ended, read_text}

heads_same : {A : Type 0} (x y : A) (xs ys : List A) → x ∷ xs ≡ y ∷ ys → x ≡ y
heads_same x y xs ys e = cc

tails_same : {A : Type 0} (x y : A) (xs ys : List A) → x ∷ xs ≡ y ∷ ys → xs ≡ ys
tails_same x y xs ys e = cc

some_same : {A : Type 0} (x y : A) → Some x ≡ Some y → x ≡ y
some_same x y e = cc

none_not_some : {A : Type 0} (x : A) → None ≡ Some x → ⊥
none_not_some x e = cc

-- the first line before all that follows
pub first_line : (l : Text) (ls : List Text) (x : Text) → read_text (l ∷ ls) ++ x ≡ l ++ 10 ∷ (read_text ls ++ x)
first_line l ls x = append_assoc (ended l) (read_text ls) x ∙ append_assoc l (10 ∷ []) (read_text ls ++ x)

-- of two ways to cut a text into lines, one goes on where the other ends
pub record GoesOn (ls ms : List Text) (x y : Text) : Type 0 where
  pub more : List Text
  pub lines : ls ≡ ms ++ more
  pub rest : y ≡ read_text more ++ x

pub split_lines : (ls ms : List Text) (x y : Text) → AllByRecursion IsLine ls → AllByRecursion IsLine ms → read_text ls ++ x ≡ read_text ms ++ y
    → GoesOn ls ms x y ⊎ GoesOn ms ls y x
split_lines [] ms x y p q e = inr (record { more = ms; lines = refl; rest = e })
split_lines (l ∷ ls) [] x y p q e = inl (record { more = l ∷ ls; lines = refl; rest = sym e })
split_lines (l ∷ ls) (m ∷ ms) x y p q e =
    let cut = split_unique 10 l m (read_text ls ++ x) (read_text ms ++ y) p.0.lacks q.0.lacks (sym (first_line l ls x) ∙ e ∙ first_line m ms y) in
    let heads : l ≡ m = cut.0 in
    elim (split_lines ls ms x y p.1 q.1 cut.1) [
      | inl r ↦ inl (record { more = r.more; lines = ap (λ x. x ∷ ls) heads ∙ ap (λ xs. m ∷ xs) r.lines; rest = r.rest })
      | inr r ↦ inr (record { more = r.more; lines = ap (λ x. x ∷ ms) (sym heads) ∙ ap (λ xs. l ∷ xs) r.lines; rest = r.rest })
    ]

-- lines that a text begins with are lines
pub more_lines : (ms more : List Text) → AllByRecursion IsLine (ms ++ more) → AllByRecursion IsLine more
more_lines [] more p = p
more_lines (m ∷ ms) more p = more_lines ms more p.1

-- a prefix without the element ends before it
pub prefix_short : (line k z more : Text) → Lacks 10 line → line ++ z ≡ k ++ 10 ∷ more → length line ≤ length k
prefix_short [] k z more p e = omega arith
prefix_short (a ∷ line) [] z more p e = absurd (p.0 (heads_same a 10 (line ++ z) more e))
prefix_short (a ∷ line) (b ∷ k) z more p e = let tails = tails_same a b (line ++ z) (k ++ 10 ∷ more) e in let h = prefix_short line k z more p.1 tails in omega (arith, h)

-- a line that begins a text, before what follows the text
pub line_first : (line rest r text : Text) → text ≡ line ++ 10 ∷ rest → text ++ r ≡ line ++ 10 ∷ (rest ++ r)
line_first line rest r text is = ap (λ z. z ++ r) is ∙ append_assoc line (10 ∷ rest) r

pub prefix_first : (line rest r text : Text) → text ≡ line ++ rest → text ++ r ≡ line ++ (rest ++ r)
prefix_first line rest r text is = ap (λ z. z ++ r) is ∙ append_assoc line rest r

-- what was taken of a text that was told
pub told : (text taken : Text) (after : Option Text) → Takes (Some text) after taken → (r : Text) × (after ≡ Some r) × (text ≡ taken ++ r)
told text taken None e = absurd (none_not_some text (sym e))
told text taken (Some r) e = (r, refl, some_same text (taken ++ r) e)

pub both_nil : (x y : Text) → [] ≡ x ++ y → x ≡ []
both_nil [] y e = refl
both_nil (a ∷ x) y e = let none : [] ≡ a ∷ (x ++ y) = e in absurd (omega (arith, ap length none))

pub no_lines : (ks : List Text) (x : Text) → [] ≡ read_text ks ++ x → ks ≡ []
no_lines [] x e = refl
no_lines (k ∷ ks) x e = absurd (lacks_not 10 [] k (read_text ks ++ x) tt (e ∙ first_line k ks x))
