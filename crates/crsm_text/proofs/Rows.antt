-- Numbers that are written into a row of spaces, from its end.
use Rattle.std.proofs.Common.{◌≡◌, ◌<◌, ◌≤◌, ◌-◌, ◌+◌, ◌++◌, ◌∷◌, ℕ, List, decimal, length, get_or, take, drop, arith, sym, ap, ◌∙◌}
use Rattle.std.proofs.lemmas.List.{drop_more, get_or-take}
use Rattle.crsm_text.specs.Words.{numbers}

-- there are only spaces before this place
abbrev pub Spaces : List ℕ → ℕ → Type 0
Spaces row at = (i : ℕ) → i < at → get_or row i 32 ≡ 32

pub kept_space : (old row : List ℕ) (at start : ℕ) → Spaces old at → start ≤ at → take start row ≡ take start old → Spaces row start
kept_space old row at start spaces within same i below =
    sym (get_or-take start row i 32 below) ∙ ap (λ (s : List ℕ). get_or s i 32) same ∙ get_or-take start old i 32 below ∙ spaces i (omega (arith, below, within))

-- the space before a number
pub space_before : (row text : List ℕ) (start : ℕ) → Spaces row start → 0 < start → start ≤ length row → drop start row ≡ text → drop (start - 1) row ≡ 32 ∷ text
space_before row text start spaces some within behind =
    let next : start - 1 + 1 ≡ start = omega (arith, some) in
    drop_more row (start - 1) 32 (omega (arith, some, within))
    ∙ ap (λ (n : ℕ). n ∷ drop (start - 1 + 1) row) (spaces (start - 1) (omega (arith, some)))
    ∙ ap (λ (n : ℕ). 32 ∷ drop n row) next ∙ ap (λ (s : List ℕ). 32 ∷ s) behind

pub numbers-before : (values : List ℕ) (left : ℕ) → 0 < left → left ≤ length values → numbers (drop (left - 1) values) ≡ 32 ∷ decimal (get_or values (left - 1) 0) ++ numbers (drop left values)
numbers-before values left some within =
    let next : left - 1 + 1 ≡ left = omega (arith, some) in
    ap numbers (drop_more values (left - 1) 0 (omega (arith, some, within)))
    ∙ ap (λ (n : ℕ). 32 ∷ decimal (get_or values (left - 1) 0) ++ numbers (drop n values)) next
