-- A word and numbers, one number at a time.
use Rattle.std.proofs.Common.{◌≡◌, ◌≤◌, ◌-◌, ℕ, length, get_or, take, drop, arith, List, [], ◌∷◌, ◌++◌, decimal, ap, sym, ◌∙◌, append_assoc}
use Rattle.std.proofs.lemmas.List.{append-nil, take_rest}
use Rattle.crsm_text.specs.Words.{named, numbers, commas}

pub named_numbers : (name ns : List ℕ) → named name ns ≡ name ++ numbers ns
named_numbers name [] = sym (append-nil name)
named_numbers name (n ∷ ns) = ap (λ (s : List ℕ). name ++ 32 ∷ s) (named_numbers (decimal n) ns)

numbers_more : (ns : List ℕ) (n : ℕ) → numbers (ns ++ n ∷ []) ≡ numbers ns ++ 32 ∷ decimal n
numbers_more [] n = ap (λ (s : List ℕ). 32 ∷ s) (append-nil (decimal n))
numbers_more (m ∷ ns) n =
    ap (λ (s : List ℕ). 32 ∷ decimal m ++ s) (numbers_more ns n) ∙ ap (λ (s : List ℕ). 32 ∷ s) (sym (append_assoc (decimal m) (numbers ns) (32 ∷ decimal n)))

pub named_more : (name ns : List ℕ) (n : ℕ) → named name (ns ++ n ∷ []) ≡ named name ns ++ 32 ∷ decimal n
named_more name ns n =
    named_numbers name (ns ++ n ∷ []) ∙ ap (λ (s : List ℕ). name ++ s) (numbers_more ns n) ∙ sym (append_assoc name (numbers ns) (32 ∷ decimal n))
    ∙ ap (λ (s : List ℕ). s ++ 32 ∷ decimal n) (sym (named_numbers name ns))

-- numbers with a comma between each two, as what is written is continued
abbrev pub commas_after : List ℕ → List ℕ
commas_after [] = []
commas_after (n ∷ ns) = 44 ∷ decimal n ++ commas_after ns

pub commas-commas_after : (n : ℕ) (ns : List ℕ) → commas (n ∷ ns) ≡ decimal n ++ commas_after ns
commas-commas_after n [] = sym (append-nil (decimal n))
commas-commas_after n (m ∷ ns) = ap (λ (s : List ℕ). decimal n ++ 44 ∷ s) (commas-commas_after m ns)

pub commas-first : (ns : List ℕ) → 1 ≤ length ns → commas ns ≡ decimal (get_or ns 0 0) ++ commas_after (take (length ns - 1) (drop 1 ns))
commas-first [] some = absurd (omega (arith, some))
commas-first (n ∷ ns) some =
    let rest : take (length (n ∷ ns) - 1) (drop 1 (n ∷ ns)) ≡ ns = take_rest (n ∷ ns) 1 in
    commas-commas_after n ns ∙ ap (λ (s : List ℕ). decimal n ++ commas_after s) (sym rest)
