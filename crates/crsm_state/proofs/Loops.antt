-- Values one after the other, as a loop reads them.
use Rattle.std.proofs.Common.{◌≡◌, ℕ, suc, ◌-◌, ◌+◌, ◌≤◌, ◌<◌, List, [], ◌∷◌, ◌++◌, Option, Some, None, refl, sym, ap, ◌∙◌, append_assoc, arith}
use Rattle.std.proofs.lemmas.List.{append-nil}
use Rattle.crsm_base.specs.Parser.{◌>>=◌, Parser, many_at}

-- what was read before, and what is still read
abbrev pub with_prefix : {X : Type 0} → List X → Option (List X × List ℕ) → Option (List X × List ℕ)
with_prefix prefix read = read >>= λ x. Some (prefix ++ x.0, x.1)

regroup : {X : Type 0} (prefix : List X) (n : X) (read : Option (List X × List ℕ)) → with_prefix prefix (read >>= λ x. Some (n ∷ x.0, x.1)) ≡ with_prefix (prefix ++ n ∷ []) read
regroup {X = X} prefix n (Some x) = ap (λ (ns : List X). Some (ns, x.1)) (simp append_assoc)
regroup prefix n None = refl

pub goes_on : {X : Type 0} (at : Parser X) (prefix : List X) (count i : ℕ) (bytes : List ℕ) (n : X) (after : List ℕ) (total : Option (List X × List ℕ)) → i < count → Some (n, after) ≡ at bytes
    → with_prefix prefix (many_at at (count - i) bytes) ≡ total → with_prefix (prefix ++ n ∷ []) (many_at at (count - (i + 1)) after) ≡ total
goes_on at prefix count i bytes n after total lt h so_far =
    let k : count - i ≡ suc (count - (i + 1)) = omega arith in
    let one : with_prefix prefix (many_at at (count - i) bytes) ≡ with_prefix (prefix ++ n ∷ []) (many_at at (count - (i + 1)) after) = rw (k, ← h) (regroup prefix n (many_at at (count - (i + 1)) after)) in
    sym one ∙ so_far

pub ends : {X : Type 0} (at : Parser X) (prefix : List X) (count i : ℕ) (bytes : List ℕ) (total : Option (List X × List ℕ)) → i < count → None ≡ at bytes
    → with_prefix prefix (many_at at (count - i) bytes) ≡ total → None ≡ total
ends at prefix count i bytes total lt h so_far =
    let k : count - i ≡ suc (count - (i + 1)) = omega arith in
    let one : with_prefix prefix (many_at at (count - i) bytes) ≡ None = rw (k, ← h) refl in
    sym one ∙ so_far

pub is_done : {X : Type 0} (at : Parser X) (prefix : List X) (count i : ℕ) (bytes : List ℕ) (total : Option (List X × List ℕ)) → count ≤ i → with_prefix prefix (many_at at (count - i) bytes) ≡ total → Some (prefix, bytes) ≡ total
is_done {X = X} at prefix count i bytes total le so_far =
    let k : count - i ≡ 0 = omega arith in
    let one : with_prefix prefix (many_at at (count - i) bytes) ≡ Some (prefix, bytes) = rw k (ap (λ (ns : List X). Some (ns, bytes)) (append-nil prefix)) in
    sym one ∙ so_far
