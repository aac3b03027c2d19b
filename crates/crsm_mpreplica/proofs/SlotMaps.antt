-- Maps to which slots are added after all others.
use Rattle.std.proofs.Common.{◌≡◌, ℕ, suc, ◌<◌, List, [], ◌∷◌, ◌++◌, refl, ap, arith}
use Rattle.std.specs.List.{All}
use Rattle.std.specs.Map.{keys_of}
use Rattle.std.specs.Ordering.{nat_cmp}
use Rattle.std.specs.declared.cmp.Ordering.TheVariants.{Greater}
use Rattle.std.specs.BTreeMap.{insert_entry}
use Rattle.std.proofs.lemmas.Bool.Decides.{nat_tests}

above : (a b : ℕ) → b < a → nat_cmp a b ≡ Greater
above a b l = grind (arith, nat_tests, l)

-- a key above all others goes to the end
pub insert-last : {X : Type 0} (es : List (ℕ × X)) (k : ℕ) (v : X) → All (λ q. q < k) (keys_of es) → insert_entry nat_cmp es k v ≡ es ++ (k, v) ∷ []
insert-last [] k v below = refl
insert-last {X = X} (e ∷ es) k v below =
    rw (above k e.0 (below 0 0 (omega arith))) (ap (λ (xs : List (ℕ × X)). e ∷ xs) (insert-last es k v (λ j d l. below (suc j) d (omega (arith, l)))))
