-- The store at a place of a prefix is the store at that place of the whole list.
use Rattle.std.proofs.Common.{◌≡◌, ℕ, zero, suc, ◌+◌, ◌<◌, ◌≤◌, List, [], ◌∷◌, ◌++◌, length, take, Some, sym, ap, subst, ◌∙◌, arith}
use Rattle.std.specs.Prelude.{slice_get}
use Rattle.std.proofs.lemmas.Option.{none-some, slice_get_within}
use Rattle.std.proofs.lemmas.List.{take-append-le}
use Rattle.crsm_base.specs.Store.{after, answer_after}
use Rattle.crsm_spec.specs.Types.{Answer, Entry}
use Rattle.crsm_spec.specs.Lists.{IsPrefixOf}
use Rattle.crsm_law_once.specs.Numbered.{ChangesKeys, IsAnswered}

got_before : (xs rest : List Entry) (p : ℕ) (e : Entry) → slice_get xs p ≡ Some e → slice_get (xs ++ rest) p ≡ Some e
got_before [] rest p e at = absurd (none-some e at)
got_before (x ∷ xs) rest zero e at = at
got_before (x ∷ xs) rest (suc p) e at = got_before xs rest p e at

same_take : (xs rest : List Entry) (p : ℕ) → p ≤ length xs → take p (xs ++ rest) ≡ take p xs
same_take xs rest p le = take-append-le p xs rest le

module _ (xs ys : List Entry) (prefix : IsPrefixOf xs ys) (p client number : ℕ) (a : Answer) (x : IsAnswered xs p client number a) where
  inside : p < length xs
  inside = slice_get_within xs p x.entry x.at.0

  pub answered_in : IsAnswered ys p client number a
  answered_in = subst (λ zs. IsAnswered zs p client number a) prefix.1 (record {
    entry = x.entry;
    at = (got_before xs prefix.0 p x.entry x.at.0, x.at.1 ∙ ap (λ zs. answer_after zs x.entry) (sym (same_take xs prefix.0 p (let lt = inside in omega (arith, lt)))));
    asked_by = x.asked_by;
    numbered = x.numbered;
  })

  pub changes_in : ChangesKeys xs p → ChangesKeys ys p
  changes_in changes = subst (λ zs. ChangesKeys zs p) prefix.1 (λ same. changes (
      ap (λ zs. (after zs).keys) (sym (same_take xs prefix.0 (p + 1) (let lt = inside in omega (arith, lt))))
      ∙ same
      ∙ ap (λ zs. (after zs).keys) (same_take xs prefix.0 p (let lt = inside in omega (arith, lt)))))
