-- The longest list with one more account.
use Rattle.std.proofs.Common.{◌≡◌, ℕ, ◌+◌, ◌<◌, List, [], ◌∷◌, length, get_or, take, ◌++◌, ap, sym, ◌∙◌}
use Rattle.std.specs.Prelude.{fold}
use Rattle.std.proofs.lemmas.List.{take_more}
use Rattle.std.proofs.lemmas.List.Sums.{fold-append}
use Rattle.crsm_audit.specs.declared.account.Account.{Account}
use Rattle.crsm_audit.specs.Lists.{longer, longest_of}

pub longest_more : (accounts : List Account) (i : ℕ) (a : Account) → i < length accounts → a ≡ get_or accounts i a
    → longest_of (take (i + 1) accounts) ≡ longer (longest_of (take i accounts)) a.entries.list
unfolding longest_of
longest_more accounts i a l e =
    ap (fold (λ (best : List (List ℕ)) (b : Account). longer best b.entries.list) []) (take_more accounts i a l ∙ ap (λ x. take i accounts ++ x ∷ []) (sym e))
    ∙ fold-append (λ (best : List (List ℕ)) (b : Account). longer best b.entries.list) [] (take i accounts) (a ∷ [])
