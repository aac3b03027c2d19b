-- Two arrays joined.
use Rattle.std.proofs.Common.{◌≡◌, ℕ, ◌≤◌, List, [], ◌++◌, length, drop, ap, ◌∙◌}
use Rattle.std.proofs.lemmas.List.{append-nil, take_at, drop_at, drop_all}
use borrow.Rule.Slice.PartMut.{put_mid}

pub join : (prefix back room : List ℕ) (n k : ℕ) → length prefix ≡ n → length room ≤ k → put_mid n k (prefix ++ room) back ≡ prefix ++ back
join prefix back room n k is_prefix fits =
    let behind : drop k (drop n (prefix ++ room)) ≡ [] = ap (λ (l : List ℕ). drop k l) (drop_at prefix room n is_prefix) ∙ drop_all k room fits in
    rw (take_at prefix room n is_prefix, behind) (ap (λ (l : List ℕ). prefix ++ l) (append-nil back))
