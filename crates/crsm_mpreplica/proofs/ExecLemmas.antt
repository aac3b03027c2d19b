-- The lines of executed slots, with one more.
use Rattle.std.proofs.Common.{◌≡◌, ℕ, zero, suc, ◌+◌, ◌-◌, ◌≤◌, List, [], ◌∷◌, ◌++◌, length, Some, None, refl, ap, sym, ◌∙◌, append_assoc, arith}
use Rattle.std.specs.Prelude.{Option, slice_get, take, drop}
use Rattle.crsm_fact_log.proofs.Lists.{append-none}
use Rattle.crsm_mpspec.specs.declared.line.MpLine.{MpLine}
use Rattle.crsm_mpspec.specs.Types.{Answer, Value}
use Rattle.crsm_mpspec.specs.Draft.{exec_line, exec_lines}
use Rattle.crsm_mpledger.specs.declared.executions.Execution.{Execution}
use Rattle.crsm_mpledger.specs.Executed.{execution_after}

exec-snoc : (me : ℕ) (done vs : List Value) (v : Value) → exec_lines me done (vs ++ v ∷ []) ≡ exec_lines me done vs ++ exec_line me (done ++ vs) v ∷ []
unfolding exec_lines
exec-snoc me done [] v = ap (λ (us : List Value). exec_line me us v ∷ []) (sym (append-none done))
exec-snoc me done (w ∷ ws) v =
    ap (λ (ls : List MpLine). exec_line me done w ∷ ls)
    (exec-snoc me (done ++ w ∷ []) ws v ∙ ap (λ (us : List Value). exec_lines me (done ++ w ∷ []) ws ++ exec_line me us v ∷ []) (append_assoc done (w ∷ []) ws))

take_next : {A : Type 0} (xs : List A) (k : ℕ) (v : A) → slice_get xs k ≡ Some v → take (suc k) xs ≡ take k xs ++ v ∷ []
take_next [] k v e = absurd cc
take_next {A = A} (x ∷ xs) zero v e = ap (λ (y : A). y ∷ []) (inside e)
  where
    inside : ◌≡◌ {A = Option A} (Some x) (Some v) → x ≡ v
    inside w = cc
take_next {A = A} (x ∷ xs) (suc k) v e = ap (λ (ys : List A). x ∷ ys) (take_next xs k v e)

taken_as : {A : Type 0} (n m : ℕ) (xs : List A) → n ≡ m → take n xs ≡ take m xs
taken_as n m xs e = ap (λ (k : ℕ). take k xs) e

-- what is taken behind the first ones, with one more
pub take_more_behind : {A : Type 0} (f k : ℕ) (xs : List A) (v : A) → f ≤ k → slice_get xs k ≡ Some v → take (k + 1 - f) (drop f xs) ≡ take (k - f) (drop f xs) ++ v ∷ []
take_more_behind {A = A} zero k xs v most e =
    taken_as (k + 1 - 0) (suc k) xs (omega arith) ∙ take_next xs k v e ∙ ap (λ (ys : List A). ys ++ v ∷ []) (taken_as k (k - 0) xs (omega arith))
take_more_behind (suc f) k [] v most e = absurd cc
take_more_behind (suc f) zero (x ∷ xs) v most e = absurd (omega (arith, most))
take_more_behind {A = A} (suc f) (suc k) (x ∷ xs) v most e =
    taken_as (suc k + 1 - suc f) (k + 1 - f) (drop f xs) (omega arith) ∙ take_more_behind f k xs v (omega (arith, most)) e
    ∙ ap (λ (ys : List A). ys ++ v ∷ []) (taken_as (k - f) (suc k - suc f) (drop f xs) (omega arith))

nothing_taken : {A : Type 0} (n : ℕ) → ◌≡◌ {A = List A} (take n []) []
nothing_taken zero = refl
nothing_taken (suc n) = refl

-- the first ones, and what is taken behind them
pub taken_so_far : {A : Type 0} (f k : ℕ) (xs : List A) → f ≤ k → take f xs ++ take (k - f) (drop f xs) ≡ take k xs
taken_so_far zero k xs most = taken_as (k - 0) k xs (omega arith)
taken_so_far (suc f) zero xs most = absurd (omega (arith, most))
taken_so_far (suc f) (suc k) [] most = nothing_taken (suc k - suc f)
taken_so_far {A = A} (suc f) (suc k) (x ∷ xs) most =
    ap (λ (ys : List A). x ∷ (take f xs ++ ys)) (taken_as (suc k - suc f) (k - f) (drop f xs) (omega arith)) ∙ ap (λ (ys : List A). x ∷ ys) (taken_so_far f k xs (omega (arith, most)))

-- ---- lines

pub told-none : (lines : List MpLine) (me : ℕ) (done : List Value) (f : ℕ) (vs : List Value) → lines ≡ lines ++ exec_lines me done (take (f - f) vs)
unfolding exec_lines
told-none lines me done f vs =
    sym (append-none lines) ∙ ap (λ (us : List Value). lines ++ exec_lines me done us) (taken_as 0 (f - f) vs (omega arith))

pub told-next : (lines : List MpLine) (me f k : ℕ) (vs : List Value) (v : Value) → f ≤ k → slice_get vs k ≡ Some v
    → (lines ++ exec_lines me (take f vs) (take (k - f) (drop f vs))) ++ exec_line me (take k vs) v ∷ [] ≡ lines ++ exec_lines me (take f vs) (take (k + 1 - f) (drop f vs))
told-next lines me f k vs v most e =
    append_assoc lines (exec_lines me (take f vs) (take (k - f) (drop f vs))) (exec_line me (take k vs) v ∷ [])
    ∙ ap (λ (ls : List MpLine). lines ++ ls)
    (ap (λ (us : List Value). exec_lines me (take f vs) (take (k - f) (drop f vs)) ++ exec_line me us v ∷ []) (sym (taken_so_far f k vs most))
    ∙ sym (exec-snoc me (take f vs) (take (k - f) (drop f vs)) v)
    ∙ ap (λ (us : List Value). exec_lines me (take f vs) us) (sym (take_more_behind f k vs v most e)))

pub one_some : {X : Type 0} (x y : X) → Some x ≡ Some y → x ≡ y
one_some x y e = cc

pub none_some : {X : Type 0} (x : X) → None ≡ Some x → ⊥
none_some x e = cc

-- the line of a noop
pub line-noop : (me slot : ℕ) (done : List Value) (v : Value) → slot ≡ length done → Execution.Noop ≡ execution_after done v → MpLine.ExecNoop me slot ≡ exec_line me done v
unfolding exec_line execution_after
line-noop me slot done None place e = ap (λ (k : ℕ). MpLine.ExecNoop me k) place
line-noop me slot done (Some c) place e = absurd cc

-- and that of a command
pub line-applied : (me slot client number : ℕ) (a : Answer) (done : List Value) (v : Value) → slot ≡ length done → Execution.Applied client number a ≡ execution_after done v
    → MpLine.Exec me slot client number a ≡ exec_line me done v
unfolding exec_line execution_after
line-applied me slot client number a done None place e = absurd cc
line-applied me slot client number a done (Some c) place e = cc
