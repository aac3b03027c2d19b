-- The executed slots with one more.
use Rattle.std.proofs.Common.{◌≡◌, ℕ, zero, suc, ◌-◌, ◌≤◌, List, [], ◌∷◌, ◌++◌, length, Some, None, refl, ap, sym, ◌∙◌, append_assoc, arith}
use Rattle.std.specs.Prelude.{Option, drop, slice_get, take}
use Rattle.std.specs.Option.{option_map}
use native.Mathlib.Numerals.{unary_clauses}
use Rattle.std.proofs.lemmas.Grind.{fold-append}
use Rattle.std.proofs.lemmas.List.{append-nil, drop-append-le, drop_all}
use Rattle.crsm_base.specs.Store.{no_rows}
use Rattle.crsm_mpspec.specs.Types.{Answer, Value}
use Rattle.crsm_mpspec.specs.Values.{answer_after, apply_value, rows_after}
use Rattle.crsm_mpledger.specs.declared.executions.Execution.{Execution}
use Rattle.crsm_mpledger.specs.Executed.{execution_after, executions_behind, executions_of}

behind-snoc : (done vs : List Value) (v : Value) → executions_behind done (vs ++ v ∷ []) ≡ executions_behind done vs ++ execution_after (done ++ vs) v ∷ []
unfolding executions_behind
behind-snoc done [] v = ap (λ (ws : List Value). execution_after ws v ∷ []) (sym (append-nil done))
behind-snoc done (w ∷ ws) v =
    ap (λ rest. execution_after done w ∷ rest)
    (behind-snoc (done ++ w ∷ []) ws v ∙ ap (λ (us : List Value). executions_behind (done ++ w ∷ []) ws ++ execution_after us v ∷ []) (append_assoc done (w ∷ []) ws))

-- one execution more
pub executions-snoc : (vs : List Value) (v : Value) → executions_of (vs ++ v ∷ []) ≡ executions_of vs ++ execution_after vs v ∷ []
unfolding executions_of
executions-snoc vs v = behind-snoc [] vs v

length-behind : (done vs : List Value) → length (executions_behind done vs) ≡ length vs
unfolding executions_behind
length-behind done [] = refl
length-behind done (v ∷ vs) = ap (λ n. suc n) (length-behind (done ++ v ∷ []) vs)

-- each value has one
pub length-executions : (vs : List Value) → length (executions_of vs) ≡ length vs
unfolding executions_of
length-executions vs = length-behind [] vs

-- the rows behind one value more
pub rows-snoc : (vs : List Value) (v : Value) → rows_after (vs ++ v ∷ []) ≡ apply_value (rows_after vs) v
unfolding rows_after
rows-snoc vs v = fold-append apply_value no_rows vs (v ∷ [])

some_same : {A : Type 0} (x y : A) → ◌≡◌ {A = Option A} (Some x) (Some y) → x ≡ y
some_same x y e = cc

behind-get : (done vs : List Value) (i : ℕ) (v : Value) → slice_get vs i ≡ Some v → slice_get (executions_behind done vs) i ≡ Some (execution_after (done ++ take i vs) v)
unfolding executions_behind
behind-get done [] i v e = absurd cc
behind-get done (w ∷ ws) zero v e =
    ap (λ (u : Value). Some (execution_after done u)) (some_same w v e) ∙ ap (λ (us : List Value). Some (execution_after us v)) (sym (append-nil done))
behind-get done (w ∷ ws) (suc i) v e =
    behind-get (done ++ w ∷ []) ws i v e ∙ ap (λ (us : List Value). Some (execution_after us v)) (append_assoc done (w ∷ []) (take i ws))

-- the execution of a slot
pub executions-get : (vs : List Value) (i : ℕ) (v : Value) → slice_get vs i ≡ Some v → slice_get (executions_of vs) i ≡ Some (execution_after (take i vs) v)
unfolding executions_of
executions-get vs i v e = behind-get [] vs i v e

-- ---- the executions that are kept

-- one more
pub kept-snoc : (first : ℕ) (vs : List Value) (v : Value) → first ≤ length vs → drop first (executions_of (vs ++ v ∷ [])) ≡ drop first (executions_of vs) ++ execution_after vs v ∷ []
kept-snoc first vs v most =
    ap (λ (xs : List Execution). drop first xs) (executions-snoc vs v) ∙ drop-append-le first (executions_of vs) (execution_after vs v ∷ []) (omega (arith, length-executions vs, most))

-- none
pub kept-none : (vs : List Value) → drop (length vs) (executions_of vs) ≡ []
kept-none vs = drop_all (length vs) (executions_of vs) (omega (arith, length-executions vs))

-- the one of a slot
pub get-kept : {A : Type 0} (first slot : ℕ) (xs : List A) → first ≤ slot → slice_get (drop first xs) (slot - first) ≡ slice_get xs slot
get-kept zero slot xs most = ap (λ (k : ℕ). slice_get xs k) (omega arith)
get-kept (suc first) slot [] most = refl
get-kept (suc first) zero (x ∷ xs) most = absurd (omega (arith, most))
get-kept (suc first) (suc slot) (x ∷ xs) most = simp unary_clauses (get-kept first slot xs (omega (arith, most)))

-- ---- its answer

pub answer-of-applied : (done : List Value) (v : Value) (client number : ℕ) (a : Answer) → Some (Execution.Applied client number a) ≡ Some (execution_after done v)
    → Some a ≡ option_map (answer_after done) v
unfolding execution_after
answer-of-applied done None client number a e = absurd cc
answer-of-applied done (Some c) client number a e = cc

pub answer-of-noop : (done : List Value) (v : Value) → Some Execution.Noop ≡ Some (execution_after done v) → None ≡ option_map (answer_after done) v
unfolding execution_after
answer-of-noop done None e = refl
answer-of-noop done (Some c) e = absurd cc

pub none_some : {X : Type 0} (x : X) → None ≡ Some x → ⊥
none_some x e = cc
