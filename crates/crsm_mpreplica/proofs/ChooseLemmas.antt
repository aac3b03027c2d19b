-- A value that becomes chosen, and the slots executed then.
use Rattle.std.proofs.Common.{◌≡◌, ℕ, ◌≤◌, List, [], ◌∷◌, ◌++◌, length, take, drop, refl, ap, arith}
use Rattle.crsm_mpspec.specs.declared.line.MpLine.{MpLine}
use Rattle.crsm_mpspec.specs.declared.rec.MpRec.{MpRec}
use Rattle.crsm_mpspec.specs.Types.{Value}
use Rattle.crsm_mpspec.specs.Draft.{Draft, exec_lines, executions, keep, keep_as, line_of}
use Rattle.crsm_mpspec.specs.Log.{executed}
use Rattle.crsm_mpreplica.specs.Made.{outcome_of}

tail_of : {X : Type 0} → List X → List X
tail_of [] = []
tail_of (x ∷ xs) = xs

-- what begins with a list is at least as long
pub prefix-len : {X : Type 0} (xs ys : List X) → take (length xs) ys ≡ xs → length xs ≤ length ys
unfolding tail_of
prefix-len [] ys e = omega arith
prefix-len (x ∷ xs) [] e = absurd (no_cons e)
  where
    no_cons : {X : Type 0} {x : X} {xs : List X} → [] ≡ x ∷ xs → ⊥
    no_cons e = cc
prefix-len (x ∷ xs) (y ∷ ys) e = omega (arith, prefix-len xs ys (ap tail_of e))

joined : {X : Type 0} (xs : List X) (l : X) (ys : List X) → (xs ++ l ∷ []) ++ ys ≡ xs ++ l ∷ ys
joined [] l ys = refl
joined (x ∷ xs) l ys = ap (λ (zs : List _). x ∷ zs) (joined xs l ys)

-- the lines of a choice are its own and those of what is executed then
pub choose-tells : (x : Draft) (slot : ℕ) (v : Value) (me before : ℕ) → me ≡ x.replica.me → before ≡ length (executed x.replica.log)
    → take (length (executed x.replica.log)) (executed (MpRec.Choose slot v ∷ x.replica.log)) ≡ executed x.replica.log
    → record (outcome_of x) {
      batch = x.batch ++ MpRec.Choose slot v ∷ [];
      lines = (x.lines ++ MpLine.Choose me slot ∷ [])
          ++ exec_lines me (take before (executed (MpRec.Choose slot v ∷ x.replica.log))) (drop before (executed (MpRec.Choose slot v ∷ x.replica.log)));
    } ≡ outcome_of (keep (MpRec.Choose slot v) x)
unfolding keep keep_as line_of executions
choose-tells x slot v me before is at grows =
    rw (is, at, grows) (ap (λ (ls : List MpLine). record (outcome_of x) { batch = x.batch ++ MpRec.Choose slot v ∷ []; lines = ls }) (joined x.lines (MpLine.Choose x.replica.me slot) _))
