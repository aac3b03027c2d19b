-- Boots, and records that are applied one after another.
use Rattle.std.proofs.Common.{◌≡◌, ℕ, zero, suc, ◌+◌, ◌<◌, ◌≤◌, Bool, List, [], ◌∷◌, Option, Some, refl, ap, sym, subst, ◌∙◌, arith}
use Rattle.std.specs.Prelude.{fold, slice_get, drop, if◌then◌else◌}
use Rattle.crsm_spec.specs.Clock.{u64_max}
use Rattle.crsm_mpspec.specs.declared.rec.MpRec.{MpRec}
use Rattle.crsm_mpspec.specs.Log.{Log, boots, is_boot}
use Rattle.crsm_mpledger.specs.declared.ledger.MpLedger.{MpLedger}
use Rattle.crsm_mpledger.specs.MpLedger.{CanFollow, MpLedgerStands}
use Rattle.crsm_mpledger.specs.Sound.{IsSound, with_records, AreBodies}

counted : {X : Type 0} (p : X → Bool) (n : ℕ) (xs : List X) → fold (λ a x. a + (if p x then 1 else 0)) (n + 1) xs ≡ fold (λ a x. a + (if p x then 1 else 0)) n xs + 1
counted p n [] = refl
counted p n (x ∷ xs) = ap (λ (m : ℕ). fold (λ a y. a + (if p y then 1 else 0)) m xs) (omega arith) ∙ counted p (n + (if p x then 1 else 0)) xs

-- one boot more
pub boots-boot : (log : Log) → boots (MpRec.Boot ∷ log) ≡ boots log + 1
unfolding boots is_boot
boots-boot log = counted is_boot 0 log

-- ---- records behind a log

-- a log that more records stand behind is sound where all of it is
pub sound_before : (log : Log) (xs : List MpRec) → IsSound (with_records log xs) → IsSound log
sound_before log [] sound = sound
sound_before log (x ∷ xs) sound = (sound_before (x ∷ log) xs sound).1

-- it has no more boots than all of it
fold_more : (n m : ℕ) (log : Log) → n ≤ m → fold (λ a x. a + (if is_boot x then 1 else 0)) n log ≤ fold (λ a x. a + (if is_boot x then 1 else 0)) m log
fold_more n m [] h = h
fold_more n m (x ∷ log) h = fold_more (n + (if is_boot x then 1 else 0)) (m + (if is_boot x then 1 else 0)) log (omega (arith, h))

boots-more : (x : MpRec) (log : Log) → boots log ≤ boots (x ∷ log)
unfolding boots
boots-more x log = fold_more 0 (0 + (if is_boot x then 1 else 0)) log (omega arith)

pub boots_before : (log : Log) (xs : List MpRec) → boots log ≤ boots (with_records log xs)
boots_before log [] = omega arith
boots_before log (x ∷ xs) = let more = boots-more x log in let rest = boots_before (x ∷ log) xs in omega (arith, more, rest)

-- where all of it has few boots, one record more can be applied
pub can_follow : (ledger : MpLedger) (log : Log) (x : MpRec) (xs : List MpRec) → MpLedgerStands ledger log → boots (with_records log (x ∷ xs)) < u64_max → CanFollow ledger x
can_follow ledger log MpRec.Boot xs s few =
    let rest = boots_before (MpRec.Boot ∷ log) xs in let one = boots-boot log in let is = s.boots in omega (arith, few, rest, one, is)
can_follow ledger log (MpRec.Promise b) xs s few = tt
can_follow ledger log (MpRec.Accept slot b v) xs s few = tt
can_follow ledger log (MpRec.Choose slot v) xs s few = tt

-- ---- bodies behind a log

-- so is a log that bodies go on from
pub sound_bodies : (log : Log) (bodies : List (List ℕ)) (whole : Log) → AreBodies log bodies whole → IsSound whole → IsSound log
sound_bodies log [] whole are sound = subst IsSound (sym are) sound
sound_bodies log (body ∷ bodies) whole are sound = sound_before log are.0 (sound_bodies (with_records log are.0) bodies whole are.2 sound)

suc_more : (i : ℕ) → suc (i + 1) ≡ suc i + 1
suc_more i = omega arith

pub drop-get : {A : Type 0} (xs : List A) (i : ℕ) (x : A) → slice_get xs i ≡ Some x → drop i xs ≡ x ∷ drop (i + 1) xs
drop-get [] i x e = absurd cc
drop-get {A = A} (y ∷ ys) zero x e = ap (λ (z : A). z ∷ ys) (same e)
  where
    same : ◌≡◌ {A = Option A} (Some y) (Some x) → y ≡ x
    same e = cc
drop-get (y ∷ ys) (suc i) x e = drop-get ys i x e ∙ ap (λ n. x ∷ drop n (y ∷ ys)) (suc_more i)

-- and a log that bodies go on from has no more boots than all of it
pub boots_bodies : (log : Log) (bodies : List (List ℕ)) (whole : Log) → AreBodies log bodies whole → boots log ≤ boots whole
boots_bodies log [] whole are = let e = ap boots are in omega (arith, e)
boots_bodies log (body ∷ bodies) whole are =
    let here = boots_before log are.0 in let rest = boots_bodies (with_records log are.0) bodies whole are.2 in omega (arith, here, rest)
