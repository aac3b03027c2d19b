-- A collection whose pages can be sent stands for them, after some log.
use Rattle.std.proofs.Common.{◌≡◌, ℕ, ◌+◌, ◌≤◌, List, [], ◌∷◌, refl, sym, ap, ◌∙◌, subst, arith}
use Rattle.std.specs.Prelude.{Option, None, Result, Ok, Err, OnOk, OnErr}
use Rattle.std.specs.List.{AllByRecursion}
use Rattle.crsm_spec.specs.Types.{Rec}
use Rattle.crsm_spec.specs.Log.{Log, decision, known, start}
use Rattle.crsm_spec.specs.Replica.{LogPage}
use Rattle.crsm_spec.specs.Coordinate.{most_collected}
use Rattle.crsm_suspend.specs.Collecting.{CanSend, CollectStands, IsSound}
use Rattle.crsm_suspend.specs.declared.collection.Collection.{Collection}

-- a log after which an epoch is known, and begins at this length
pub some_log : ℕ → ℕ → Log
some_log epoch begins = Rec.Decide (record { epoch = epoch; spec = None; members = []; base_len = begins; tail = [] }) ∷ []

some-known : (epoch begins : ℕ) → known (some_log epoch begins) ≡ epoch
unfolding some_log known decision
some-known epoch begins = refl

some-start : (epoch begins : ℕ) → start (some_log epoch begins) ≡ begins
unfolding some_log start decision
some-start epoch begins = omega arith

pub sound-stands : (c : Collection) (s : IsSound c) → CollectStands (some_log c.epoch c.start) c.spec c.named c.members s.pages c
sound-stands c s =
    let k = sym (some-known c.epoch c.start) in
    let b = sym (some-start c.epoch c.start) in
    record {
      epoch = k;
      next = s.next ∙ ap (λ n. n + 1) k;
      begins = b;
      spec_is = refl;
      named_is = refl;
      members_are = refl;
      reports = s.reports;
      low_epoch = subst (λ n. n ≤ most_collected) k s.low_epoch;
      low_start = subst (λ n. n ≤ most_collected) b s.low_start;
      told = subst (λ n. AllByRecursion (CanSend n) s.pages) k s.told;
    }

pub stands-sound : {log : Log} {spec : List ℕ} {named : Option (List ℕ)} {members : List ℕ} {pages : List LogPage} (c : Collection) → CollectStands log spec named members pages c → IsSound c
stands-sound {pages = pages} c s = record {
  pages = pages;
  next = s.next ∙ ap (λ n. n + 1) (sym s.epoch);
  reports = s.reports;
  low_epoch = subst (λ n. n ≤ most_collected) (sym s.epoch) s.low_epoch;
  low_start = subst (λ n. n ≤ most_collected) (sym s.begins) s.low_start;
  told = subst (λ n. AllByRecursion (CanSend n) pages) (sym s.epoch) s.told;
}

-- a collection that has begun
pub begun-sound : (epoch begins : ℕ) (spec : List ℕ) (named : Option (List ℕ)) (members : List ℕ) (c : Collection) → ((log : Log) → known log ≡ epoch → start log ≡ begins → CollectStands log spec named members [] c) → IsSound c
begun-sound epoch begins spec named members c stands =
    stands-sound c (stands (some_log epoch begins) (some-known epoch begins) (some-start epoch begins))

-- what is sound stays so: it is unchanged at an error
pub stays-sound : {T E : Type 0} (r : Result T E) (old new : Collection) → IsSound old → OnOk r (IsSound new) → OnErr r (new ≡ old) → IsSound new
stays-sound (Ok t) old new s sound same = sound
stays-sound (Err e) old new s sound same = subst IsSound (sym same) s

-- if it stands for pages afterwards, it is sound
pub stands-after : {T E : Type 0} (r : Result T E) (log : Log) (spec : List ℕ) (named : Option (List ℕ)) (members : List ℕ) (pages : List LogPage) (new : Collection) → OnOk r (CollectStands log spec named members pages new) → OnOk r (IsSound new)
stands-after (Ok t) log spec named members pages new s = stands-sound new s
stands-after (Err e) log spec named members pages new s = tt

-- a page of this epoch can be sent
pub own-can : (c : Collection) (p : LogPage) (epoch : ℕ) → epoch ≡ c.epoch → CanSend epoch p → CanSend (known (some_log c.epoch c.start)) p
own-can c p epoch same can = subst (λ n. CanSend n p) (same ∙ sym (some-known c.epoch c.start)) can
