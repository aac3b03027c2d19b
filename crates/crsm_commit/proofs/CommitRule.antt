-- The commit rule of the first entry, and the votes that matter for it.
use Rattle.std.proofs.Common.{◌≡◌, ℕ, Bool, true, false, refl, sym, ◌∙◌, ap, subst, List, [], ◌∷◌, inl, inr, Some, None, IsTrue}
use Rattle.std.specs.Prelude.{◌&&◌, ◌↔◌, if◌then◌else◌}
use Rattle.crsm_base.specs.declared.Stamp.{Stamp}
use Rattle.crsm_base.specs.declared.Entry.{Entry}
use Rattle.crsm_base.specs.Order.{stamp_eq}
use Rattle.crsm_spec.specs.Lists.{first_of}
use Rattle.crsm_spec.specs.Ready.{is_next}
use Rattle.crsm_commit.specs.Pending.{PendingStands, may_commit, first_ready}
use Rattle.crsm_commit.specs.declared.pending.Pending.{Pending}
use Rattle.crsm_commit.proofs.Bits.{same_stamp, vote_other}
use Rattle.crsm_commit.proofs.Filed.{bool_cases}
use Rattle.crsm_commit.proofs.VotesLemmas.{equal}

no_pass : (a : Bool) → (a && false) ≡ true → ⊥
no_pass true e = absurd (cc)
no_pass false e = absurd (cc)

left_passes : (a b : Bool) → (a && b) ≡ true → a ≡ true
left_passes true b e = refl
left_passes false b e = e

right_passes : (a b : Bool) → (a && b) ≡ true → b ≡ true
right_passes true b e = e
right_passes false b e = absurd (cc)

pub exactly : (spec members : List ℕ) (received : List (ℕ × ℕ)) (votes : List (Stamp × ℕ)) (waiting : List Entry) (s : Stamp) →
    (first_ready spec members received votes waiting ≡ Some s) ↔ IsTrue (may_commit spec members received votes s && is_next waiting s)
unfolding is_next first_of
exactly spec members received votes [] s = ((λ e. absurd (cc)), (λ t. absurd (no_pass (may_commit spec members received votes s) t)))
exactly spec members received votes (e ∷ es) s = (forth, back)
  where
    test : Stamp → Bool
    test t = may_commit spec members received votes t

    chosen : (b : Bool) → test e.stamp ≡ b → (if b then Some e.stamp else None) ≡ Some s → (test s && stamp_eq e.stamp s) ≡ true
    chosen true h k =
        let same : e.stamp ≡ s = cc in
        subst (λ t. (test t && stamp_eq e.stamp t) ≡ true) same (ap (λ b. b && stamp_eq e.stamp e.stamp) h ∙ same_stamp e.stamp)
    chosen false h k = absurd (cc)

    forth : (if test e.stamp then Some e.stamp else None) ≡ Some s → (test s && stamp_eq e.stamp s) ≡ true
    forth k = chosen (test e.stamp) refl k

    back : (test s && stamp_eq e.stamp s) ≡ true → (if test e.stamp then Some e.stamp else None) ≡ Some s
    back t =
        let same : s ≡ e.stamp = sym (equal e.stamp s (right_passes (test s) (stamp_eq e.stamp s) t)) in
        let passes : test e.stamp ≡ true = subst (λ r. test r ≡ true) same (left_passes (test s) (stamp_eq e.stamp s) t) in
        ap (λ b. if b then Some e.stamp else None) passes ∙ ap (λ r. Some r) (sym same)

pub not_counted : (pending : Pending) (tracked : Stamp → Bool) (waiting : List Entry) (votes : List (Stamp × ℕ)) (stamp : Stamp) (k : ℕ) →
    tracked stamp ≡ false → PendingStands pending tracked waiting votes → PendingStands pending tracked waiting ((stamp, k) ∷ votes)
not_counted pending tracked waiting votes stamp k off stands = record {
  count = stands.count;
  ascending = stands.ascending;
  queues = stands.queues;
  first = stands.first;
  masks = λ s t. elim (bool_cases (stamp_eq stamp s)) [
    | inl e ↦ (let same : tracked stamp ≡ tracked s = ap tracked (equal stamp s e) in absurd (cc))
    | inr e ↦ stands.masks s t ∙ vote_other votes stamp s k e
  ];
}

pub narrowed : (pending : Pending) (wide narrow : Stamp → Bool) (waiting : List Entry) (votes : List (Stamp × ℕ)) →
    ((s : Stamp) → narrow s ≡ true → wide s ≡ true) → PendingStands pending wide waiting votes → PendingStands pending narrow waiting votes
narrowed pending wide narrow waiting votes fewer stands = record {
  count = stands.count;
  ascending = stands.ascending;
  queues = stands.queues;
  first = stands.first;
  masks = λ s t. stands.masks s (fewer s t);
}
