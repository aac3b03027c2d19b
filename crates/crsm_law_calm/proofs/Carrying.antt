-- The frames of a link among datagrams.
use Rattle.std.proofs.Common.{◌≡◌, ℕ, ◌+◌, ◌≤◌, List, [], ◌∷◌, ◌++◌, length, map, refl, ◌∙◌, ap, subst, inl, inr, Bool, true, false, cond, arith}
use Rattle.std.specs.Prelude.{◌⊎◌, ◌==◌, filter}
use Rattle.std.specs.List.{enumerate_from}
use Rattle.std.proofs.lemmas.List.{append-nil}
use Rattle.crsm_spec.specs.Types.{InEpoch, Datagram}
use Rattle.crsm_spec.specs.Draft.{Draft, Reply}
use Rattle.crsm_law_active.specs.Again.{sent_to, frame_of}
use Rattle.crsm_law_cluster.specs.Clusters.{Outgoing, outgoing_of}
use Rattle.crsm_law_calm.specs.Rounds.{to_replica, StandsIn}

-- frame a from k to j
abbrev pub IsFrame : ℕ → ℕ → ℕ → ℕ → Datagram → Type 0
IsFrame k j e a d = (p : InEpoch) × (d ≡ Datagram.Frame k j e a p)

-- Among these datagrams, in this order, are the frames a, a + 1, .. below q from k to j.
abbrev pub Carried : ℕ → ℕ → ℕ → ℕ → List Datagram → ℕ → Type 0
Carried k j e q [] a = q ≤ a
Carried k j e q (d ∷ ds) a = (q ≤ a) ⊎ ((IsFrame k j e a d × Carried k j e q ds (a + 1)) ⊎ Carried k j e q ds a)

module _ (k j e q : ℕ) where
  pub carried_done : (ds : List Datagram) (a : ℕ) → q ≤ a → Carried k j e q ds a
  carried_done [] a le = le
  carried_done (d ∷ ds) a le = inl le

  -- more datagrams carry no less
  pub carried_within : (ds xs : List Datagram) (a : ℕ) → StandsIn ds xs → Carried k j e q ds a → Carried k j e q xs a
  carried_within ds [] a s c = subst (λ z. Carried k j e q z a) s c
  carried_within ds (x ∷ xs) a (inl s) c = inr (inr (carried_within ds xs a s c))
  carried_within ds (x ∷ xs) a (inr (rest, is, s)) c = elim (subst (λ z. Carried k j e q z a) is c) [
    | inl le ↦ inl le
    | inr more ↦ elim more [
      | inl f ↦ inr (inl (f.0, carried_within rest xs (a + 1) s f.1))
      | inr h ↦ inr (inr (carried_within rest xs a s h))
    ]
  ]

  pub carried_behind : (before ds : List Datagram) (a : ℕ) → Carried k j e q ds a → Carried k j e q (before ++ ds) a
  carried_behind [] ds a c = c
  carried_behind (b ∷ before) ds a c = inr (inr (carried_behind before ds a c))

-- all frames from a on
pub carried_frames : (k j e a : ℕ) (fs : List InEpoch) → Carried k j e (a + length fs) (map (frame_of k e j) (enumerate_from a fs)) a
unfolding frame_of
carried_frames k j e a [] = omega arith
carried_frames k j e a (f ∷ fs) =
    inr (inl ((f, refl), subst (λ z. Carried k j e z (map (frame_of k e j) (enumerate_from (a + 1) fs)) (a + 1)) (omega arith) (carried_frames k j e (a + 1) fs)))

-- ---- what goes to one replica

pub replica_then : (j : ℕ) (xs ys : List Outgoing) → to_replica j (xs ++ ys) ≡ to_replica j xs ++ to_replica j ys
unfolding to_replica
replica_then j [] ys = refl
replica_then j (Outgoing.ToReplica k d ∷ xs) ys = go (k == j) (replica_then j xs ys)
  where
    go : (b : Bool) → to_replica j (xs ++ ys) ≡ to_replica j xs ++ to_replica j ys → cond b (d ∷ to_replica j (xs ++ ys)) (to_replica j (xs ++ ys)) ≡ cond b (d ∷ to_replica j xs) (to_replica j xs) ++ to_replica j ys
    go true h = ap (λ z. d ∷ z) h
    go false h = h
replica_then j (Outgoing.ToClient a ∷ xs) ys = replica_then j xs ys

none_to : (j : ℕ) (rs : List Reply) → to_replica j (map Outgoing.ToClient rs) ≡ []
unfolding to_replica
none_to j [] = refl
none_to j (r ∷ rs) = none_to j rs

sends_to : (j : ℕ) (ss : List (ℕ × Datagram)) → to_replica j (map (λ s. Outgoing.ToReplica s.0 s.1) ss) ≡ sent_to j ss
unfolding to_replica sent_to
sends_to j [] = refl
sends_to j (s ∷ ss) = one (s.0 == j) (sends_to j ss)
  where
    one : (b : Bool) → to_replica j (map (λ s. Outgoing.ToReplica s.0 s.1) ss) ≡ map (λ (z : ℕ × Datagram). z.1) (filter (λ z. z.0 == j) ss) →
        cond b (s.1 ∷ to_replica j (map (λ s. Outgoing.ToReplica s.0 s.1) ss)) (to_replica j (map (λ s. Outgoing.ToReplica s.0 s.1) ss)) ≡ map (λ (z : ℕ × Datagram). z.1) (cond b (s ∷ filter (λ z. z.0 == j) ss) (filter (λ z. z.0 == j) ss))
    one true h = ap (λ z. s.1 ∷ z) h
    one false h = h

pub of_draft : (j : ℕ) (x : Draft) → to_replica j (outgoing_of x) ≡ sent_to j x.sends
unfolding outgoing_of
of_draft j x =
    replica_then j (map (λ s. Outgoing.ToReplica s.0 s.1) x.sends) (map Outgoing.ToClient x.replies)
    ∙ ap (λ z. to_replica j (map (λ s. Outgoing.ToReplica s.0 s.1) x.sends) ++ z) (none_to j x.replies) ∙ append-nil _ ∙ sends_to j x.sends
