-- Times that were issued and received.
use Rattle.std.proofs.Common.{◌≡◌, ◌≢◌, ℕ, ◌+◌, ◌<◌, ◌≤◌, Bool, true, false, refl, sym, ◌∙◌, ap, arith, List, [], ◌∷◌, ◌++◌, Some, None}
use Rattle.std.specs.Prelude.{◌==◌, max, map, filter, if◌then◌else◌}
use Rattle.std.specs.List.{AllByRecursion}
use Rattle.std.proofs.lemmas.Bool.Decides.{nat_tests}
use Rattle.crsm_spec.specs.Clock.{issue, u64_max}
use Rattle.crsm_spec.specs.Lists.{greatest}
use Rattle.crsm_spec.specs.Replica.{Replica, latest_from}
use Rattle.crsm_spec.specs.Ready.{all_received}
use Rattle.crsm_commit.specs.Received.{LatestStands}
use Rattle.crsm_commit.specs.declared.latest.Latest.{Latest}

-- the latest time of k, with one more received from j
unfoldable pub latest_if : Bool → ℕ → ℕ → ℕ
latest_if b t l = if b then max t l else l

pub latest_more : (j t k : ℕ) (received : List (ℕ × ℕ)) → latest_from ((j, t) ∷ received) k ≡ latest_if (j == k) t (latest_from received k)
unfolding latest_from greatest latest_if
latest_more j t k received = go (j == k)
  where
    go : (b : Bool) → greatest (map (λ h. h.1) (if b then (j, t) ∷ filter (λ h. h.0 == k) received else filter (λ h. h.0 == k) received))
        ≡ (if b then max t (greatest (map (λ h. h.1) (filter (λ h. h.0 == k) received))) else greatest (map (λ h. h.1) (filter (λ h. h.0 == k) received)))
    go true = refl
    go false = refl

swapped : (a b : Bool) (s t l : ℕ) → latest_if a s (latest_if b t l) ≡ latest_if b t (latest_if a s l)
unfolding latest_if
swapped true true s t l = omega arith
swapped true false s t l = refl
swapped false b s t l = refl

-- where in the list a time stands does not matter
latest_amid : (xs ys : List (ℕ × ℕ)) (h : ℕ × ℕ) (k : ℕ) → latest_from (xs ++ h ∷ ys) k ≡ latest_from (h ∷ xs ++ ys) k
latest_amid [] ys h k = refl
latest_amid (x ∷ xs) ys h k =
    latest_more x.0 x.1 k (xs ++ h ∷ ys) ∙ ap (latest_if (x.0 == k) x.1) (latest_amid xs ys h k ∙ latest_more h.0 h.1 k (xs ++ ys))
    ∙ swapped (x.0 == k) (h.0 == k) x.1 h.1 (latest_from (xs ++ ys) k)
    ∙ sym (latest_more h.0 h.1 k (x ∷ xs ++ ys) ∙ ap (latest_if (h.0 == k) h.1) (latest_more x.0 x.1 k (xs ++ ys)))

latest_other : (t l : ℕ) → latest_if false t l ≡ l
unfolding latest_if
latest_other t l = refl

latest_past_own : (me k : ℕ) (issued : List ℕ) (received : List (ℕ × ℕ)) → (k ≡ me → ⊥) → latest_from (map (λ t. (me, t)) issued ++ received) k ≡ latest_from received k
latest_past_own me k [] received other = refl
latest_past_own me k (t ∷ issued) received other =
    let test : (me == k) ≡ false = grind (arith, nat_tests) in
    latest_more me t k (map (λ t. (me, t)) issued ++ received) ∙ ap (λ b. latest_if b t (latest_from (map (λ t. (me, t)) issued ++ received) k)) test
    ∙ latest_other t (latest_from (map (λ t. (me, t)) issued ++ received) k) ∙ latest_past_own me k issued received other

-- of another replica its own times say nothing
pub latest_of_other : (r : Replica) (k : ℕ) → k ≢ r.me → latest_from (all_received r) k ≡ latest_from r.received k
unfolding all_received
latest_of_other r k other = latest_past_own r.me k r.issued r.received other

-- one more time is received
pub received_more : (latest : Latest) (r : Replica) (k time : ℕ) (taken : List ℕ) → LatestStands latest ((k, time) ∷ all_received r) →
    LatestStands latest (all_received (record r { taken = taken; received = (k, time) ∷ r.received }))
unfolding all_received
received_more latest r k time taken h j within = h j within ∙ sym (latest_amid (map (λ t. (r.me, t)) r.issued) r.received (k, time) j)

pub from_one_more : (r : Replica) (k time : ℕ) (taken : List ℕ) → 1 ≤ time → AllByRecursion (λ h. 1 ≤ h.1) (all_received r) →
    AllByRecursion (λ h. 1 ≤ h.1) (all_received (record r { taken = taken; received = (k, time) ∷ r.received }))
unfolding all_received
from_one_more r k time taken one all = go (map (λ t. (r.me, t)) r.issued) all
  where
    go : (xs : List (ℕ × ℕ)) → AllByRecursion (λ h. 1 ≤ h.1) (xs ++ r.received) → AllByRecursion (λ h. 1 ≤ h.1) (xs ++ (k, time) ∷ r.received)
    go [] all = (one, all)
    go (x ∷ xs) all = (all.0, go xs all.1)

-- what is issued is above the last time
pub issued_above : (last reading time : ℕ) → issue last reading ≡ Some time → last < time
unfolding issue
issued_above last reading time e = go (last == u64_max) e
  where
    go : (b : Bool) → (if b then None else Some (max reading (last + 1))) ≡ Some time → last < time
    go true e = absurd (cc)
    go false e = let same : max reading (last + 1) ≡ time = cc in omega arith

-- and is issued at that reading, too
pub issued_at_it : (last reading time : ℕ) → issue last reading ≡ Some time → issue last time ≡ Some time
unfolding issue
issued_at_it last reading time e = go (last == u64_max) e
  where
    go : (b : Bool) → (if b then None else Some (max reading (last + 1))) ≡ Some time → (if b then None else Some (max time (last + 1))) ≡ Some time
    go true e = absurd (cc)
    go false e = let same : max reading (last + 1) ≡ time = cc in let m : max time (last + 1) ≡ time = omega arith in ap (λ t. Some t) m
