-- Ticks: the clock of an idle replica, and retransmissions.
use Rattle.std.proofs.Common.{◌≡◌, ◌∙◌, ℕ, zero, suc, ◌+◌, ◌<◌, ◌≤◌, refl, ap, sym, length, true, false, arith, List, [], ◌∷◌, take, get_or}
use Rattle.std.specs.Prelude.{not, None, Some, fold}
use Rattle.crsm_base.specs.Limits.{idle_after}
use Rattle.crsm_spec.specs.Types.{InEpoch}
use Rattle.crsm_spec.specs.Choice.{when◌then◌otherwise◌}
use Rattle.crsm_spec.specs.Clock.{u64_max}
use Rattle.crsm_spec.specs.Log.{active}
use Rattle.crsm_spec.specs.Replica.{Replica, last_issued, is_congested, other_members}
use Rattle.crsm_spec.specs.Draft.{Draft, would, issued_at, push_to_members}
use Rattle.crsm_spec.specs.Frames.{is_idle, idle, send_time, again_to, send_again}
use Rattle.crsm_spec.specs.Step.{on_tick, ask_all, renew}
use Rattle.crsm_replica.specs.declared.state.ReplicaState.{ReplicaState}
use Rattle.crsm_replica.specs.Replica.{ReplicaStands}
use Rattle.crsm_core.proofs.Fitting.{stands_as, is_lt, not_lt, is_le, not_le}

-- ---- an idle replica

pub soon : (r : Replica) (reading : ℕ) → reading < last_issued r + idle_after → false ≡ is_idle r reading
unfolding is_idle
soon r reading l = rw (not_le (last_issued r + idle_after) reading l) refl

pub spent : (r : Replica) (reading : ℕ) → last_issued r + idle_after ≤ reading → u64_max ≤ last_issued r → false ≡ is_idle r reading
unfolding is_idle
spent r reading l m = rw (is_le (last_issued r + idle_after) reading l, not_lt (last_issued r) u64_max m) refl

pub waited : (r : Replica) (reading : ℕ) → last_issued r + idle_after ≤ reading → last_issued r < u64_max → not (is_congested r) ≡ is_idle r reading
unfolding is_idle
waited r reading l m = rw (is_le (last_issued r + idle_after) reading l, is_lt (last_issued r) u64_max m) refl

pub not_active : (reading : ℕ) (x : Draft) → active x.replica.log ≡ false → x ≡ idle reading x
unfolding idle when◌then◌otherwise◌
not_active reading x a = rw a refl

pub not_idle : (reading : ℕ) (x : Draft) → active x.replica.log ≡ true → is_idle x.replica reading ≡ false → x ≡ idle reading x
unfolding idle when◌then◌otherwise◌
not_idle reading x a h = rw (a, h) refl

pub no_time : (reading : ℕ) (x : Draft) → active x.replica.log ≡ true → is_idle x.replica reading ≡ true → None ≡ would x reading → x ≡ idle reading x
unfolding idle send_time when◌then◌otherwise◌
no_time reading x a h w = rw (a, h, ← w) refl

pub sends_control : (reading t : ℕ) (x : Draft) → active x.replica.log ≡ true → is_idle x.replica reading ≡ true → Some t ≡ would x reading →
    push_to_members (InEpoch.ClockTime t) (issued_at t x) ≡ idle reading x
unfolding idle send_time when◌then◌otherwise◌
sends_control reading t x a h w = rw (a, h, ← w) refl

-- ---- ticks

pub active_tick : (x : Draft) → active x.replica.log ≡ true → send_again x ≡ on_tick x
unfolding on_tick when◌then◌otherwise◌
active_tick x a = rw a refl

pub quiet_tick : (x : Draft) → active x.replica.log ≡ false → ask_all (renew x.replica.coordinator x) ≡ on_tick x
unfolding on_tick when◌then◌otherwise◌
quiet_tick x a = rw a refl

-- ---- sending again

-- one more of the members
fold_more : (ks : List ℕ) (i : ℕ) (x : Draft) → i < length ks → fold again_to x (take (suc i) ks) ≡ again_to (fold again_to x (take i ks)) (get_or ks i 0)
fold_more [] i x l = absurd (omega arith)
fold_more (k ∷ ks) zero x l = refl
fold_more (k ∷ ks) (suc i) x l = fold_more ks i (again_to x k) (omega arith)

take_whole : (ks : List ℕ) (i : ℕ) → length ks ≤ i → take i ks ≡ ks
take_whole [] zero l = refl
take_whole [] (suc i) l = refl
take_whole (k ∷ ks) zero l = absurd (omega arith)
take_whole (k ∷ ks) (suc i) l = ap (λ js. k ∷ js) (take_whole ks i (omega arith))

pub again_more : (state : ReplicaState) (ks : List ℕ) (i : ℕ) (x : Draft) → i < length ks → ReplicaStands state (again_to (fold again_to x (take i ks)) (get_or ks i 0)) →
    ReplicaStands state (fold again_to x (take (i + 1) ks))
again_more state ks i x l s =
    let e : suc i ≡ i + 1 = omega arith in
    stands_as state (again_to (fold again_to x (take i ks)) (get_or ks i 0)) (fold again_to x (take (i + 1) ks))
    (sym (fold_more ks i x l) ∙ ap (λ j. fold again_to x (take j ks)) e) s

pub again_all : (state : ReplicaState) (ks : List ℕ) (i : ℕ) (x : Draft) → length ks ≤ i → ks ≡ other_members x.replica → ReplicaStands state (fold again_to x (take i ks)) →
    ReplicaStands state (send_again x)
unfolding send_again
again_all state ks i x l e s = stands_as state (fold again_to x (take i ks)) (send_again x) (ap (λ js. fold again_to x js) (take_whole ks i l ∙ e)) s
