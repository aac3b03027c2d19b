-- The log that is claimed, and the boot on it.
use Rattle.std.proofs.Common.{◌≡◌, inl, inr, ⊎_elim, IsTrue, Bool, true, false, nat_lt, ℕ, ◌<◌, ◌≤◌, List, [], ◌∷◌, refl, sym, ◌∙◌, ap, subst, arith}
use Rattle.std.specs.Prelude.{Option}
use Rattle.crsm_base.specs.declared.limits.TheConstants.{MAX_LOG_BYTES}
use Rattle.crsm_disk.specs.Meaning.{LeavesOnly, Meaning}
use Rattle.crsm_port_faults.specs.Counts.{Rose}
use Rattle.crsm_ledger.specs.Recovered.{AreKept, IsBadAt}
use Rattle.crsm_log.specs.Claim.{Claims, IsClaimedOrBefore, RefusesClaim}
use Rattle.crsm_log.specs.Format.{bodies_in, bodies_of, found, reading}
use Rattle.crsm_log.specs.Log.{Goes}
use Rattle.crsm_log.specs.declared.errors.ClaimError.{ClaimError}
use Rattle.crsm_log.specs.declared.errors.ClaimError.TheVariants as claims
use Rattle.crsm_spec.specs.Choice.{when◌then◌otherwise◌}
use Rattle.crsm_spec.specs.Draft.{begun, keep}
use Rattle.crsm_spec.specs.Log.{Log}
use Rattle.crsm_spec.specs.Replica.{fresh}
use Rattle.crsm_spec.specs.Step.{boot, boot_again, first_boot, founding_boot}
use Rattle.crsm_shell.specs.Booting.{IsBadLog, IsLeftByBoot, RefusesBoot}
use Rattle.crsm_shell.specs.Shell.{HasLog}
use Rattle.crsm_shell.specs.declared.errors.BootError.{BootError}
use Rattle.crsm_shell.specs.declared.errors.BootError.TheVariants as boots
use Rattle.crsm_node.specs.Errors.{boot_end, claim_end}
use Rattle.crsm_node.specs.Running.{IsLeftAtStart, StaysOut, unlent_disk}
use Rattle.crsm_node.specs.declared.errors.NodeEnd.{NodeEnd}
use Rattle.crsm_node.specs.declared.errors.NodeEnd.TheVariants as ends
use Rattle.crsm_node.specs.declared.order.NodeOrder.{NodeOrder}
use Rattle.crsm_node.proofs.Disks.{runs_on}

-- ---- whoever lends a disk

pub unlent_goes : (m n : Meaning) → m.honest ≡ n.honest → m.fill ≡ n.fill → n.faults ≤ m.faults → Goes (unlent_disk n) (unlent_disk m)
unlent_goes m n honest fill later = record { honest = honest; fill = fill; borrowed_as = refl; later = later }

pub unlent_run : (m n : Meaning) (P : List ℕ → Type 0) → LeavesOnly m n P → LeavesOnly (unlent_disk m) (unlent_disk n) P
unlent_run m n P run = record { later = run.later; each = run.each; before = run.before }

pub runs_weaker : (m n : Meaning) (P Q : List ℕ → Type 0) → LeavesOnly m n P → ((c : List ℕ) → P c → Q c) → LeavesOnly m n Q
runs_weaker m n P Q run implies = record {
  later = run.later;
  each = λ c left. implies c (run.each c left);
  before = λ t c le left. ⊎_elim (λ was. inl was) (λ p. inr (implies c p)) (run.before t c le left);
}

left_unlent : (order : NodeOrder) (m : Meaning) (file : List ℕ) → IsLeftAtStart order m file → IsLeftAtStart order (unlent_disk m) file
left_unlent order m file h = h

unlent_left : (order : NodeOrder) (m n : Meaning) → LeavesOnly m n (IsLeftAtStart order m) → LeavesOnly (unlent_disk m) (unlent_disk n) (IsLeftAtStart order (unlent_disk m))
unlent_left order m n run = unlent_run m n (IsLeftAtStart order (unlent_disk m)) (runs_weaker m n (IsLeftAtStart order m) (IsLeftAtStart order (unlent_disk m)) run (left_unlent order m))

unlent_out : (order : NodeOrder) (m n : Meaning) (end : NodeEnd) → StaysOut order m n end → StaysOut order (unlent_disk m) (unlent_disk n) end
unlent_out order m n ends.DiskFault h = h
unlent_out order m n (ends.BadLog entry why) h = h
unlent_out order m n (ends.OtherCluster other) h = h
unlent_out order m n ends.LogFull h = h
unlent_out order m n ends.NoMemory h = h
unlent_out order m n ends.Done h = h
unlent_out order m n ends.PortFault h = h
unlent_out order m n ends.WriteFault h = h

-- ---- files that read the same

pub same_bodies : (a b : List ℕ) → reading a ≡ reading b → bodies_of a ≡ bodies_of b
same_bodies a b is = ap bodies_in is

pub same_log : (order : NodeOrder) (a b : List ℕ) (log : Log) → reading a ≡ reading b → HasLog order.me order.n a log → HasLog order.me order.n b log
unfolding HasLog
same_log order a b log is h =
    let bodies = same_bodies a b is in record {
      whole = sym is ∙ h.whole ∙ ap found bodies;
      kept = subst (λ (xs : List (List ℕ)). AreKept order.me order.n [] xs log) bodies h.kept;
    }

same_bad : (order : NodeOrder) (a b : List ℕ) (entry why : ℕ) → reading a ≡ reading b → IsBadLog order.me order.n a entry why → IsBadLog order.me order.n b entry why
same_bad order a b entry why is (inl h) = inl (h.0, sym is ∙ h.1)
same_bad order a b entry why is (inr h) =
    let bodies = same_bodies a b is in
    inr (sym is ∙ h.0 ∙ ap found bodies, subst (λ (xs : List (List ℕ)). IsBadAt order.me order.n xs entry why) bodies h.1)

-- ---- a disk of a node that is not booted

-- what was done to it, and why the node is not booted
pub record StaysDown (order : NodeOrder) (old new : Meaning) (end : NodeEnd) : Type 0 where
  pub out : StaysOut order old new end
  pub goes : Goes old new
  pub stays : IsTrue old.honest → (end ≡ ends.DiskFault → ⊥) → reading new.seen ≡ reading old.seen
  pub any_moment : IsTrue old.honest → LeavesOnly old new (IsLeftAtStart order old)

claim_left : (order : NodeOrder) (m : Meaning) (file : List ℕ) → IsClaimedOrBefore m order.cluster file → IsLeftAtStart order m file
claim_left order m file (inl was) = inl (inl was)
claim_left order m file (inr claimed) = inl (inr claimed.bodies)

claim_out : (order : NodeOrder) (m n : Meaning) (why : ClaimError) → (why ≡ claims.DiskFault → Rose m.faults n.faults) → (IsTrue m.honest → RefusesClaim m n order.cluster why) → StaysOut order m n (claim_end why)
claim_out order m n claims.DiskFault fault refuses = fault refl
claim_out order m n (claims.BadGate entry) fault refuses = λ honest. inl (refl, (refuses honest).bad_gate entry refl)
claim_out order m n (claims.OtherCluster other) fault refuses = λ honest. (refuses honest).other other refl
claim_out order m n (claims.Full end) fault refuses = λ honest. let f = (refuses honest).full end refl in inl (f.0, f.1, subst (λ k. MAX_LOG_BYTES < k) f.2 f.3)
claim_out order m n claims.NoMemory fault refuses = tt

is_fault : (why : ClaimError) → why ≡ claims.DiskFault → claim_end why ≡ ends.DiskFault
is_fault why is = ap claim_end is

pub claim_refused : (order : NodeOrder) (m n : Meaning) (why : ClaimError) → Goes m n → (why ≡ claims.DiskFault → Rose m.faults n.faults) → (IsTrue m.honest → RefusesClaim m n order.cluster why) →
    (IsTrue m.honest → LeavesOnly m n (IsClaimedOrBefore m order.cluster)) → StaysDown order (unlent_disk m) (unlent_disk n) (claim_end why)
claim_refused order m n why goes fault refuses left = record {
  out = unlent_out order m n (claim_end why) (claim_out order m n why fault refuses);
  goes = unlent_goes n m goes.honest goes.fill goes.later;
  stays = λ honest other. ap reading ((refuses honest).unwritten (λ is. other (is_fault why is)));
  any_moment = λ honest. unlent_left order m n (runs_weaker m n (IsClaimedOrBefore m order.cluster) (IsLeftAtStart order m) (left honest) (claim_left order m));
}

-- ---- a boot that is refused behind a claim

boot_out : (order : NodeOrder) (m n o : Meaning) (why : BootError) → m.faults ≤ n.faults → (IsTrue m.honest → IsTrue n.honest) → (IsTrue m.honest → Claims m n order.cluster) → RefusesBoot order.me order.n n o why → StaysOut order m o (boot_end why)
boot_out order m n o boots.DiskFault later trusts claimed refuses = let rose = refuses.fault refl in omega (arith, later, rose)
boot_out order m n o boots.LogFull later trusts claimed refuses = λ honest. inr (n.seen, (claimed honest).bodies, (claimed honest).names, refuses.full (trusts honest) refl)
boot_out order m n o (boots.BadLog entry why) later trusts claimed refuses = λ honest. same_bad order (n.seen) m.seen entry why (claimed honest).bodies (refuses.bad_log (trusts honest) entry why refl)
boot_out order m n o boots.NoMemory later trusts claimed refuses = tt

boot_fault : (why : BootError) → why ≡ boots.DiskFault → boot_end why ≡ ends.DiskFault
boot_fault why is = ap boot_end is

-- what a crash leaves of a boot behind a claim
boot_left : (order : NodeOrder) (m n : Meaning) → Claims m n order.cluster → ((file : List ℕ) → n.may_leave file → IsLeftAtStart order m file) → (file : List ℕ) → IsLeftByBoot order.me order.n n file → IsLeftAtStart order m file
boot_left order m n claimed before file (inl (inl was)) = before file was
boot_left order m n claimed before file (inl (inr reads)) = inl (inr (reads ∙ claimed.bodies))
boot_left order m n claimed before file (inr h) =
    inr (n.seen, claimed.bodies, h)

-- a claim, and then a boot
pub start_run : (order : NodeOrder) (m n o : Meaning) → Claims m n order.cluster → LeavesOnly m n (IsClaimedOrBefore m order.cluster) → LeavesOnly n o (IsLeftByBoot order.me order.n n) → LeavesOnly m o (IsLeftAtStart order m)
start_run order m n o claimed first second =
    let before : (file : List ℕ) → n.may_leave file → IsLeftAtStart order m file = λ file now. claim_left order m file (first.each file (n.counts_now m.moment file first.later now)) in
    runs_on m n o (IsClaimedOrBefore m order.cluster) (IsLeftByBoot order.me order.n n) (IsLeftAtStart order m) first second (claim_left order m) (boot_left order m n claimed before)

-- a claim is one of a disk that is lent then
pub claims_lent : (m n : Meaning) (cluster : ℕ) (k : Option ℕ) → Claims m n cluster → Claims m (record n { borrowed_as = k }) cluster
claims_lent m n cluster k h = record {
  whole = h.whole;
  open_to = h.open_to;
  bodies = h.bodies;
  names = h.names;
  durable = h.durable;
  history = h.history;
  good = h.good;
}

pub run_lent : (m n : Meaning) (P : List ℕ → Type 0) (k : Option ℕ) → LeavesOnly m n P → LeavesOnly m (record n { borrowed_as = k }) P
run_lent m n P k run = record { later = run.later; each = run.each; before = run.before }

pub boot_refused : (order : NodeOrder) (m n o : Meaning) (why : BootError) → n.honest ≡ m.honest → n.fill ≡ m.fill → m.faults ≤ n.faults → (IsTrue m.honest → Claims m n order.cluster) →
    (IsTrue m.honest → LeavesOnly m n (IsClaimedOrBefore m order.cluster)) → RefusesBoot order.me order.n n o why → (IsTrue n.honest → LeavesOnly n o (IsLeftByBoot order.me order.n n)) →
    StaysDown order (unlent_disk m) (unlent_disk o) (boot_end why)
boot_refused order m n o why trust fill first claimed left refuses left_by =
    let trusts : IsTrue m.honest → IsTrue n.honest = λ honest. subst IsTrue (sym trust) honest in
    let second = refuses.goes.later in
    record {
      out = unlent_out order m o (boot_end why) (boot_out order m n o why first trusts claimed refuses);
      goes = unlent_goes o m (refuses.goes.honest ∙ trust) (refuses.goes.fill ∙ fill) (omega (arith, first, second));
      stays = λ honest other. refuses.stays (trusts honest) (λ is. other (boot_fault why is)) ∙ (claimed honest).bodies;
      any_moment = λ honest. unlent_left order m o (start_run order m n o (claimed honest) (left honest) (left_by (trusts honest)));
    }

-- ---- the replica of a boot

pub boot_mine : (me n : ℕ) (log : Log) → (boot me n log).replica.me ≡ me
unfolding boot first_boot founding_boot boot_again keep begun fresh when◌then◌otherwise◌
boot_mine me n [] = go (nat_lt me n)
  where
    go : (b : Bool) → (when b then founding_boot me n otherwise boot_again me n []).replica.me ≡ me
    go true = refl
    go false = refl
boot_mine me n (rec ∷ log) = refl

-- one of as many
pub boot_of : (me n : ℕ) (log : Log) → (boot me n log).replica.n ≡ n
unfolding boot first_boot founding_boot boot_again keep begun fresh when◌then◌otherwise◌
boot_of me n [] = go (nat_lt me n)
  where
    go : (b : Bool) → (when b then founding_boot me n otherwise boot_again me n []).replica.n ≡ n
    go true = refl
    go false = refl
boot_of me n (rec ∷ log) = refl
