-- Properties of replicas' states imply those of their logs.
use Rattle.std.proofs.Common.{◌≡◌, ℕ, zero, suc, ◌+◌, ◌<◌, ◌≤◌, Bool, true, false, refl, sym, ◌∙◌, subst, ap, ◌⊎◌, inl, inr, arith, List, [], ◌∷◌, ◌++◌, length, cond, length-append}
use Rattle.std.proofs.lemmas.Bool.{eqb-true, leb-true, and_parts, false≢true, cases_lt}
use Rattle.std.proofs.lemmas.Option.{same_Some, none-some}
use Rattle.std.specs.Prelude.{IsTrue, not, ◌==◌, ◌&&◌, ◌||◌, nat_le, Option, Some, None, find, count_by, option_to_list, slice_get}
use Rattle.std.specs.Option.{option_map_or}
use Rattle.std.specs.List.{list_all}
use Rattle.crsm_spec.specs.Types.{Stamp, Entry, Rec}
use Rattle.crsm_base.specs.Order.{stamp_eq}
use Rattle.crsm_spec.specs.Lists.{Among, first_of}
use Rattle.crsm_spec.specs.Log.{entry_of, Log, decision, known, logged_in, logged, executed, last_stamp, unexecuted, live, suspended, active}
use Rattle.crsm_spec.specs.Paxos.{majority}
use Rattle.crsm_spec.specs.Replica.{Replica, members_of, spec_of}
use Rattle.crsm_spec.specs.Ready.{is_replicated, is_stable, is_next, is_ready, votes_for, voted, reached, all_received}
use Rattle.crsm_spec.specs.Fits.{fits, booted, goes_on}
use Rattle.crsm_fact_log.specs.Logs.{Extends, same, more, AllFit}
use Rattle.crsm_law_collection.specs.Collecting.{CommitOf}
use Rattle.crsm_law_collection.specs.Premises.{Premises, PremisesSuffice}
use Rattle.crsm_fact_log.proofs.Sorted.{le_both, eq_le, above_from}
use Rattle.crsm_fact_log.proofs.Logged.{extends_trans, end_fits, logged_epoch, logged_grows, decide_above}
use Rattle.crsm_fact_log.proofs.Lists.{list_all_at, has_from}
use Rattle.crsm_law_collection.proofs.Orderly.{commit_fit, enter_fit, logged_now, first_from}

-- ---- lists

pub either_part : (xs ys : List Entry) (p : ℕ) (y : Entry) → slice_get (xs ++ ys) p ≡ Some y → (slice_get xs p ≡ Some y) ⊎ ((i : ℕ) × (p ≡ length xs + i) × (slice_get ys i ≡ Some y))
either_part [] ys p y e = inr (p, omega arith, e)
either_part (x ∷ xs) ys zero y e = inl e
either_part (x ∷ xs) ys (suc p) y e = elim (either_part xs ys p y e) [ inl f ↦ inl f | inr r ↦ inr (r.0, omega (arith, r.1), r.2) ]

found_in : (t : Entry → Bool) (xs : List Entry) (y : Entry) → find t xs ≡ Some y → Among xs y × IsTrue (t y)
found_in t [] y e = absurd (none-some y e)
found_in t (x ∷ xs) y e = go (t x) refl e (found_in t xs y)
  where
    go : (b : Bool) → t x ≡ b → cond b (Some x) (find t xs) ≡ Some y → (find t xs ≡ Some y → Among xs y × IsTrue (t y)) → Among (x ∷ xs) y × IsTrue (t y)
    go true f g r = let h = same_Some x y g in (inl h, subst (λ z. IsTrue (t z)) h f)
    go false f g r = let s = r g in (inr s.0, s.1)

only_one : (o : Option Entry) (i : ℕ) (y : Entry) → slice_get (option_to_list o) i ≡ Some y → (i ≡ 0) × (o ≡ Some y)
only_one None i y e = absurd (none-some y e)
only_one (Some x) zero y e = (refl, e)
only_one (Some x) (suc i) y e = absurd (none-some y e)

among_at : (xs : List Entry) (i : ℕ) (y : Entry) → slice_get xs i ≡ Some y → Among xs y
among_at [] i y e = absurd (none-some y e)
among_at (x ∷ xs) zero y e = inl (same_Some x y e)
among_at (x ∷ xs) (suc i) y e = inr (among_at xs i y e)

pub first_with : (s : Stamp) (xs : List Entry) → IsTrue (option_map_or (λ z. stamp_eq z.stamp s) (first_of xs) false) → (z : Entry) × (first_of xs ≡ Some z) × Among xs z × IsTrue (stamp_eq z.stamp s)
unfolding first_of
first_with s [] h = absurd (false≢true h)
first_with s (z ∷ zs) h = (z, refl, inl refl, h)

-- ---- epochs of executed entries

pub adopt_parts : (me n : ℕ) (log : Log) (place : ℕ) (es : List Entry) → IsTrue (fits me n log (Rec.Adopt place es)) → (place ≡ length (executed log)) × IsTrue (list_all (λ e. nat_le e.epoch (known log)) es)
unfolding fits
adopt_parts me n log place es h =
    let a = and_parts _ (not (live log) || suspended log) h in
    let b = and_parts _ (goes_on (executed log) es) a.0 in
    let c = and_parts (booted log && place == length (executed log)) (list_all (λ e. nat_le e.epoch (known log)) es) b.0 in
    let d = and_parts (booted log) (place == length (executed log)) c.0 in
    (eqb-true place (length (executed log)) d.1, c.1)

pub found_logged : (log : Log) (s : Stamp) (i : ℕ) (y : Entry) → slice_get (option_to_list (find (λ e. stamp_eq e.stamp s) (logged log))) i ≡ Some y → (i ≡ 0) × Among (logged log) y × IsTrue (stamp_eq y.stamp s)
found_logged log s i y e =
    let o = only_one (find (λ e. stamp_eq e.stamp s) (logged log)) i y e in
    let f = found_in (λ e. stamp_eq e.stamp s) (logged log) y o.1 in
    (o.0, f.0, f.1)

pub executed_upto : (me n : ℕ) (log : Log) → AllFit me n log → (p : ℕ) (y : Entry) → slice_get (executed log) p ≡ Some y → y.epoch ≤ known log
unfolding known decision executed entry_of logged
executed_upto me n [] h p y e = absurd (none-some y e)
executed_upto me n (Rec.Boot k m ∷ log) h p y e = executed_upto me n log h.1 p y e
executed_upto me n (Rec.Prepare z ∷ log) h p y e = executed_upto me n log h.1 p y e
executed_upto me n (Rec.Commit s ∷ log) h p y e = go (either_part (executed log) _ p y e) (executed_upto me n log h.1 p y)
  where
    go : (slice_get (executed log) p ≡ Some y) ⊎ ((i : ℕ) × (p ≡ length (executed log) + i) × (slice_get (option_to_list (find (λ e. stamp_eq e.stamp s) (logged log))) i ≡ Some y)) → (slice_get (executed log) p ≡ Some y → y.epoch ≤ known log) → y.epoch ≤ known log
    go (inl f) r = r f
    go (inr f) r = let l = logged_epoch (known log) log y (found_logged log s f.0 y f.2).1 in omega (arith, l)
executed_upto me n (Rec.Adopt place es ∷ log) h p y e = go (either_part (executed log) es p y e) (executed_upto me n log h.1 p y)
  where
    go : (slice_get (executed log) p ≡ Some y) ⊎ ((i : ℕ) × (p ≡ length (executed log) + i) × (slice_get es i ≡ Some y)) → (slice_get (executed log) p ≡ Some y → y.epoch ≤ known log) → y.epoch ≤ known log
    go (inl f) r = r f
    go (inr f) r = leb-true y.epoch (known log) (list_all_at (λ e. nat_le e.epoch (known log)) es y (adopt_parts me n log place es h.0).1 (among_at es f.0 y f.2))
executed_upto me n (Rec.Suspend k ∷ log) h p y e = executed_upto me n log h.1 p y e
executed_upto me n (Rec.Promise i b ∷ log) h p y e = executed_upto me n log h.1 p y e
executed_upto me n (Rec.Accept i b d ∷ log) h p y e = executed_upto me n log h.1 p y e
executed_upto me n (Rec.Decide d ∷ log) h p y e =
    let l = executed_upto me n log h.1 p y e in
    let m = decide_above me n log d h.0 in
    omega arith
executed_upto me n (Rec.Enter k ∷ log) h p y e = executed_upto me n log h.1 p y e

-- ---- the commit rule

ready_parts : (r : Replica) (s : Stamp) → IsTrue (is_ready r s) → (majority (length (spec_of r)) ≤ count_by (voted r.votes s) (spec_of r)) × IsTrue (list_all (reached (all_received r) s.time) (members_of r))
unfolding is_ready is_replicated is_stable votes_for
ready_parts r s h =
    let a = and_parts _ (is_next (unexecuted r.log) s) h in
    let b = and_parts (nat_le (majority (length (spec_of r))) (count_by (voted r.votes s) (spec_of r))) (list_all (reached (all_received r) s.time) (members_of r)) a.0 in
    (leb-true _ _ b.0, b.1)

module _ (e n begins : ℕ) (spec member : List ℕ) (logs : ℕ → Log) (h : Premises e n begins spec member logs) where
  here : (p : ℕ) (x : Entry) (c : CommitOf e logs p x) → Among (logged_in e (logs c.by)) x
  unfolding unexecuted
  here p x c =
      let f = first_from (unexecuted c.log) x c.next in
      let a = above_from (last_stamp c.log) (logged c.log) x (subst (λ zs. Among zs x) (sym f.1) (inl refl)) in
      logged_grows e x (extends_trans (more (Rec.Commit x.stamp) same) c.kept) (subst (λ zs. Among zs x) (logged_now c.log e c.epoch) a.0)

  replicated : (p : ℕ) (x : Entry) → CommitOf e logs p x → (test : ℕ → Bool) × (majority (length spec) ≤ count_by test spec) × ((k : ℕ) → IsTrue (test k) → Among (logged_in e (logs k)) x)
  replicated p x c =
      let w = h.made p x c in
      let r = ready_parts w.replica x.stamp w.ready in (
        voted w.replica.votes x.stamp,
        subst (λ ks. majority (length ks) ≤ count_by (voted w.replica.votes x.stamp) ks) w.spec_is r.0,
        λ k t. let v = w.votes x.stamp k t in
            subst (Among (logged_in e (logs k))) (h.one k c.by v.0 x v.2 (here p x c) v.1) v.2,
      )

  stable : (p : ℕ) (x : Entry) (c : CommitOf e logs p x) (k : ℕ) (y : Entry) → Among (logged_in e (logs k)) y → y.stamp.time ≤ x.stamp.time → Among (logged_in e c.log) y
  stable p x c k y m l =
      let w = h.made p x c in
      let r = ready_parts w.replica x.stamp w.ready in
      let o = h.origin k y m in
      let j = y.stamp.origin in
      let t = list_all_at (reached (all_received w.replica) x.stamp.time) (members_of w.replica) j r.1 (subst (λ ks. Among ks j) (sym w.members_are) (has_from member j o.0)) in
      elim (w.later x.stamp.time j t y o.1 refl) [ inl i ↦ w.received x.stamp.time j t y i refl l | inr i ↦ absurd (omega arith) ]

  -- ---- lists

  -- a live replica has executed the start
  long : (k : ℕ) (log : Log) → Extends log (logs k) → known log ≡ e → IsTrue (live log) → begins ≤ length (executed log)
  unfolding known decision executed entry_of live
  long k [] x knows t = absurd (false≢true t)
  long k (Rec.Boot me m ∷ log) x knows t = absurd (false≢true t)
  long k (Rec.Prepare z ∷ log) x knows t = long k log (extends_trans (more (Rec.Prepare z) same) x) knows t
  long k (Rec.Commit s ∷ log) x knows t =
      let l = long k log (extends_trans (more (Rec.Commit s) same) x) knows t in
      let m = length-append (executed log) (option_to_list (find (λ e. stamp_eq e.stamp s) (logged log))) in omega (arith, l, m)
  long k (Rec.Adopt place es ∷ log) x knows t =
      let l = long k log (extends_trans (more (Rec.Adopt place es) same) x) knows t in
      let m = length-append (executed log) es in omega (arith, l, m)
  long k (Rec.Suspend y ∷ log) x knows t = long k log (extends_trans (more (Rec.Suspend y) same) x) knows t
  long k (Rec.Promise i b ∷ log) x knows t = long k log (extends_trans (more (Rec.Promise i b) same) x) knows t
  long k (Rec.Accept i b d ∷ log) x knows t = long k log (extends_trans (more (Rec.Accept i b d) same) x) knows t
  long k (Rec.Decide d ∷ log) x knows t = absurd (false≢true t)
  long k (Rec.Enter y ∷ log) x knows t =
      let f = enter_fit k n log y (end_fits k n x (h.fit k)).0 in
      let g = h.begin k log (extends_trans (more (Rec.Enter y) same) x) knows in
      omega (arith, f, g)

  commit_long : (p : ℕ) (x : Entry) (c : CommitOf e logs p x) → begins ≤ p
  unfolding active
  commit_long p x c =
      let a = commit_fit c.by n c.log x.stamp (end_fits c.by n c.kept (h.fit c.by)).0 in
      let l = long c.by c.log (extends_trans (more (Rec.Commit x.stamp) same) c.kept) c.epoch (and_parts (live c.log) (not (suspended c.log)) a.0).0 in
      omega (arith, c.place_is)

  -- a commit that is on record
  committed : (k : ℕ) (log : Log) (s : Stamp) (y : Entry) → Extends (Rec.Commit s ∷ log) (logs k) → known log ≡ e → Among (logged log) y → IsTrue (stamp_eq y.stamp s) → CommitOf e logs (length (executed log)) y
  unfolding unexecuted
  committed k log s y x knows m t =
      let f = commit_fit k n log s (end_fits k n x (h.fit k)).0 in
      let z = first_with s (unexecuted log) f.1 in
      let in_log : (w : Entry) → Among (logged log) w → Among (logged_in e (logs k)) w = λ w i. logged_grows e w (extends_trans (more (Rec.Commit s) same) x) (subst (λ zs. Among zs w) (logged_now log e knows) i) in
      let a = eq_le z.0.stamp s z.3 in
      let b = eq_le y.stamp s t in
      let stamps : z.0.stamp ≡ y.stamp = le_both z.0.stamp s a.0 a.1 ∙ sym (le_both y.stamp s b.0 b.1) in
      let is : z.0 ≡ y = h.one k k z.0 y (in_log z.0 (above_from (last_stamp log) (logged log) z.0 z.2).0) (in_log y m) stamps in
      record { by = k; log = log; kept = subst (λ u. Extends (Rec.Commit u ∷ log) (logs k)) (sym (le_both y.stamp s b.0 b.1)) x; epoch = knows; next = z.1 ∙ ap Some is; place_is = refl }

  -- what is executed of the known epoch was committed there
  came : (k : ℕ) (log : Log) → Extends log (logs k) → known log ≡ e → (p : ℕ) (y : Entry) → slice_get (executed log) p ≡ Some y → y.epoch ≡ e → CommitOf e logs p y
  unfolding known decision executed entry_of
  came k [] x knows p y f g = absurd (none-some y f)
  came k (Rec.Boot me m ∷ log) x knows p y f g = came k log (extends_trans (more (Rec.Boot me m) same) x) knows p y f g
  came k (Rec.Prepare z ∷ log) x knows p y f g = came k log (extends_trans (more (Rec.Prepare z) same) x) knows p y f g
  came k (Rec.Commit s ∷ log) x knows p y f g = go (either_part (executed log) _ p y f) (λ i. came k log (extends_trans (more (Rec.Commit s) same) x) knows p y i g)
    where
      go : (slice_get (executed log) p ≡ Some y) ⊎ ((i : ℕ) × (p ≡ length (executed log) + i) × (slice_get (option_to_list (find (λ e. stamp_eq e.stamp s) (logged log))) i ≡ Some y)) → (slice_get (executed log) p ≡ Some y → CommitOf e logs p y) → CommitOf e logs p y
      go (inl i) r = r i
      go (inr i) r =
          let o = found_logged log s i.0 y i.2 in
          let here : length (executed log) ≡ p = omega (arith, i.1, o.0) in
          subst (λ q. CommitOf e logs q y) here (committed k log s y x knows o.1 o.2)
  came k (Rec.Adopt place es ∷ log) x knows p y f g = go (either_part (executed log) _ p y f) (λ i. came k log (extends_trans (more (Rec.Adopt place es) same) x) knows p y i g)
    where
      go : (slice_get (executed log) p ≡ Some y) ⊎ ((i : ℕ) × (p ≡ length (executed log) + i) × (slice_get es i ≡ Some y)) → (slice_get (executed log) p ≡ Some y → CommitOf e logs p y) → CommitOf e logs p y
      go (inl i) r = r i
      go (inr i) r =
          let o = adopt_parts k n log place es (end_fits k n x (h.fit k)).0 in
          let here : place + i.0 ≡ p = omega (arith, i.1, o.0) in
          subst (λ q. CommitOf e logs q y) here (h.adopted k log place es x knows i.0 y i.2 g)
  came k (Rec.Suspend z ∷ log) x knows p y f g = came k log (extends_trans (more (Rec.Suspend z) same) x) knows p y f g
  came k (Rec.Promise i b ∷ log) x knows p y f g = came k log (extends_trans (more (Rec.Promise i b) same) x) knows p y f g
  came k (Rec.Accept i b d ∷ log) x knows p y f g = came k log (extends_trans (more (Rec.Accept i b d) same) x) knows p y f g
  came k (Rec.Decide d ∷ log) x knows p y f g =
      let fit = end_fits k n x (h.fit k) in
      let l = executed_upto k n log fit.1 p y f in
      let m = decide_above k n log d fit.0 in
      absurd (omega (arith, l, m, g, knows))
  came k (Rec.Enter z ∷ log) x knows p y f g = came k log (extends_trans (more (Rec.Enter z) same) x) knows p y f g

  before : (k : ℕ) (log : Log) → Extends log (logs k) → known log ≡ e → (p : ℕ) (y : Entry) → p < begins → slice_get (executed log) p ≡ Some y → y.epoch < e
  before k log x knows p y l f = go (cases_lt y.epoch e)
    where
      go : (y.epoch < e) ⊎ (e ≤ y.epoch) → y.epoch < e
      go (inl m) = m
      go (inr m) =
          let u = executed_upto k n log (end_fits k n x (h.fit k)) p y f in
          let g : y.epoch ≡ e = omega (arith, u, knows) in
          let c = commit_long p y (came k log x knows p y f g) in absurd (omega arith)

  behind : (k : ℕ) (log : Log) → Extends log (logs k) → known log ≡ e → (p : ℕ) (y : Entry) → begins ≤ p → slice_get (executed log) p ≡ Some y → CommitOf e logs p y
  behind k log x knows p y l f = go (cases_lt y.epoch e)
    where
      go : (y.epoch < e) ⊎ (e ≤ y.epoch) → CommitOf e logs p y
      go (inl m) = let o = h.older k log x p y f m in absurd (omega arith)
      go (inr m) =
          let u = executed_upto k n log (end_fits k n x (h.fit k)) p y f in
          came k log x knows p y f (omega (arith, u, knows))

pub premises_suffice : PremisesSuffice
premises_suffice e n begins spec member logs h =
    record {
      fit = h.fit;
      begin = h.begin;
      replicated = replicated e n begins spec member logs h;
      one = h.one;
      stable = stable e n begins spec member logs h;
      before = before e n begins spec member logs h;
      behind = behind e n begins spec member logs h;
    }
