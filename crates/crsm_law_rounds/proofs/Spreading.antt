-- After one calm round each member has logged what was submitted, and its links are short.
use Rattle.std.proofs.Common.{◌≡◌, ℕ, ◌+◌, ◌≤◌, List, [], length, refl, sym, ◌∙◌, ap, subst, inl, inr, true, arith, length-append}
use Rattle.std.specs.Prelude.{IsTrue, Some, slice_get, Contains, count_by, ◌==◌}
use Rattle.std.specs.List.{enumerate_from}
use Rattle.std.proofs.lemmas.Bool.{cases_eq}
use Rattle.std.proofs.lemmas.Option.{same_Some}
use Rattle.std.proofs.lemmas.List.{length-drop}
use Rattle.std.proofs.lemmas.List.FromFn.{length-enumerate_from}
use Rattle.std.proofs.lemmas.List.Sums.{count_by-le-length}
use Rattle.crsm_spec.specs.Types.{Entry, Rec, InEpoch, Datagram}
use Rattle.crsm_spec.specs.Lists.{Among, has}
use Rattle.crsm_spec.specs.Log.{known, members, active, executed}
use Rattle.crsm_spec.specs.Replica.{Replica, other_members, frames_to, next_from, acked_by, unacked}
use Rattle.crsm_spec.specs.Step.{Input, step}
use Rattle.crsm_spec.specs.World.{Site, World, log_at}
use Rattle.crsm_spec.specs.Calm.{IsOpen}
use Rattle.crsm_fact_log.specs.Logs.{Logged}
use Rattle.crsm_fact_log.proofs.Lists.{all_at, get_inside, has_in}
use Rattle.crsm_law_epoch.specs.Numbers.{Distinct}
use Rattle.crsm_law_epoch.specs.Seats.{seat_up, pushed_to, taken_of}
use Rattle.crsm_law_epoch.specs.Worlds.{sent_in}
use Rattle.crsm_law_epoch.proofs.Worlds.{log_there}
use Rattle.crsm_law_agreement.proofs.Choice.{contains_among}
use Rattle.crsm_law_bounds.specs.Bounds.{IsSpelt}
use Rattle.crsm_law_runs.proofs.DurableLists.{among_contains}
use Rattle.crsm_law_active.proofs.Staying.{steps_stay}
use Rattle.crsm_law_rounds.specs.Rounds.{GoesCalmly}
use Rattle.crsm_law_rounds.specs.Members.{IsMemberUp, AllUp}
use Rattle.crsm_law_rounds.proofs.Growing.{IsLater, later_then, logged_on, grows_extends, grows_own, grows_new, grows_epoch, grows_set, acked_later, IsSet}
use Rattle.crsm_law_rounds.proofs.Going.{up_one, stays_later, calm_later, calm_sent}
use Rattle.crsm_law_rounds.proofs.Links.{facts, numbers, seat_log, sends, receives, counted, fit, members_are, origin_member, sent_at}
use Rattle.crsm_law_rounds.proofs.Round.{RoundDone, other_is, is_other}
use Rattle.crsm_law_rounds.proofs.Pigeons.{pigeons}
use Rattle.crsm_law_rounds.proofs.Executed.{executed_is_logged}

-- ---- a member and what it was

-- the member was this one in a world before
pub record WasMember (e : ℕ) (ms : List ℕ) (most : ℕ) (v : World) (k : ℕ) (r : Replica) : Type 0 where
  pub replica : Replica
  pub was : IsMemberUp e ms v k replica
  pub ticks : ℕ
  pub few : ticks ≤ most
  pub later : IsLater ticks replica r

-- each member of w was one of v
abbrev pub AllWere : ℕ → List ℕ → ℕ → World → World → Type 0
AllWere e ms most v w = (k : ℕ) (r : Replica) → Among ms k → IsMemberUp e ms w k r → WasMember e ms most v k r

pub were_then : (e : ℕ) (ms : List ℕ) (a b : ℕ) (u v w : World) → AllWere e ms a u v → AllWere e ms b v w → AllWere e ms (b + a) u w
were_then e ms a b u v w p q k r m x =
    let y = q k r m x in
    let z = p k y.replica m y.was in
    record { replica = z.replica; was = z.was; ticks = y.ticks + z.ticks; few = (let i = y.few in let j = z.few in omega (arith, i, j)); later = later_then z.later y.later }

-- by calm moments in which each ticks so often at most
pub were_calm : (n e : ℕ) (ms : List ℕ) (v w : World) (ts : List ℕ) (most : ℕ) → AllUp n e ms v → GoesCalmly (λ k. Among ms k) v ts w → ((j : ℕ) → count_by (λ i. i == j) ts ≤ most) → AllWere e ms most v w
were_calm n e ms v w ts most h g once k r m x =
    let o = h.member k m in
    let s = calm_later (λ k. Among ms k) v k o.0 m o.1.up g in
    let one = up_one s.replica r (same_Some _ _ (sym s.up ∙ x.up)) in
    record { replica = o.0; was = o.1; ticks = count_by (λ i. i == k) ts; few = once k; later = subst (IsLater (count_by (λ i. i == k) ts) o.0) one s.later }

none_ticks : (j : ℕ) → count_by (λ i. i == j) [] ≤ 0
none_ticks j = omega arith

module _ (n e : ℕ) (t : ℕ → ℕ) (ms : List ℕ) (v v1 v2 : World) (h : AllUp n e ms v) (d : RoundDone n e t ms v v1 v2) where
  pub were1 : AllWere e ms 1 v v1
  were1 k r m x =
      let o = h.member k m in
      let one = up_one _ r (same_Some _ _ (sym (d.ticked k o.0 m o.1).up ∙ x.up)) in
      record { replica = o.0; was = o.1; ticks = 1; few = omega arith; later = subst (IsLater 1 o.0) one (stays_later 1 o.0 (step o.0 Input.Ticked (t k)) (steps_stay o.0 Input.Ticked (t k) o.1.runs)) }

  pub were2 : AllWere e ms (0 + 1) v v2
  were2 = were_then e ms 1 0 v v1 v2 were1 (were_calm n e ms v1 v2 [] 0 d.up1 d.goes2 none_ticks)

  pub sent_on : (x : Datagram) → Among (sent_in v1) x → Among (sent_in v2) x
  sent_on x a = calm_sent (λ k. Among ms k) v1 d.goes2 x a

-- ---- entries

-- an entry of the epoch is logged at its origin in v, a member
pub record IsSubmitted (e : ℕ) (ms : List ℕ) (v : World) (f : Entry) : Type 0 where
  pub epoch : f.epoch ≡ e
  pub member : Among ms f.stamp.origin
  pub replica : Replica
  pub up : IsMemberUp e ms v f.stamp.origin replica
  pub logged : Logged replica.log f

-- nothing is submitted in calm moments: what a member has logged of the epoch was submitted before
pub was_submitted : (n e : ℕ) (ms : List ℕ) (most : ℕ) (v w : World) → AllUp n e ms v → AllUp n e ms w → AllWere e ms most v w → (k : ℕ) (r : Replica) → Among ms k → IsMemberUp e ms w k r → (f : Entry) →
    Logged r.log f → f.epoch ≡ e → IsSubmitted e ms v f
was_submitted n e ms most v w hv hw were k r m mr f l ep =
    let member = origin_member n e ms w hw k r mr f l ep in
    let o = hw.member f.stamp.origin member in
    let own = (facts n e ms w hw).own k f (subst (λ z. Logged z f) (sym (seat_log n e ms w hw k r mr)) l) in
    let here = subst (λ z. Logged z f) (seat_log n e ms w hw f.stamp.origin o.0 o.1) own in
    let b = were f.stamp.origin o.0 member o.1 in
    let me = (numbers n e ms v hv f.stamp.origin b.replica b.was).0 in
    record { epoch = ep; member = member; replica = b.replica; up = b.was; logged = grows_own b.replica.me b.later.log f (sym me) here }

module _ (n e : ℕ) (t : ℕ → ℕ) (ms : List ℕ) (v v1 v2 : World) (h : AllUp n e ms v) (d : RoundDone n e t ms v v1 v2) where
  -- Each member has logged, after the round, what was submitted before.
  pub spreads : (f : Entry) → IsSubmitted e ms v f → (j : ℕ) (q : Replica) → Among ms j → IsMemberUp e ms v2 j q → Logged q.log f
  unfolding seat_up pushed_to frames_to taken_of next_from
  spreads f s j q in_j mj = elim (cases_eq f.stamp.origin j) [
    | inl own ↦ (let b = were2 n e t ms v v1 v2 h d j q in_j mj in
        let one = up_one s.replica b.replica (same_Some _ _ (sym s.up.up ∙ subst (λ z. slice_get v.sites z ≡ Some (Site.Up b.replica)) (sym own) b.was.up)) in
        logged_on f (grows_extends b.replica.me b.later.log) (subst (λ (z : Replica). Logged z.log f) one s.logged))
    | inr ne ↦ there ne
  ]
    where
      there : (f.stamp.origin ≡ j → ⊥) → Logged q.log f
      there ne =
          let o = f.stamp.origin in
          let r = d.up1.member o s.member in
          let b = were1 n e t ms v v1 v2 h d o r.0 s.member r.1 in
          let one = up_one s.replica b.replica (same_Some _ _ (sym s.up.up ∙ b.was.up)) in
          let logged1 = logged_on f (grows_extends b.replica.me b.later.log) (subst (λ (z : Replica). Logged z.log f) one s.logged) in
          let other : IsTrue (has (members n r.0.log) j) × (j ≡ o → ⊥) = (subst (λ z. IsTrue (has z j)) (sym (members_are n e ms v1 d.up1 o r.0 r.1)) (has_in ms j in_j), λ z. ne (sym z)) in
          let told = (sends n e ms v1 d.up1 o r.0 r.1).told f logged1 refl (s.epoch ∙ sym r.1.knows) j other in
          let within = get_inside (frames_to r.0 j) told.0 (InEpoch.Prepare f) told.1 in
          let come = d.come o j r.0 q s.member in_j ne r.1 mj in
          let sent = sent_on n e t ms v v1 v2 h d _ (sent_at n e ms v1 d.up1 o r.0 r.1 j told.0 (InEpoch.Prepare f) told.1) in
          (receives n e ms v2 d.up2 j q mj).has_it o told.0 f (omega (arith, within, come)) (subst (λ z. Among (sent_in v2) (Datagram.Frame o j z told.0 (InEpoch.Prepare f))) (sym mj.knows) sent)

-- ---- how many frames are pushed

-- what is calm of v, with its lists as facts by recursion
pub record CalmStart (e : ℕ) (ms : List ℕ) (v : World) : Type 0 where
  pub links : (k j : ℕ) (r : Replica) → IsMemberUp e ms v k r → Among ms j → length (unacked r j) ≤ 16
  pub owed : (k : ℕ) (r : Replica) → IsMemberUp e ms v k r → Among ms k → length r.owed ≤ 16
  pub entries : List Entry
  pub all_open : (f : Entry) → IsOpen e ms v f → Among entries f
  pub few_open : length entries ≤ 16

pub unacked_length : (r : Replica) (j : ℕ) → acked_by r j ≤ length (frames_to r j) → length (unacked r j) + acked_by r j ≡ length (frames_to r j)
unfolding unacked
unacked_length r j le =
    let a = length-drop (acked_by r j) (enumerate_from 0 (frames_to r j)) in
    let b = length-enumerate_from 0 (frames_to r j) in
    omega (arith, a, b, le)

module _ (n e : ℕ) (t : ℕ → ℕ) (ms : List ℕ) (distinct : Distinct ms) (small : (k : ℕ) → Among ms k → k ≤ 14) (v v1 v2 : World) (h : AllUp n e ms v) (spelt : IsSpelt n v) (c : CalmStart e ms v)
    (d : RoundDone n e t ms v v1 v2) (k : ℕ) (in_k : Among ms k) (r2 : Replica) (m2 : IsMemberUp e ms v2 k r2) where
  was : WasMember e ms (0 + 1) v k r2
  was = were2 n e t ms v v1 v2 h d k r2 in_k m2

  abbrev r : Replica
  r = was.replica

  new : IsSet was.later.entries × ((f : Entry) → Among was.later.entries f → Logged r.log f → ⊥)
  new = grows_set r.me k n was.later.log (fit n e ms v2 d.up2 k r2 m2)

  log_is : log_at v k ≡ r.log
  log_is = log_there v k r was.was.up

  -- what is new at a member was open
  is_open : (f : Entry) → Among was.later.entries f → IsOpen e ms v f
  is_open f a =
      let ep : f.epoch ≡ e = grows_epoch r.me k n was.later.log (fit n e ms v2 d.up2 k r2 m2) f a ∙ was.was.knows in
      let s = was_submitted n e ms (0 + 1) v v2 h d.up2 (were2 n e t ms v v1 v2 h d) k r2 in_k m2 f (grows_new r.me was.later.log f a) ep in
      record {
        epoch = ep;
        by = f.stamp.origin;
        member = contains_among ms f.stamp.origin s.member;
        logged = contains_among (log_at v f.stamp.origin) (Rec.Prepare f) (subst (λ l. Logged l f) (sym (log_there v f.stamp.origin s.replica s.up.up)) s.logged);
        unfinished = λ all. new.1 f a (not_yet f ep (among_contains (executed (log_at v k)) f (all_at (λ i. Contains (executed (log_at v i)) f) ms k all in_k)));
      }
    where
      not_yet : (f : Entry) → f.epoch ≡ e → Among (executed (log_at v k)) f → Logged r.log f
      not_yet f ep x = subst (λ l. Logged l f) log_is
          (executed_is_logged n v h.reached spelt k (subst (λ l. IsTrue (active l)) (sym log_is) was.was.runs) f x (ep ∙ sym (ap known log_is ∙ was.was.knows)))

  few_new : length was.later.entries ≤ 16
  few_new =
      let p = pigeons (λ x. true) was.later.entries c.entries new.0 (λ f a. (c.all_open f (is_open f a), refl)) in
      let q = all_counted c.entries in
      let m = c.few_open in
      omega (arith, p, q, m)
    where
      all_counted : (xs : List Entry) → count_by (λ x. true) xs ≤ length xs
      all_counted xs = count_by-le-length (λ x. true) xs

  issued_rises : length r.issued ≤ length r2.issued
  issued_rises = (let a = ap (λ (l : List ℕ). length l) was.later.issued.1 in let b = length-append was.later.issued.0 r.issued in omega (arith, a, b))

  -- few stamps are owed after the round
  pub few_owed : length r2.owed ≤ 33
  few_owed =
      let times = was.later.times in
      let owed = c.owed k r was.was in_k in
      let entries = few_new in
      let ticks = was.few in
      let issued = issued_rises in
      omega (arith, times, owed, entries, ticks, issued)

  -- and links are short
  pub short_link : (j : ℕ) → Among (other_members r2) j → length (unacked r2 j) ≤ 49
  short_link j o =
      let mine = numbers n e ms v2 d.up2 k r2 m2 in
      let other = other_is n e ms distinct small v2 k j r2 m2 mine.0 o in
      let in_j = other.0 in
      let o1 = is_other n e ms distinct small v k j r was.was (numbers n e ms v h k r was.was).0 in_j other.1 in
      let even2 = (counted n e ms v2 d.up2 k r2 m2).even j o in
      let even1 = (counted n e ms v h k r was.was).even j o1 in
      let l2 = unacked_length r2 j ((counted n e ms v2 d.up2 k r2 m2).pushed j) in
      let l1 = unacked_length r j ((counted n e ms v h k r was.was).pushed j) in
      let first = c.links k j r was.was in_j in
      let acked = acked_later r r2 j was.later.acked in
      let times = was.later.times in
      let owed = c.owed k r was.was in_k in
      let entries = few_new in
      let ticks = was.few in
      omega (arith, even2, even1, l2, l1, first, acked, times, owed, entries, ticks)
