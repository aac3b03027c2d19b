-- Each executed entry is logged at its origin, and no list has entries of an earlier epoch after a later epoch's start.
use Rattle.std.proofs.Common.{◌≡◌, ℕ, zero, suc, ◌+◌, ◌-◌, ◌<◌, ◌≤◌, List, [], ◌∷◌, length, refl, sym, ◌∙◌, ap, subst, inl, inr, arith}
use Rattle.std.specs.Prelude.{Option, Some, None, slice_get}
use Rattle.std.specs.Option.{option_map_or}
use Rattle.std.proofs.lemmas.Bool.{cases_lt}
use Rattle.std.proofs.lemmas.Option.{none-some, same_Some}
use Rattle.crsm_spec.specs.Types.{Entry, Decision, Rec}
use Rattle.crsm_spec.specs.Lists.{Among}
use Rattle.crsm_spec.specs.Log.{Log, known, start, decision, executed, logged_in}
use Rattle.crsm_spec.specs.World.{World, log_at}
use Rattle.crsm_fact_log.specs.Logs.{Extends, Logged, same, more}
use Rattle.crsm_law_steps.specs.Happenings.{IsReached}
use Rattle.crsm_law_epoch.proofs.Worlds.{seat_log_at}
use Rattle.crsm_law_collection.specs.Collecting.{CommitOf}
use Rattle.crsm_law_collection.proofs.Law.{are_well_made}
use Rattle.crsm_fact_log.proofs.Lists.{get_some, get_inside}
use Rattle.crsm_fact_log.proofs.Logged.{end_fits, logged_is, extends_trans}
use Rattle.crsm_law_epoch.specs.LogWorlds.{HasFewBoots}
use Rattle.crsm_law_epoch.proofs.LogWorlds.{epochs_hold_always}
use Rattle.crsm_law_epoch.proofs.CommitLogs.{unexecuted_logged}
use Rattle.crsm_law_messages.specs.Counted.{AllSpelt}
use Rattle.crsm_law_agreement.proofs.BallotsAgree.{Knows, First, Later, knows}
use Rattle.crsm_law_agreement.proofs.Coordinators.{extends_among}
use Rattle.crsm_law_agreement.proofs.DecidedWorlds.{decisions_are_collected}
use Rattle.crsm_law_agreement.specs.Openings.{IsEpochOf, EpochHolds}
use Rattle.crsm_law_agreement.proofs.Agree.{fit, next_is, epoch_before, holder, epoch_holds, known_epoch}

pub got_among : {A : Type 0} (xs : List A) (i : ℕ) (x : A) → slice_get xs i ≡ Some x → Among xs x
got_among [] i x h = absurd (none-some x h)
got_among (y ∷ ys) zero x h = inl (same_Some y x h)
got_among (y ∷ ys) (suc i) x h = inr (got_among ys i x h)

start_is : (log : Log) (d : Decision) → decision log ≡ Some d → start log ≡ d.base_len + length d.tail
unfolding start
start_is log d is = ap (λ o. option_map_or (λ d. d.base_len + length d.tail) o 0) is

module _ (n : ℕ) (w : World) (q : IsReached n w) (few : HasFewBoots w) (spelt : AllSpelt n w) where
  -- who has logged it, or its origin
  pub at_origin : (k : ℕ) (x : Entry) → Logged (log_at w k) x → Logged (log_at w x.stamp.origin) x
  at_origin k x h =
      let facts = epochs_hold_always n w q few in
      subst (λ l. Logged l x) (seat_log_at w x.stamp.origin) (facts.own k x (subst (λ l. Logged l x) (sym (seat_log_at w k)) h))

  committed_logged : (e p : ℕ) (x : Entry) → CommitOf e (log_at w) p x → Logged (log_at w x.stamp.origin) x
  committed_logged e p x c =
      at_origin c.by x (extends_among (extends_trans (more (Rec.Commit x.stamp) same) c.kept) (Rec.Prepare x) (unexecuted_logged c.log x c.next).0)

  -- where an entry of an opening stands: in a list of the epoch before, or in the decision's tail
  data Stands (e : ℕ) (x : Entry) (p : ℕ) : Type 0 where
    Below : (k : ℕ) (log : Log) → Extends log (log_at w k) → known log ≡ e → slice_get (executed log) p ≡ Some x → Stands e x p
    Behind : (k : ℕ) → Among (logged_in e (log_at w k)) x → Stands e x p

  stands : (e k : ℕ) (log : Log) → Extends log (log_at w k) → known log ≡ suc e → (h : EpochHolds n (suc e) (log_at w)) → (p : ℕ) (x : Entry) → slice_get h.opening p ≡ Some x → Stands e x p
  stands e k log ext kn h p x at = go (decision log) refl (knows k n log (end_fits k n ext (fit n w q few spelt k)) (suc e) kn)
    where
      tail_at : (d : Decision) → Among (log_at w k) (Rec.Decide d) → d.epoch ≡ suc e → (i : ℕ) → p ≡ d.base_len + i → i < length d.tail → Stands e x p
      tail_at d a ep i is lt =
          let g = epoch_holds n w q few spelt e (epoch_before n w q few spelt e k d a ep) in
          let made = decisions_are_collected n e (length g.opening) g.counted w q few spelt g.facts g.specs k d a (next_is n w q few spelt e k d a ep) in
          let t = get_some d.tail i lt in
          let y = t.0 in
          let is_x : y ≡ x = same_Some y x (sym (h.opens.tail k d a ep i y t.1) ∙ ap (slice_get h.opening) (sym is) ∙ at) in
          let l = (are_well_made e n (length g.opening) g.counted (log_at w) d g.facts made).logged_are y (got_among d.tail i y t.1) in
          Behind l.0 (subst (Among (logged_in e (log_at w l.0))) is_x l.1)

      below : (d : Decision) → Among (log_at w k) (Rec.Decide d) → d.epoch ≡ suc e → p < d.base_len → Stands e x p
      below d a ep lt =
          let v = holder n w q few spelt e k d a ep in
          let b = v.1 in
          let long = b.long in
          let t = get_some (executed b.old) p (omega (arith, lt, long)) in
          let known_is = b.epoch in
          let is_x : t.0 ≡ x = same_Some t.0 x (sym (h.opens.before v.0 b.old b.earlier (omega (arith, known_is)) p t.0 t.1) ∙ at) in
          Below v.0 b.old b.earlier b.epoch (subst (λ z. slice_get (executed b.old) p ≡ Some z) is_x t.1)

      go : (o : Option Decision) → decision log ≡ o → Knows log (suc e) o → Stands e x p
      go None is (First z) = absurd (omega (arith, z))
      go (Some _) is (Later d a ep lt) =
          let on_record = extends_among ext (Rec.Decide d) a in
          let long = h.opens.begin k log ext kn in
          let starts = start_is log d is in
          let inside = get_inside h.opening p x at in
          elim (cases_lt p d.base_len) [
            | inl c ↦ below d on_record ep c
            | inr c ↦ tail_at d on_record ep (p - d.base_len) (omega (arith, c)) (omega (arith, c, long, starts, inside))
          ]

  -- each entry of a decision's tail is logged, and of the epoch before
  pub tail_logged : (k : ℕ) (d : Decision) → Among (log_at w k) (Rec.Decide d) → 1 ≤ d.epoch → (z : Entry) → Among d.tail z → Logged (log_at w z.stamp.origin) z × (z.epoch + 1 ≡ d.epoch)
  tail_logged k d a some z at = go d.epoch refl
    where
      go : (i : ℕ) → d.epoch ≡ i → Logged (log_at w z.stamp.origin) z × (z.epoch + 1 ≡ d.epoch)
      go zero ep = absurd (omega (arith, some, ep))
      go (suc e) ep =
          let g = epoch_holds n w q few spelt e (epoch_before n w q few spelt e k d a ep) in
          let made = decisions_are_collected n e (length g.opening) g.counted w q few spelt g.facts g.specs k d a (next_is n w q few spelt e k d a ep) in
          let l = (are_well_made e n (length g.opening) g.counted (log_at w) d g.facts made).logged_are z at in
          let t = logged_is e (log_at w l.0) z l.1 in
          let is = t.1 in (at_origin l.0 z t.0, omega (arith, is, ep))

  -- ---- each executed entry is logged at its origin

  logged_in_epoch : (e k : ℕ) (log : Log) → Extends log (log_at w k) → known log ≡ e → (p : ℕ) (x : Entry) → slice_get (executed log) p ≡ Some x → Logged (log_at w x.stamp.origin) x
  logged_in_epoch zero k log ext kn p x at =
      let h = epoch_holds n w q few spelt 0 (inl refl) in
      elim (h.placed k log ext kn p x at) [
        | inl o ↦ (let lt = h.opens.older p x o in absurd (omega (arith, lt)))
        | inr c ↦ committed_logged 0 p x c.1
      ]
  logged_in_epoch (suc e) k log ext kn p x at =
      let h = epoch_holds n w q few spelt (suc e) (subst (λ i. IsEpochOf i (log_at w)) kn (known_epoch n w q few spelt k log ext)) in
      elim (h.placed k log ext kn p x at) [
        | inl o ↦ by_stand (stands e k log ext kn h p x o) (λ j a xa ka f. logged_in_epoch e j a xa ka p x f)
        | inr c ↦ committed_logged (suc e) p x c.1
      ]
    where
      by_stand : Stands e x p → ((j : ℕ) (a : Log) → Extends a (log_at w j) → known a ≡ e → slice_get (executed a) p ≡ Some x → Logged (log_at w x.stamp.origin) x) → Logged (log_at w x.stamp.origin) x
      by_stand (Below j a xa ka f) g = g j a xa ka f
      by_stand (Behind j l) g = at_origin j x (logged_is e (log_at w j) x l).0

  pub executed_logged : (k : ℕ) (log : Log) → Extends log (log_at w k) → (p : ℕ) (x : Entry) → slice_get (executed log) p ≡ Some x → Logged (log_at w x.stamp.origin) x
  executed_logged k log ext p x at = logged_in_epoch (known log) k log ext refl p x at

  -- ---- and where what is older than an epoch stands

  commit_epoch : (e p : ℕ) (x : Entry) → CommitOf e (log_at w) p x → x.epoch ≡ e
  commit_epoch e p x c = (unexecuted_logged c.log x c.next).1 ∙ c.epoch

  module _ (j : ℕ) (a : Log) (xa : Extends a (log_at w j)) where
    -- in lists of an earlier epoch, and of the same
    older_early : (k : ℕ) (b : Log) → Extends b (log_at w k) → known b ≤ known a → (p : ℕ) (x : Entry) → slice_get (executed b) p ≡ Some x → x.epoch < known a → p < start a
    older_early k b xb le p x at lt =
        let h = epoch_holds n w q few spelt (known a) (known_epoch n w q few spelt j a xa) in
        let s = h.opens.begin j a xa refl in
        elim (cases_lt (known b) (known a)) [
          | inl l ↦ (let i = get_inside h.opening p x (h.opens.before k b xb l p x at) in omega (arith, i, s))
          | inr ge ↦ elim (h.placed k b xb (omega (arith, le, ge)) p x at) [
            | inl o ↦ (let i = get_inside h.opening p x o in omega (arith, i, s))
            | inr c ↦ (let e = commit_epoch (known a) p x c.1 in absurd (omega (arith, e, lt)))
          ]
        ]

    older_in : (y k : ℕ) (b : Log) → Extends b (log_at w k) → known b ≡ y → (p : ℕ) (x : Entry) → slice_get (executed b) p ≡ Some x → x.epoch < known a → p < start a
    older_in zero k b xb kn p x at lt = older_early k b xb (omega (arith, kn)) p x at lt
    older_in (suc y) k b xb kn p x at lt = elim (cases_lt (known a) (suc y)) [
      | inr le ↦ older_early k b xb (omega (arith, kn, le)) p x at lt
      | inl l ↦ (let h = epoch_holds n w q few spelt (suc y) (subst (λ i. IsEpochOf i (log_at w)) kn (known_epoch n w q few spelt k b xb)) in
          elim (h.placed k b xb kn p x at) [
            | inl o ↦ by_stand (stands y k b xb kn h p x o) l (λ i c xc kc f. older_in y i c xc kc p x f lt)
            | inr c ↦ (let e = commit_epoch (suc y) p x c.1 in absurd (omega (arith, e, lt, l)))
          ])
    ]
      where
        by_stand : Stands y x p → known a < suc y → ((i : ℕ) (c : Log) → Extends c (log_at w i) → known c ≡ y → slice_get (executed c) p ≡ Some x → p < start a) → p < start a
        by_stand (Below i c xc kc f) l g = g i c xc kc f
        by_stand (Behind i m) l g = let e = (logged_is y (log_at w i) x m).1 in absurd (omega (arith, e, lt, l))

  pub older_below : (j k : ℕ) (a b : Log) → Extends a (log_at w j) → Extends b (log_at w k) → (p : ℕ) (x : Entry) → slice_get (executed b) p ≡ Some x → x.epoch < known a → p < start a
  older_below j k a b xa xb p x at lt = older_in j a xa (known b) k b xb refl p x at lt
