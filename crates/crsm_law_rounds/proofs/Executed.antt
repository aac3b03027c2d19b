-- An active replica has logged all that it has executed of its epoch, and executed all that it has logged if nothing is
-- left to do.
use Rattle.std.proofs.Common.{◌≡◌, ℕ, ◌<◌, List, [], ◌∷◌, ◌++◌, length, refl, sym, ◌∙◌, ap, subst, inl, inr, cond, arith}
use Rattle.std.specs.Prelude.{IsTrue, Option, Some, None, slice_get, filter, option_map, ◌==◌}
use Rattle.std.specs.Option.{option_map_or}
use Rattle.std.proofs.lemmas.Bool.{eq-eqb, ne_eqb}
use Rattle.std.proofs.lemmas.List.{append-nil}
use Rattle.std.proofs.lemmas.Option.{same_Some, none-some}
use Rattle.crsm_spec.specs.Types.{Entry, Rec, Decision}
use Rattle.crsm_spec.specs.Lists.{Among, last_of}
use Rattle.crsm_spec.specs.Log.{Log, known, decision, active, executed, unexecuted, logged, logged_in, last_stamp, above}
use Rattle.crsm_spec.specs.World.{World, log_at}
use Rattle.crsm_fact_log.specs.Logs.{same, Logged}
use Rattle.crsm_fact_log.specs.Rising.{Rises}
use Rattle.crsm_fact_log.proofs.Lists.{among_left, among_right, among_either, get_left, get_inside}
use Rattle.crsm_fact_log.proofs.Logged.{logged_is, logged_rises, logged_epoch}
use Rattle.crsm_law_steps.specs.Happenings.{IsReached}
use Rattle.crsm_law_collection.proofs.Orderly.{Orderly, orderly, above_last}
use Rattle.crsm_law_agreement.specs.Openings.{IsEpochOf, EpochHolds}
use Rattle.crsm_law_agreement.proofs.Agree.{begun_epochs_hold}
use Rattle.crsm_law_agreement.proofs.Logs.{is_logged}
use Rattle.crsm_law_bounds.specs.Bounds.{IsSpelt}
use Rattle.crsm_law_runs.proofs.DurableLists.{among_place}

pub decided_on : (log : Log) (o : Option Decision) → decision log ≡ o → (d : Decision) → o ≡ Some d → Among log (Rec.Decide d)
unfolding decision
decided_on [] o e d s = absurd (none-some d (e ∙ s))
decided_on (Rec.Decide c ∷ log) o e d s = inl (ap Rec.Decide (same_Some c d (e ∙ s)))
decided_on (Rec.Boot i j ∷ log) o e d s = inr (decided_on log o e d s)
decided_on (Rec.Prepare f ∷ log) o e d s = inr (decided_on log o e d s)
decided_on (Rec.Commit c ∷ log) o e d s = inr (decided_on log o e d s)
decided_on (Rec.Adopt p es ∷ log) o e d s = inr (decided_on log o e d s)
decided_on (Rec.Suspend x ∷ log) o e d s = inr (decided_on log o e d s)
decided_on (Rec.Promise i b ∷ log) o e d s = inr (decided_on log o e d s)
decided_on (Rec.Accept i b c ∷ log) o e d s = inr (decided_on log o e d s)
decided_on (Rec.Enter x ∷ log) o e d s = inr (decided_on log o e d s)

-- the known epoch has begun
epoch_begun : (w : World) (e k : ℕ) → known (log_at w k) ≡ e → IsEpochOf e (log_at w)
unfolding known
epoch_begun w e k h = go (decision (log_at w k)) refl h
  where
    go : (o : Option Decision) → decision (log_at w k) ≡ o → option_map_or (λ d. d.epoch) o 0 ≡ e → IsEpochOf e (log_at w)
    go None q is = inl (sym is)
    go (Some d) q is = inr (k, d, decided_on (log_at w k) (Some d) q d refl, is)

none_older : (e : ℕ) (xs ys : List Entry) → ((x : Entry) → Among xs x → x.epoch < e) → ((y : Entry) → Among ys y → y.epoch ≡ e) → filter (λ x. x.epoch == e) (xs ++ ys) ≡ ys
none_older e [] [] h k = refl
none_older e [] (y ∷ ys) h k =
    ap (λ b. cond b (y ∷ filter (λ x. x.epoch == e) ys) (filter (λ x. x.epoch == e) ys)) (eq-eqb y.epoch e (k y (inl refl)))
    ∙ ap (λ zs. y ∷ zs) (none_older e [] ys (λ x m. absurd m) (λ z m. k z (inr m)))
none_older e (x ∷ xs) ys h k =
    let lt = h x (inl refl) in
    ap (λ b. cond b (x ∷ filter (λ x. x.epoch == e) (xs ++ ys)) (filter (λ x. x.epoch == e) (xs ++ ys))) (ne_eqb x.epoch e (λ q. absurd (omega (arith, lt, q))))
    ∙ none_older e xs ys (λ z m. h z (inr m)) k

module _ (n : ℕ) (w : World) (q : IsReached n w) (spelt : IsSpelt n w) (k : ℕ) (run : IsTrue (active (log_at w k))) where
  abbrev e : ℕ
  e = known (log_at w k)

  abbrev log : Log
  log = log_at w k

  holds : EpochHolds n e (log_at w)
  holds = begun_epochs_hold n w q spelt.few spelt.messages e (epoch_begun w e k refl)

  order : Orderly e (length holds.opening) (log_at w) log
  order = orderly e n (length holds.opening) holds.counted (log_at w) holds.facts k log same refl run

  older : (z : Entry) → Among order.prefix z → z.epoch < e
  older z m =
      let g = among_place order.prefix z m in
      let at : slice_get (executed log) g.0 ≡ Some z = subst (λ l. slice_get l g.0 ≡ Some z) (sym order.executed_is) (get_left order.prefix order.done g.0 z g.1) in
      let within = get_inside order.prefix g.0 z g.1 in
      let size = order.prefix_is in
      holds.facts.before k log same refl g.0 z (omega (arith, within, size)) at

  of_epoch : (z : Entry) → Among order.done z → z.epoch ≡ e
  of_epoch z m = logged_epoch e log z (subst (λ zs. Among zs z) (sym order.logged_is) (among_left order.done order.rest z m))

  -- what it has executed of the epoch is logged
  pub executed_is_logged : (f : Entry) → Among (executed log) f → f.epoch ≡ e → Logged log f
  executed_is_logged f m ep = elim (among_either order.prefix order.done f (subst (λ l. Among l f) order.executed_is m)) [
    | inl a ↦ absurd (let lt = older f a in omega (arith, lt, ep))
    | inr a ↦ (logged_is e log f (subst (λ l. Among l f) (sym order.logged_is) (among_left order.done order.rest f a))).0
  ]

  last_is : last_stamp log ≡ option_map (λ z. z.stamp) (last_of order.done)
  unfolding last_stamp
  last_is =
      ap (λ zs. option_map (λ (z : Entry). z.stamp) (last_of (filter (λ z. z.epoch == e) zs))) order.executed_is
      ∙ ap (λ zs. option_map (λ (z : Entry). z.stamp) (last_of zs)) (none_older e order.prefix order.done older of_epoch)

  left_is : unexecuted log ≡ order.rest
  unfolding unexecuted logged
  left_is =
      ap (λ s. above s (logged_in e log)) last_is
      ∙ ap (above (option_map (λ z. z.stamp) (last_of order.done))) order.logged_is
      ∙ above_last order.done order.rest (subst Rises order.logged_is (logged_rises k n e log (holds.facts.fit k)))

  -- where nothing is left, all that is logged in the epoch is executed
  pub all_executed : unexecuted log ≡ [] → (f : Entry) → Logged log f → f.epoch ≡ e → Among (executed log) f
  all_executed none f l ep =
      let all : logged_in e log ≡ order.done = order.logged_is ∙ ap (λ r. order.done ++ r) (sym left_is ∙ none) ∙ append-nil order.done in
      subst (λ zs. Among zs f) (sym order.executed_is) (among_right order.prefix order.done f (subst (λ zs. Among zs f) all (is_logged e log f l ep)))
