-- After a step of an active replica no entry is ready.
use Rattle.std.proofs.Common.{◌≡◌, ℕ, List, [], ◌∷◌, ◌++◌, refl, sym, ◌∙◌, ap, subst, inl, inr, Bool, true, false, cond, append_assoc}
use Rattle.std.specs.Prelude.{IsTrue, Option, Some, None, find, filter, option_map, option_to_list, ◌==◌, ◌&&◌}
use Rattle.std.proofs.lemmas.Bool.{false≢true, eq-eqb, and_parts}
use Rattle.std.proofs.lemmas.Option.{same_Some, none-some}
use Rattle.crsm_spec.specs.Choice.{when◌then◌otherwise◌}
use Rattle.crsm_spec.specs.Types.{Stamp, Entry, Rec}
use Rattle.crsm_base.specs.Order.{stamp_eq}
use Rattle.crsm_spec.specs.Lists.{Among, first_of, last_of}
use Rattle.crsm_spec.specs.Log.{Log, known, active, unexecuted, executed, logged, logged_in, decision, entry_of, last_stamp, above}
use Rattle.crsm_spec.specs.Replica.{Replica, Waiting, members_of, spec_of}
use Rattle.crsm_spec.specs.Ready.{is_ready, is_replicated, is_stable, is_next, all_received}
use Rattle.crsm_spec.specs.Draft.{Draft, begun, keep, reply}
use Rattle.crsm_spec.specs.Clients.{commit_run, commits, replies, answer_each, answer_found, reply_ok, reply_dropped, find_executed}
use Rattle.crsm_spec.specs.Frames.{owed_oks}
use Rattle.crsm_spec.specs.Step.{Input, if_fitting, on_input, idle_at, step}
use Rattle.crsm_spec.specs.Fits.{fits}
use Rattle.crsm_fact_log.specs.Logs.{AllFit, Extends, same, more}
use Rattle.crsm_fact_step.proofs.Walk.{commit_active, same_when}
use Rattle.crsm_fact_log.proofs.Tests.{same_stamp}
use Rattle.crsm_fact_step.specs.Changes.{Changes}
use Rattle.crsm_fact_step.proofs.Fitted.{step_changes}
use Rattle.crsm_fact_step.proofs.Logs.{steps_fit, changes_numbers}
use Rattle.crsm_fact_log.specs.Rising.{Rises}
use Rattle.crsm_fact_log.proofs.Logged.{logged_rises, logged_epoch, extends_trans, end_fits}
use Rattle.crsm_fact_log.proofs.Sorted.{split, upto, eq_self}
use Rattle.crsm_fact_log.proofs.Lists.{among_left, among_right}
use Rattle.crsm_law_collection.proofs.Orderly.{above_last}
use Rattle.crsm_law_active.specs.Musts.{NoneReady, StepsExecute}
use Rattle.crsm_law_active.proofs.Ending.{on_true, on_false}

-- ---- the log after the first of the unexecuted entries is executed

-- the first entry with the stamp of one that is there has that very stamp
found : (s : Stamp) (es : List Entry) (e : Entry) → Among es e → e.stamp ≡ s → (z : Entry) × (find (λ f. stamp_eq f.stamp s) es ≡ Some z) × IsTrue (stamp_eq z.stamp s) × Among es z
found s [] e m q = absurd m
found s (f ∷ es) e (inl w) q =
    let here : stamp_eq f.stamp s ≡ true = subst (λ t. stamp_eq t s ≡ true) (sym q ∙ ap (λ (z : Entry). z.stamp) (sym w)) (eq_self s) in
    (f, ap (λ (b : Bool). cond b (Some f) (find (λ f. stamp_eq f.stamp s) es)) here, here, inl refl)
found s (f ∷ es) e (inr m) q = go (found s es e m q) (stamp_eq f.stamp s) refl
  where
    go : (z : Entry) × (find (λ f. stamp_eq f.stamp s) es ≡ Some z) × IsTrue (stamp_eq z.stamp s) × Among es z → (b : Bool) → stamp_eq f.stamp s ≡ b → (z : Entry) × (cond b (Some f) (find (λ f. stamp_eq f.stamp s) es) ≡ Some z) × IsTrue (stamp_eq z.stamp s) × Among (f ∷ es) z
    go t true h = (f, refl, h, inl refl)
    go t false h = (t.0, t.1, t.2, inr t.3)

last_end : (xs : List Entry) (z : Entry) → last_of (xs ++ z ∷ []) ≡ Some z
unfolding last_of
last_end [] z = refl
last_end (x ∷ []) z = refl
last_end (x ∷ y ∷ xs) z = last_end (y ∷ xs) z

last_more : (x z : Entry) (ys : List Entry) → last_of ys ≡ Some z → last_of (x ∷ ys) ≡ Some z
unfolding last_of
last_more x z [] w = absurd (none-some z w)
last_more x z (y ∷ ys) w = w

filter_end : (p : Entry → Bool) (xs : List Entry) (z : Entry) → p z ≡ true → last_of (filter p (xs ++ z ∷ [])) ≡ Some z
filter_end p [] z h = ap (λ (b : Bool). last_of (cond b (z ∷ []) [])) h ∙ last_end [] z
filter_end p (x ∷ xs) z h = go (p x) (filter_end p xs z h)
  where
    go : (b : Bool) → last_of (filter p (xs ++ z ∷ [])) ≡ Some z → last_of (cond b (x ∷ filter p (xs ++ z ∷ [])) (filter p (xs ++ z ∷ []))) ≡ Some z
    go false w = w
    go true w = last_more x z (filter p (xs ++ z ∷ [])) w

-- the entry whose stamp is committed
module _ (me n : ℕ) (log : Log) (e : Entry) (es : List Entry) (fit : AllFit me n log) (first : unexecuted log ≡ e ∷ es) where
  rises : Rises (logged log)
  unfolding logged
  rises = logged_rises me n (known log) log fit

  prefix : List Entry
  prefix = upto (last_stamp log) (logged log) ++ e ∷ []

  parts : logged log ≡ prefix ++ es
  unfolding unexecuted prefix
  parts = sym (split (last_stamp log) (logged log) rises) ∙ ap (λ zs. upto (last_stamp log) (logged log) ++ zs) first ∙ sym (append_assoc (upto (last_stamp log) (logged log)) (e ∷ []) es)

  here : Among (logged log) e
  unfolding prefix
  here = subst (λ zs. Among zs e) (sym parts) (among_left prefix es e (among_right (upto (last_stamp log) (logged log)) (e ∷ []) e (inl refl)))

  front_last : last_of prefix ≡ Some e
  unfolding prefix
  front_last = last_end (upto (last_stamp log) (logged log)) e

  last_now : last_stamp (Rec.Commit e.stamp ∷ log) ≡ Some e.stamp
  unfolding last_stamp executed entry_of known decision logged
  last_now =
      let z = found e.stamp (logged log) e here refl in
      let ep : z.0.epoch ≡ known log = of_known z.0 z.3 in
      ap (λ (o : Option Entry). option_map (λ (f : Entry). f.stamp) (last_of (filter (λ f. f.epoch == known log) (executed log ++ option_to_list o)))) z.1
      ∙ ap (option_map (λ (f : Entry). f.stamp)) (filter_end (λ f. f.epoch == known log) (executed log) z.0 (eq-eqb z.0.epoch (known log) ep))
      ∙ ap Some (same_stamp z.0.stamp e.stamp z.2)
    where
      of_known : (z : Entry) → Among (logged log) z → z.epoch ≡ known log
      of_known z m = logged_epoch (known log) log z m

  logged_now : logged (Rec.Commit e.stamp ∷ log) ≡ logged log
  unfolding logged logged_in known decision
  logged_now = refl

  pub goes_on : unexecuted (Rec.Commit e.stamp ∷ log) ≡ es
  unfolding unexecuted
  goes_on =
      ap (λ o. above o (logged (Rec.Commit e.stamp ∷ log))) (last_now ∙ ap (option_map (λ (f : Entry). f.stamp)) (sym front_last))
      ∙ ap (above (option_map (λ (f : Entry). f.stamp) (last_of prefix))) (logged_now ∙ parts)
      ∙ above_last prefix es (subst Rises parts rises)

-- ---- the run of commits

first_is : (x : Entry) (xs : List Entry) → first_of (x ∷ xs) ≡ Some x
unfolding first_of
first_is x xs = refl

none_is : first_of {A = Entry} [] ≡ None
unfolding first_of
none_is = refl

not_first : (r : Replica) (e : Entry) (es : List Entry) → unexecuted r.log ≡ e ∷ es → is_ready r e.stamp ≡ false → NoneReady r
not_first r e es u h f w = subst (λ (z : Entry). is_ready r z.stamp ≡ false) (same_Some e f (sym (ap first_of u ∙ first_is e es) ∙ w)) h

both : (p q : Bool) → p ≡ true → q ≡ true → (p && q) ≡ true
both true q h i = i
both false q h i = h

ready_fits : (x : Draft) (s : Stamp) → IsTrue (active x.replica.log) → IsTrue (is_ready x.replica s) → AllFit x.replica.me x.replica.n x.replica.log →
    AllFit x.replica.me x.replica.n (Rec.Commit s ∷ x.replica.log)
unfolding fits is_ready is_next
ready_fits x s a h f =
    let n = (and_parts (is_replicated (spec_of x.replica) x.replica.votes s && is_stable (members_of x.replica) (all_received x.replica) s) _ h).1 in
    (both (active x.replica.log) _ a n, f)

kept_log : (s : Stamp) (x : Draft) → (keep (Rec.Commit s) x).replica.log ≡ Rec.Commit s ∷ x.replica.log
unfolding keep
kept_log s x = refl

kept_fit : (s : Stamp) (x : Draft) → AllFit x.replica.me x.replica.n (Rec.Commit s ∷ x.replica.log) →
    AllFit (keep (Rec.Commit s) x).replica.me (keep (Rec.Commit s) x).replica.n (keep (Rec.Commit s) x).replica.log
unfolding keep
kept_fit s x h = h

pub run_ends : (es : List Entry) (x : Draft) → IsTrue (active x.replica.log) → AllFit x.replica.me x.replica.n x.replica.log → unexecuted x.replica.log ≡ es → NoneReady (commit_run es x).replica
unfolding commit_run
run_ends [] x a f u = λ e w. absurd (none-some e (sym (ap first_of u ∙ none_is) ∙ w))
run_ends (e ∷ es) x a f u =
    let y = keep (Rec.Commit e.stamp) x in
    go (is_ready x.replica e.stamp) refl (λ h.
    let fit = ready_fits x e.stamp a h f in
    run_ends es y (commit_active e.stamp x a) (kept_fit e.stamp x fit)
    (ap unexecuted (kept_log e.stamp x) ∙ goes_on x.replica.me x.replica.n x.replica.log e es f u))
  where
    go : (b : Bool) → is_ready x.replica e.stamp ≡ b → (is_ready x.replica e.stamp ≡ true → NoneReady (commit_run es (keep (Rec.Commit e.stamp) x)).replica) →
        NoneReady (when b then commit_run es (keep (Rec.Commit e.stamp) x) otherwise x).replica
    go true h k = subst (λ (d : Draft). NoneReady d.replica) (sym (on_true true (commit_run es (keep (Rec.Commit e.stamp) x)) x refl)) (k h)
    go false h k = subst (λ (d : Draft). NoneReady d.replica) (sym (on_false false (commit_run es (keep (Rec.Commit e.stamp) x)) x refl)) (not_first x.replica e es u h)

-- ---- the step

run_grows : (es : List Entry) (x : Draft) → Extends x.replica.log (commit_run es x).replica.log
unfolding commit_run
run_grows [] x = same
run_grows (e ∷ es) x = go (is_ready x.replica e.stamp) (run_grows es (keep (Rec.Commit e.stamp) x))
  where
    go : (b : Bool) → Extends (keep (Rec.Commit e.stamp) x).replica.log (commit_run es (keep (Rec.Commit e.stamp) x)).replica.log →
        Extends x.replica.log (when b then commit_run es (keep (Rec.Commit e.stamp) x) otherwise x).replica.log
    go true h = subst (λ (d : Draft). Extends x.replica.log d.replica.log) (sym (on_true true (commit_run es (keep (Rec.Commit e.stamp) x)) x refl))
        (extends_trans (subst (Extends x.replica.log) (sym (kept_log e.stamp x)) (more (Rec.Commit e.stamp) same)) h)
    go false h = subst (λ (d : Draft). Extends x.replica.log d.replica.log) (sym (on_false false (commit_run es (keep (Rec.Commit e.stamp) x)) x refl)) same

run_numbers : (es : List Entry) (x : Draft) → ((commit_run es x).replica.me ≡ x.replica.me) × ((commit_run es x).replica.n ≡ x.replica.n)
unfolding commit_run keep
run_numbers [] x = (refl, refl)
run_numbers (e ∷ es) x = let t = run_numbers es (keep (Rec.Commit e.stamp) x) in
    (same_when (λ d. d.replica.me) (is_ready x.replica e.stamp) _ x x t.0 refl, same_when (λ d. d.replica.n) (is_ready x.replica e.stamp) _ x x t.1 refl)

run_active : (es : List Entry) (x : Draft) → IsTrue (active x.replica.log) → IsTrue (active (commit_run es x).replica.log)
unfolding commit_run
run_active [] x a = a
run_active (e ∷ es) x a = go (is_ready x.replica e.stamp) (run_active es (keep (Rec.Commit e.stamp) x) (commit_active e.stamp x a))
  where
    go : (b : Bool) → IsTrue (active (commit_run es (keep (Rec.Commit e.stamp) x)).replica.log) → IsTrue (active (when b then commit_run es (keep (Rec.Commit e.stamp) x) otherwise x).replica.log)
    go true h = subst (λ (d : Draft). IsTrue (active d.replica.log)) (sym (on_true true (commit_run es (keep (Rec.Commit e.stamp) x)) x refl)) h
    go false h = subst (λ (d : Draft). IsTrue (active d.replica.log)) (sym (on_false false (commit_run es (keep (Rec.Commit e.stamp) x)) x refl)) a

step_is : (r : Replica) (input : Input) (reading : ℕ) →
    step r input reading ≡ replies (commits (idle_at input reading (owed_oks reading (if_fitting (begun r) (on_input input reading (begun r))))))
unfolding step
step_is r input reading = refl

steps_are : (r : Replica) (input : Input) (reading : ℕ) → Changes r input reading (begun r) (step r input reading)
steps_are r input reading = step_changes r input reading

commits_on : (x : Draft) → active x.replica.log ≡ true → commits x ≡ commit_run (unexecuted x.replica.log) x
unfolding commits
commits_on x e = on_true (active x.replica.log) _ _ e

commits_off : (x : Draft) → active x.replica.log ≡ false → commits x ≡ x
unfolding commits
commits_off x e = on_false (active x.replica.log) _ _ e

-- the commits of a draft leave nothing ready, where what they leave fits and is active
commits_end : (x : Draft) → AllFit (commits x).replica.me (commits x).replica.n (commits x).replica.log → IsTrue (active (commits x).replica.log) → NoneReady (commits x).replica
commits_end x f a = go (active x.replica.log) refl
  where
    go : (b : Bool) → active x.replica.log ≡ b → NoneReady (commits x).replica
    go true e =
        let is = commits_on x e in
        let es = unexecuted x.replica.log in
        let run = commit_run es x in
        let nums = run_numbers es x in
        let fit0 : AllFit run.replica.me run.replica.n run.replica.log = subst (λ (d : Draft). AllFit d.replica.me d.replica.n d.replica.log) is f in
        let fit1 : AllFit x.replica.me x.replica.n run.replica.log = subst (λ m. AllFit m x.replica.n run.replica.log) nums.0 (subst (λ m. AllFit run.replica.me m run.replica.log) nums.1 fit0) in
        subst (λ (d : Draft). NoneReady d.replica) (sym is) (run_ends es x e (end_fits x.replica.me x.replica.n (run_grows es x) fit1) refl)
    go false e = absurd (false≢true (sym e ∙ subst (λ (d : Draft). active d.replica.log ≡ true) (commits_off x e) a))

-- all that the commit rule looks at
record IsAlike (x y : Draft) : Type 0 where
  me : y.replica.me ≡ x.replica.me
  n : y.replica.n ≡ x.replica.n
  log : y.replica.log ≡ x.replica.log
  issued : y.replica.issued ≡ x.replica.issued
  received : y.replica.received ≡ x.replica.received
  votes : y.replica.votes ≡ x.replica.votes

alike_when : (c : Bool) (a b x : Draft) → IsAlike x a → IsAlike x b → IsAlike x (when c then a otherwise b)
unfolding when◌then◌otherwise◌
alike_when true a b x p q = p
alike_when false a b x p q = q

alike_then : {x y z : Draft} → IsAlike x y → IsAlike y z → IsAlike x z
alike_then p q = record { me = q.me ∙ p.me; n = q.n ∙ p.n; log = q.log ∙ p.log; issued = q.issued ∙ p.issued; received = q.received ∙ p.received; votes = q.votes ∙ p.votes }

found_alike : (w : Waiting) (p : Option (ℕ × Entry)) (x : Draft) → IsAlike x (answer_found w p x)
unfolding answer_found reply_ok reply_dropped reply
found_alike w (Some p) x = record { me = refl; n = refl; log = refl; issued = refl; received = refl; votes = refl }
found_alike w None x = alike_when _ _ _ x (record { me = refl; n = refl; log = refl; issued = refl; received = refl; votes = refl }) (record { me = refl; n = refl; log = refl; issued = refl; received = refl; votes = refl })

each_alike : (ws : List Waiting) (x : Draft) → IsAlike x (answer_each ws x)
unfolding answer_each
each_alike [] x = record { me = refl; n = refl; log = refl; issued = refl; received = refl; votes = refl }
each_alike (w ∷ ws) x = alike_then (found_alike w (find_executed (executed x.replica.log) w.entry) x) (each_alike ws _)

replies_alike : (x : Draft) → IsAlike x (replies x)
unfolding replies
replies_alike x = alike_then (record { me = refl; n = refl; log = refl; issued = refl; received = refl; votes = refl }) (each_alike x.replica.waiting _)

same_ready : (x y : Draft) (s : Stamp) → IsAlike x y → is_ready y.replica s ≡ is_ready x.replica s
unfolding is_ready spec_of members_of all_received
same_ready x y s a = rw (a.me, a.n, a.log, a.issued, a.received, a.votes) refl

pub steps_execute : StepsExecute
unfolding begun
steps_execute r input reading fit a =
    let x = idle_at input reading (owed_oks reading (if_fitting (begun r) (on_input input reading (begun r)))) in
    let is = step_is r input reading in
    let same = replies_alike (commits x) in
    let log : (step r input reading).replica.log ≡ (commits x).replica.log = ap (λ (d : Draft). d.replica.log) is ∙ same.log in
    let nums = changes_numbers (steps_are r input reading) in
    let fit_end : AllFit r.me r.n (commits x).replica.log = subst (AllFit r.me r.n) log (steps_fit r input reading fit) in
    let me : (commits x).replica.me ≡ r.me = sym (ap (λ (d : Draft). d.replica.me) is ∙ same.me) ∙ nums.0 in
    let n : (commits x).replica.n ≡ r.n = sym (ap (λ (d : Draft). d.replica.n) is ∙ same.n) ∙ nums.1 in
    let fits_now : AllFit (commits x).replica.me (commits x).replica.n (commits x).replica.log =
    subst (λ m. AllFit m (commits x).replica.n (commits x).replica.log) (sym me) (subst (λ m. AllFit r.me m (commits x).replica.log) (sym n) fit_end) in
    let none = commits_end x fits_now (subst (λ l. IsTrue (active l)) log a) in
    λ e w. ap (λ (d : Draft). is_ready d.replica e.stamp) is ∙ same_ready (commits x) (replies (commits x)) e.stamp same ∙ none e (sym (ap (λ l. first_of (unexecuted l)) log) ∙ w)
