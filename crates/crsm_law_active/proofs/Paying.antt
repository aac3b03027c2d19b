-- At a tick all pending acknowledgements are sent.
use Rattle.std.proofs.Common.{◌≡◌, ℕ, ◌+◌, ◌<◌, ◌≤◌, List, [], ◌∷◌, length, refl, sym, ◌∙◌, ap, subst, inl, inr, Bool, cond, arith, max}
use Rattle.std.specs.Prelude.{IsTrue, Option, Some, None, nat_lt}
use Rattle.std.specs.Option.{option_map_or}
use Rattle.std.proofs.lemmas.Bool.{ne_eqb}
use Rattle.std.proofs.lemmas.Bool.Decides.{nat_tests}
use Rattle.crsm_spec.specs.Choice.{when◌then◌otherwise◌}
use Rattle.crsm_spec.specs.Types.{Stamp}
use Rattle.crsm_spec.specs.Lists.{Among, first_of}
use Rattle.crsm_spec.specs.Clock.{u64_max, issue}
use Rattle.crsm_spec.specs.Log.{active}
use Rattle.crsm_spec.specs.Replica.{Replica, other_members, last_issued}
use Rattle.crsm_spec.specs.Draft.{Draft, begun, issued_at, push_to_members, push_to, would}
use Rattle.crsm_spec.specs.Frames.{pay, owing, pay_run, owed_oks, send_time, idle, send_again}
use Rattle.crsm_spec.specs.Step.{Input, if_fitting, on_input, on_tick, idle_at, step}
use Rattle.crsm_fact_step.proofs.Walk.{same_when}
use Rattle.crsm_law_active.specs.Musts.{StepsPay}
use Rattle.crsm_law_active.proofs.Ending.{on_true, ends_before}
use Rattle.crsm_law_active.proofs.Again.{all_sent}

would_is : (x : Draft) (reading : ℕ) → last_issued x.replica < u64_max → would x reading ≡ Some (max reading (last_issued x.replica + 1))
unfolding would issue
would_is x reading lt = ap (λ (b : Bool). cond b None (Some (max reading (last_issued x.replica + 1)))) (ne_eqb (last_issued x.replica) u64_max (λ e. absurd (omega (arith, e, lt))))

paid : (s : Stamp) (t : ℕ) (x : Draft) → (last_issued (pay s t x).replica ≡ t) × ((pay s t x).replica.owed ≡ x.replica.owed)
unfolding pay push_to_members push_to issued_at last_issued first_of
paid s t x = (refl, refl)

pay_all : (reading : ℕ) (ss : List Stamp) (x : Draft) → ((s : Stamp) → Among ss s → s.time < reading) →
    last_issued x.replica + length ss ≤ u64_max → reading + length ss ≤ u64_max → (pay_run reading ss x).replica.owed ≡ []
unfolding pay_run owing
pay_all reading [] x h le far = refl
pay_all reading (s ∷ ss) x h le far =
    let last = last_issued x.replica in
    let t = max reading (last + 1) in
    let lt : last < u64_max = omega (arith, le) in
    let s_lt = h s (inl refl) in
    let more = pay_all reading ss (pay s t x) (λ u m. h u (inr m)) (let e = (paid s t x).0 in omega (arith, e, le, far)) (omega (arith, far)) in
    ap (λ (o : Option ℕ). (option_map_or (λ u. when nat_lt s.time u then pay_run reading ss (pay s u x) otherwise owing (s ∷ ss) x) o (owing (s ∷ ss) x)).replica.owed) (would_is x reading lt)
    ∙ ap (λ (d : Draft). d.replica.owed) (on_true (nat_lt s.time t) _ _ (grind (arith, nat_tests, s_lt)))
    ∙ more

oks_paid : (x : Draft) (reading : ℕ) → IsTrue (active x.replica.log) → ((s : Stamp) → Among x.replica.owed s → s.time < reading) →
    last_issued x.replica + length x.replica.owed ≤ u64_max → reading + length x.replica.owed ≤ u64_max → (owed_oks reading x).replica.owed ≡ []
unfolding owed_oks
oks_paid x reading a h le far = ap (λ (d : Draft). d.replica.owed) (on_true (active x.replica.log) _ _ a) ∙ pay_all reading x.replica.owed x h le far

time_owed : (o : Option ℕ) (x : Draft) → (send_time o x).replica.owed ≡ x.replica.owed
unfolding send_time push_to_members push_to issued_at
time_owed None x = refl
time_owed (Some t) x = refl

idle_owed : (reading : ℕ) (x : Draft) → (idle_at Input.Ticked reading x).replica.owed ≡ x.replica.owed
unfolding idle_at idle
idle_owed reading x = same_when (λ y. y.replica.owed) _ _ x x (time_owed (would x reading) x) refl

-- the rule of a tick leaves an active replica as it was
pub tick_leaves : (r : Replica) (reading : ℕ) → IsTrue (active r.log) → (if_fitting (begun r) (on_input Input.Ticked reading (begun r))).replica ≡ r
unfolding if_fitting on_input on_tick send_again begun
tick_leaves r reading a =
    let t = all_sent r (other_members r) (begun r) refl in
    let is = on_true (active r.log) (send_again (begun r)) _ a in
    same_when (λ y. y.replica) _ _ (begun r) (begun r) (ap (λ (d : Draft). d.replica) is ∙ t.0) refl

pub steps_pay : StepsPay
unfolding step
steps_pay r reading a h le far =
    let y = if_fitting (begun r) (on_input Input.Ticked reading (begun r)) in
    let is = sym (tick_leaves r reading a) in
    (ends_before (idle_at Input.Ticked reading (owed_oks reading y))).owed
    ∙ idle_owed reading (owed_oks reading y)
    ∙ oks_paid y reading (subst (λ (q : Replica). IsTrue (active q.log)) is a) (subst (λ (q : Replica). (s : Stamp) → Among q.owed s → s.time < reading) is h)
    (subst (λ (q : Replica). last_issued q + length q.owed ≤ u64_max) is le) (subst (λ (q : Replica). reading + length q.owed ≤ u64_max) is far)
