-- Further steps of a timeline: the request, the command at another replica, an Ack, a tick.
use Rattle.std.proofs.Common.{◌≡◌, ◌≢◌, ℕ, zero, suc, ◌+◌, ◌<◌, ◌≤◌, List, [], ◌∷◌, ◌++◌, length, refl, sym, ◌∙◌, ap, subst, inl, inr, Bool, true, false, cond, arith, map, max, drop, take}
use Rattle.std.specs.Prelude.{Some, None, filter, not, ◌==◌, ◌||◌, ◌&&◌, nat_lt, nat_le, count_by, fold, unwrap_or}
use Rattle.std.specs.List.{enumerate_from, list_any}
use Rattle.std.proofs.lemmas.Bool.{eq-eqb}
use Rattle.std.proofs.lemmas.Bool.Decides.{nat_tests}
use Rattle.crsm_base.specs.Limits.{idle_after, most_own, most_frames, most_again}
use Rattle.crsm_spec.specs.Choice.{when◌then◌otherwise◌}
use Rattle.crsm_spec.specs.Types.{Stamp, Entry, Rec, InEpoch, Datagram, Line}
use Rattle.crsm_spec.specs.Lists.{Among, first_of, numbers_below}
use Rattle.crsm_spec.specs.Clock.{u64_max, issue}
use Rattle.crsm_spec.specs.Lines.{lines_of}
use Rattle.crsm_spec.specs.Fits.{fits, is_newest}
use Rattle.crsm_spec.specs.Log.{Log, known, active, live, suspended, members, logged, logged_in, decision, unexecuted}
use Rattle.crsm_spec.specs.Replica.{Replica, other_members, frames_to, acked_by, unacked, next_from, last_issued, is_congested}
use Rattle.crsm_spec.specs.Draft.{Draft, begun, keep, send, count_vote, issued_at, push_to_members, push_to, would}
use Rattle.crsm_spec.specs.Clients.{on_request, take_or_refuse, refusal, submit_at, submit, await, own_unexecuted, commits, replies}
use Rattle.crsm_spec.specs.Frames.{time_of, is_astray, is_wrong, with_stamp, owe, ack, receive, take_frame, on_ack, owed_oks, idle, is_idle, again_frame, again_to, send_again}
use Rattle.crsm_spec.specs.Step.{Input, if_fitting, on_input, on_datagram, on_tick, idle_at, step}
use Rattle.crsm_fact_log.proofs.Lists.{has_in}
use Rattle.crsm_law_active.proofs.Ending.{on_true, on_false, by_when}
use Rattle.crsm_spec_plan.specs.declared.Plan.{Plan}
use Rattle.crsm_spec_plan.specs.Plans.{FitsPlan, stamped}
use Rattle.crsm_spec_plan.specs.Timelines.{the_command, is_exec}
use Rattle.crsm_law_timing.proofs.Local.{Part, Plays, the_stamp, the_entry, is_active, is_known, is_left, is_below}
use Rattle.crsm_law_timing.proofs.Closing.{plays_alike}
use Rattle.crsm_law_timing.proofs.Paying.{frames, pushes, pays}
use Rattle.crsm_law_timing.proofs.Turns.{Turned, Ruled, then_not_paid, then_paid, steps_to, not_astray, takes, IsRight, ack_of}

-- ---- the command at another replica

command_right : (plan : Plan) → 1 ≤ stamped plan → IsRight plan plan.origin (InEpoch.Prepare (the_entry plan))
unfolding time_of is_wrong
command_right plan pos = (pos, λ r e are. ap (λ i. not (0 == i) || not (plan.origin == plan.origin)) e ∙ ap not (eq-eqb plan.origin plan.origin refl))

quiet_line : (i me : ℕ) (log : Log) (e : Entry) → filter (is_exec i) (lines_of me log (Rec.Prepare e)) ≡ []
unfolding lines_of is_exec
quiet_line i me log e = go (e.stamp.origin == me)
  where
    go : (b : Bool) → filter (is_exec i) (cond b (Line.Submit me e.epoch e.stamp.time e.command.client e.command.number) (Line.Log me e.epoch e.stamp) ∷ []) ≡ []
    go true = refl
    go false = refl

command_fits : (plan : Plan) (k : ℕ) (r : Replica) → plan.origin < plan.n → Plays plan k Part.Bare r → fits r.me r.n r.log (Rec.Prepare (the_entry plan)) ≡ true
unfolding fits active live suspended known decision members logged logged_in is_newest
command_fits plan k r lt h =
    ap (λ n. fits r.me n r.log (Rec.Prepare (the_entry plan))) h.n
    ∙ ap (λ l. fits r.me plan.n l (Rec.Prepare (the_entry plan))) h.log
    ∙ ap (λ (b : Bool). (true && b) && true) (has_in (numbers_below plan.n) plan.origin (is_below plan.n plan.origin lt))

owes_one : (s : Stamp) → with_stamp s [] ≡ s ∷ []
unfolding with_stamp
owes_one s = refl

command_ruled : (plan : Plan) (k : ℕ) (r : Replica) → Plays plan k Part.Bare r → plan.origin ≢ k →
    Ruled plan k Part.Owing (plan.origin ∷ r.taken) (Rec.Prepare (the_entry plan) ∷ []) ((plan.origin, Datagram.Ack k plan.origin 0 (ack_of r plan.origin)) ∷ [])
    (take_frame plan.origin (InEpoch.Prepare (the_entry plan)) (begun r))
unfolding take_frame receive ack send count_vote begun keep owe time_of ack_of next_from
command_ruled plan k r h ne = record {
  plays = record {
    me = h.me;
    n = h.n;
    log = ap (λ l. Rec.Prepare (the_entry plan) ∷ l) h.log;
    issued = h.issued;
    owed = ap (with_stamp (the_stamp plan)) h.owed ∙ owes_one (the_stamp plan);
    past = tt;
    pushed = λ f. h.pushed tt;
    took = took;
    heard = heard;
    votes = votes;
    own = λ l. (inl (ap (λ (z : ℕ). (the_stamp plan, z)) h.me), inr (inl refl));
    apart = apart;
  };
  taken = refl;
  batch = refl;
  sends = ap (λ j. (plan.origin, Datagram.Ack j plan.origin (known r.log) (count_by (λ j. j == plan.origin) (plan.origin ∷ r.taken))) ∷ []) h.me
      ∙ ap (λ e. (plan.origin, Datagram.Ack k plan.origin e (count_by (λ j. j == plan.origin) (plan.origin ∷ r.taken))) ∷ []) (ap known h.log ∙ is_known plan k Part.Bare);
  quiet = λ i. quiet_line i r.me r.log (the_entry plan);
  excess = refl;
  replies = refl;
}
  where
    took : (j v : ℕ) → Among ((plan.origin, stamped plan) ∷ r.received) (j, v) → Among (plan.origin ∷ r.taken) j
    took j v (inl e) = inl (ap (λ (z : ℕ × ℕ). z.0) e)
    took j v (inr a) = inr (h.took j v a)

    heard : (j : ℕ) → Among (plan.origin ∷ r.taken) j → (v : ℕ) × Among ((plan.origin, stamped plan) ∷ r.received) (j, v) × (stamped plan ≤ v)
    heard j (inl e) = (stamped plan, inl (ap (λ (z : ℕ). (z, stamped plan)) e), omega arith)
    heard j (inr a) = let g = h.heard j a in (g.0, inr g.1, g.2)

    votes : (j : ℕ) → Among (plan.origin ∷ r.taken) j → j ≢ plan.origin → Among ((the_stamp plan, r.me) ∷ (the_stamp plan, plan.origin) ∷ r.votes) (the_stamp plan, j)
    votes j (inl e) n = absurd (n (sym e))
    votes j (inr a) n = inr (inr (h.votes j a n))

    apart : (j : ℕ) → Among (plan.origin ∷ r.taken) j → j ≢ k
    apart j (inl e) q = ne (e ∙ q)
    apart j (inr a) q = h.apart j a q

take_fits : (m : ℕ) (e : Entry) (r : Replica) → fits r.me r.n r.log (Rec.Prepare e) ≡ true → (take_frame m (InEpoch.Prepare e) (begun r)).fitting ≡ true
unfolding take_frame receive ack send count_vote begun keep owe
take_fits m e r f = f

-- the command comes before the clock is past its timestamp
pub turn_early : (plan : Plan) (k t : ℕ) (r : Replica) → FitsPlan plan → Plays plan k Part.Bare r → plan.origin ≢ k → (Among r.taken plan.origin → ⊥) → t ≤ stamped plan →
    (a : ℕ) × Turned plan k Part.Owing (plan.origin ∷ r.taken) (Rec.Prepare (the_entry plan) ∷ []) ((plan.origin, Datagram.Ack k plan.origin 0 a) ∷ [])
    (step r (Input.Came plan.origin (Datagram.Frame plan.origin k 0 0 (InEpoch.Prepare (the_entry plan)))) t)
turn_early plan k t r fit h ne new early =
    let payload = InEpoch.Prepare (the_entry plan) in
    let is = takes plan k plan.origin t Part.Bare payload r h fit.origin fit.most ne new (command_right plan fit.reads) in (
      ack_of r plan.origin,
      then_not_paid plan k t Part.Owing _ _ _ _ (take_frame plan.origin payload (begun r)) fit.reads (λ e. early)
          (steps_to r plan.origin t (Datagram.Frame plan.origin k 0 0 payload) _ is (take_fits plan.origin (the_entry plan) r (command_fits plan k r fit.origin h))) (command_ruled plan k r h ne),
    )

-- it comes when the clock is
pub turn_late : (plan : Plan) (k t : ℕ) (r : Replica) → FitsPlan plan → Plays plan k Part.Bare r → plan.origin ≢ k → (Among r.taken plan.origin → ⊥) → stamped plan < t →
    (a : ℕ) × Turned plan k (Part.Passed t) (plan.origin ∷ r.taken) (Rec.Prepare (the_entry plan) ∷ [])
    (((plan.origin, Datagram.Ack k plan.origin 0 a) ∷ []) ++ frames plan k (InEpoch.PrepareOk (the_stamp plan) t))
    (step r (Input.Came plan.origin (Datagram.Frame plan.origin k 0 0 (InEpoch.Prepare (the_entry plan)))) t)
turn_late plan k t r fit h ne new late =
    let payload = InEpoch.Prepare (the_entry plan) in
    let is = takes plan k plan.origin t Part.Bare payload r h fit.origin fit.most ne new (command_right plan fit.reads) in (
      ack_of r plan.origin,
      then_paid plan k t _ _ _ _ (take_frame plan.origin payload (begun r)) fit.reads late
          (steps_to r plan.origin t (Datagram.Frame plan.origin k 0 0 payload) _ is (take_fits plan.origin (the_entry plan) r (command_fits plan k r fit.origin h))) (command_ruled plan k r h ne),
    )

-- ---- an Ack

as_begun : (plan : Plan) (k : ℕ) (p : Part) (r : Replica) → Plays plan k p r → Ruled plan k p r.taken [] [] (begun r) × ((begun r).fitting ≡ true)
unfolding begun
as_begun plan k p r h = (record { plays = h; taken = refl; batch = refl; sends = refl; quiet = λ i. refl; excess = refl; replies = refl }, refl)

acked_also : (plan : Plan) (k : ℕ) (p : Part) (r : Replica) (l : List (ℕ × ℕ)) → Plays plan k p r →
    Ruled plan k p r.taken [] [] (record (begun r) { replica = record r { acked = l } }) × ((record (begun r) { replica = record r { acked = l } }).fitting ≡ true)
unfolding begun
acked_also plan k p r l h = (
  record {
    plays = plays_alike plan k p (record { me = refl; n = refl; log = refl; issued = refl; received = refl; votes = refl; owed = refl; pushed = refl; taken = refl }) h;
    taken = refl;
    batch = refl;
    sends = refl;
    quiet = λ i. refl;
    excess = refl;
    replies = refl;
  },
  refl,
)

ack_ruled : (plan : Plan) (k m a : ℕ) (p : Part) (r : Replica) → Plays plan k p r → Ruled plan k p r.taken [] [] (on_ack m 0 a (begun r)) × ((on_ack m 0 a (begun r)).fitting ≡ true)
unfolding on_ack begun
ack_ruled plan k m a p r h = by_when (λ y. Ruled plan k p r.taken [] [] y × (y.fitting ≡ true)) _ _ _ (acked_also plan k p r _ h) (as_begun plan k p r h)

ack_rule : (r : Replica) (k m a t : ℕ) → is_astray r m k ≡ false → on_input (Input.Came m (Datagram.Ack m k 0 a)) t (begun r) ≡ on_ack m 0 a (begun r)
unfolding on_input on_datagram begun
ack_rule r k m a t e = on_false (is_astray r m k) _ _ e

pub turn_ack : (plan : Plan) (k m a t : ℕ) (p : Part) (r : Replica) → FitsPlan plan → Plays plan k p r → m < plan.n → m ≢ k → (p ≡ Part.Owing → t ≤ stamped plan) →
    Turned plan k p r.taken [] [] (step r (Input.Came m (Datagram.Ack m k 0 a)) t)
turn_ack plan k m a t p r fit h lt ne early =
    let most = fit.most in
    let rule = ack_rule r k m a t (not_astray r k m h.me (omega (arith, lt, most)) ne) in
    let y = ack_ruled plan k m a p r h in
    then_not_paid plan k t p r.taken [] [] _ (on_ack m 0 a (begun r)) fit.reads early (steps_to r m t (Datagram.Ack m k 0 a) _ rule y.1) y.0

-- ---- a tick

drop_none : {A : Type 0} (n : ℕ) (xs : List A) → xs ≡ [] → drop n xs ≡ []
drop_none {A} n xs e = ap (drop n) e ∙ go n
  where
    go : (n : ℕ) → drop {A = A} n [] ≡ []
    go zero = refl
    go (suc n) = refl

none_unacked : (r : Replica) (k : ℕ) → r.pushed ≡ [] → unacked r k ≡ []
unfolding unacked frames_to
none_unacked r k e = drop_none (acked_by r k) (enumerate_from 0 (map (λ f. f.1) (filter (λ f. f.0 == k) r.pushed))) (ap (λ fs. enumerate_from 0 (map (λ (f : ℕ × InEpoch). f.1) (filter (λ f. f.0 == k) fs))) e)

again_none : (r : Replica) (k : ℕ) → r.pushed ≡ [] → again_to (begun r) k ≡ begun r
unfolding again_to begun
again_none r k e = ap (λ l. fold (again_frame k) (begun r) (take most_again l)) (none_unacked r k e)

send_none : (r : Replica) → r.pushed ≡ [] → send_again (begun r) ≡ begun r
unfolding send_again
send_none r e = go (other_members (begun r).replica)
  where
    go : (ks : List ℕ) → fold again_to (begun r) ks ≡ begun r
    go [] = refl
    go (k ∷ ks) = ap (λ x. fold again_to x ks) (again_none r k e) ∙ go ks

tick_rule : (plan : Plan) (k t : ℕ) (r : Replica) → Plays plan k Part.Owing r → if_fitting (begun r) (on_input Input.Ticked t (begun r)) ≡ begun r
unfolding if_fitting on_input on_tick begun
tick_rule plan k t r h =
    ap (λ y. when y.fitting then y otherwise begun r)
    (on_true (active (begun r).replica.log) _ _ (ap active h.log ∙ is_active plan k Part.Owing) ∙ send_none r (h.pushed tt)) ∙ on_true (begun r).fitting _ _ (as_begun plan k Part.Owing r h).1

tick_is : (r : Replica) (t : ℕ) → step r Input.Ticked t ≡ replies (commits (idle_at Input.Ticked t (owed_oks t (if_fitting (begun r) (on_input Input.Ticked t (begun r))))))
unfolding step
tick_is r t = refl

not_idle : (plan : Plan) (k t : ℕ) (x : Draft) → Plays plan k (Part.Passed t) x.replica → idle_at Input.Ticked t x ≡ x
unfolding idle_at idle is_idle last_issued first_of
not_idle plan k t x h = on_false _ _ _ (ap (λ (b : Bool). b && ((nat_le (unwrap_or (first_of x.replica.issued) 0 + idle_after) t && nat_lt (unwrap_or (first_of x.replica.issued) 0) u64_max) && not (is_congested x.replica))) runs
    ∙ ap (λ l. (nat_le (unwrap_or (first_of l) 0 + idle_after) t && nat_lt (unwrap_or (first_of l) 0) u64_max) && not (is_congested x.replica)) h.issued
    ∙ ap (λ (b : Bool). (b && nat_lt t u64_max) && not (is_congested x.replica)) over)
  where
    runs : active x.replica.log ≡ true
    runs = ap active h.log ∙ is_active plan k (Part.Passed t)

    over : nat_le (t + idle_after) t ≡ false
    over = grind (arith, nat_tests)

pub turn_tick : (plan : Plan) (k t : ℕ) (r : Replica) → FitsPlan plan → Plays plan k Part.Owing r → stamped plan < t →
    Turned plan k (Part.Passed t) r.taken [] (frames plan k (InEpoch.PrepareOk (the_stamp plan) t)) (step r Input.Ticked t)
turn_tick plan k t r fit h lt =
    let z = then_paid plan k t r.taken [] [] (replies (commits (owed_oks t (begun r)))) (begun r) fit.reads lt refl (as_begun plan k Part.Owing r h).0 in
    let paid = pays plan k (begun r) t fit.reads (as_begun plan k Part.Owing r h).0.plays lt in
    let is : step r Input.Ticked t ≡ replies (commits (owed_oks t (begun r))) =
    tick_is r t ∙ ap (λ y. replies (commits (idle_at Input.Ticked t (owed_oks t y)))) (tick_rule plan k t r h) ∙ ap (λ y. replies (commits y)) (not_idle plan k t (owed_oks t (begun r)) paid.plays) in
    subst (λ x. Turned plan k (Part.Passed t) r.taken [] (frames plan k (InEpoch.PrepareOk (the_stamp plan) t)) x) (sym is) z

-- ---- the request

any_none : {A : Type 0} (f : A → Bool) (xs : List A) → ((x : A) → f x ≡ false) → list_any f xs ≡ false
any_none f [] h = refl
any_none f (x ∷ xs) h = ap (λ (b : Bool). b || list_any f xs) (h x) ∙ any_none f xs h

not_refused : (plan : Plan) (k : ℕ) (r : Replica) → Plays plan k Part.Bare r → refusal r ≡ None
unfolding refusal live suspended own_unexecuted is_congested last_issued first_of
not_refused plan k r h =
    on_false (not (live r.log)) _ _ (ap (λ l. not (live l)) h.log)
    ∙ on_false (suspended r.log) _ _ (ap suspended h.log)
    ∙ on_false _ _ _ (ap (λ es. nat_le most_own (length (filter (λ (e : Entry). e.stamp.origin == r.me) es))) (ap unexecuted h.log ∙ is_left plan k Part.Bare))
    ∙ on_false _ _ _ (any_none (λ j. nat_le most_frames (length (unacked r j))) (other_members r) (λ j. ap (λ fs. nat_le most_frames (length fs)) (none_unacked r j (h.pushed tt))))
    ∙ on_false _ _ _ (ap (λ l. unwrap_or (first_of l) 0 == u64_max) h.issued)

submitted : Plan → ℕ → Replica → Draft
submitted plan t r =
    push_to_members (InEpoch.Prepare (the_entry plan)) (await 7 (the_entry plan) (count_vote (the_stamp plan) r.me (keep (Rec.Prepare (the_entry plan)) (issued_at t (begun r)))))

submits : (plan : Plan) (r : Replica) → Plays plan plan.origin Part.Bare r → submit 7 the_command (stamped plan) (begun r) ≡ submitted plan (stamped plan) r
unfolding submit submitted begun
submits plan r h =
    let t = stamped plan in
    let with_entry = λ (e : Entry). push_to_members (InEpoch.Prepare e) (await 7 e (count_vote e.stamp r.me (keep (Rec.Prepare e) (issued_at t (begun r))))) in
    ap (λ (i : ℕ). with_entry (record { epoch = i; stamp = record { time = t; origin = r.me }; command = the_command })) (ap known h.log ∙ is_known plan plan.origin Part.Bare)
    ∙ ap (λ (j : ℕ). with_entry (record { epoch = 0; stamp = record { time = t; origin = j }; command = the_command })) h.me

would_be : (plan : Plan) (r : Replica) → 1 ≤ stamped plan → Plays plan plan.origin Part.Bare r → would (begun r) (stamped plan) ≡ Some (stamped plan)
unfolding would issue last_issued first_of begun
would_be plan r pos h =
    let same : max (stamped plan) 1 ≡ stamped plan = omega (arith, pos) in
    ap (λ l. issue (unwrap_or (first_of l) 0) (stamped plan)) h.issued ∙ ap Some same

request_rule : (plan : Plan) (r : Replica) → 1 ≤ stamped plan → Plays plan plan.origin Part.Bare r →
    on_input (Input.Came 7 (Datagram.Request the_command)) (stamped plan) (begun r) ≡ submitted plan (stamped plan) r
unfolding on_input on_datagram on_request take_or_refuse submit_at begun
request_rule plan r pos h =
    ap (λ o. take_or_refuse 7 the_command (stamped plan) o (begun r)) (not_refused plan plan.origin r h)
    ∙ ap (λ o. submit_at 7 the_command o (begun r)) (would_be plan r pos h)
    ∙ submits plan r h

request_ruled : (plan : Plan) (r : Replica) → FitsPlan plan → Plays plan plan.origin Part.Bare r →
    Ruled plan plan.origin (Part.Passed (stamped plan)) r.taken (Rec.Prepare (the_entry plan) ∷ []) (frames plan plan.origin (InEpoch.Prepare (the_entry plan))) (submitted plan (stamped plan) r)
    × ((submitted plan (stamped plan) r).fitting ≡ true)
unfolding submitted push_to_members push_to await count_vote keep issued_at begun
request_ruled plan r fit h =
    let log = ap (λ l. Rec.Prepare (the_entry plan) ∷ l) h.log in (
      record {
        plays = record {
          me = h.me;
          n = h.n;
          log = log;
          issued = ap (λ l. stamped plan ∷ l) h.issued;
          owed = h.owed;
          past = omega arith;
          pushed = λ f. absurd f;
          took = h.took;
          heard = h.heard;
          votes = λ m a ne. inr (h.votes m a ne);
          own = λ l. (inl (ap (λ (z : ℕ). (the_stamp plan, z)) h.me), inl (ap (λ (z : ℕ). (the_stamp plan, z)) h.me));
          apart = h.apart;
        };
        taken = refl;
        batch = refl;
        sends = pushes plan plan.origin (Part.Passed (stamped plan)) (InEpoch.Prepare (the_entry plan)) (await 7 (the_entry plan) (count_vote (the_stamp plan) r.me (keep (Rec.Prepare (the_entry plan)) (issued_at (stamped plan) (begun r))))) h.me h.n log (h.pushed tt);
        quiet = λ i. quiet_line i r.me r.log (the_entry plan);
        excess = refl;
        replies = refl;
      },
      command_fits plan plan.origin r fit.origin h,
    )

pub turn_request : (plan : Plan) (r : Replica) → FitsPlan plan → Plays plan plan.origin Part.Bare r →
    Turned plan plan.origin (Part.Passed (stamped plan)) r.taken (Rec.Prepare (the_entry plan) ∷ []) (frames plan plan.origin (InEpoch.Prepare (the_entry plan)))
    (step r (Input.Came 7 (Datagram.Request the_command)) (stamped plan))
turn_request plan r fit h =
    let y = request_ruled plan r fit h in
    then_not_paid plan plan.origin (stamped plan) (Part.Passed (stamped plan)) _ _ _ _ (submitted plan (stamped plan) r) fit.reads (λ q. absurd (cc))
    (steps_to r 7 (stamped plan) (Datagram.Request the_command) _ (request_rule plan r fit.reads h) y.1) y.0
