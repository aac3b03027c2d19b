-- How a replica of a timeline sends its pending acknowledgement.
use Rattle.std.proofs.Common.{◌≡◌, ℕ, ◌<◌, ◌≤◌, List, [], ◌∷◌, ◌++◌, length, refl, sym, ◌∙◌, ap, subst, arith, map, max}
use Rattle.std.specs.Prelude.{IsTrue, Option, Some, filter, not, ◌==◌, nat_lt, unwrap_or}
use Rattle.std.specs.Option.{option_map_or}
use Rattle.std.proofs.lemmas.Bool.Decides.{nat_tests}
use Rattle.crsm_spec.specs.Choice.{when◌then◌otherwise◌}
use Rattle.crsm_spec.specs.Types.{Stamp, InEpoch, Datagram}
use Rattle.crsm_spec.specs.Lists.{first_of, numbers_below}
use Rattle.crsm_spec.specs.Clock.{issue}
use Rattle.crsm_spec.specs.Log.{known, active, members}
use Rattle.crsm_spec.specs.Replica.{Replica, frames_to, other_members, members_of, last_issued}
use Rattle.crsm_spec.specs.Draft.{Draft, issued_at, push_to_members, push_to, next_frame, would}
use Rattle.crsm_spec.specs.Frames.{pay, owing, pay_run, owed_oks}
use Rattle.crsm_law_active.proofs.Ending.{on_true, on_false}
use Rattle.crsm_spec_plan.specs.declared.Plan.{Plan}
use Rattle.crsm_spec_plan.specs.Plans.{stamped}
use Rattle.crsm_law_timing.proofs.Local.{Part, Plays, IsFirst, the_stamp, log_in, owed_in, is_active, is_known, are_members}
use Rattle.crsm_law_timing.proofs.Closing.{IsAlike, plays_alike}

-- ---- frames

-- the replicas but k
abbrev pub peers : Plan → ℕ → List ℕ
peers plan k = filter (λ j. not (j == k)) (numbers_below plan.n)

-- the first frame of k to each of them
abbrev pub frames : Plan → ℕ → InEpoch → List (ℕ × Datagram)
frames plan k payload = map (λ j. (j, Datagram.Frame k j 0 0 payload)) (peers plan k)

abbrev next : InEpoch → ℕ → ℕ → List (ℕ × InEpoch) → ℕ → ℕ × Datagram
next payload i e fs j = (j, Datagram.Frame i j e (length (map (λ f. f.1) (filter (λ f. f.0 == j) fs))) payload)

peers_are : (plan : Plan) (k : ℕ) (p : Part) (r : Replica) → r.me ≡ k → r.n ≡ plan.n → r.log ≡ log_in plan k p → other_members r ≡ peers plan k
unfolding other_members members_of
peers_are plan k p r me n log =
    ap (λ j. filter (λ i. not (i == j)) (members r.n r.log)) me
    ∙ ap (filter (λ i. not (i == k))) (ap (λ m. members m r.log) n ∙ ap (members plan.n) log ∙ are_members plan k p)

pub pushes : (plan : Plan) (k : ℕ) (p : Part) (payload : InEpoch) (x : Draft) → x.replica.me ≡ k → x.replica.n ≡ plan.n → x.replica.log ≡ log_in plan k p → x.replica.pushed ≡ [] →
    (push_to_members payload x).sends ≡ x.sends ++ frames plan k payload
unfolding push_to_members push_to next_frame frames_to
pushes plan k p payload x me n log none =
    ap (λ js. x.sends ++ map (next payload x.replica.me (known x.replica.log) x.replica.pushed) js) (peers_are plan k p x.replica me n log)
    ∙ ap (λ i. x.sends ++ map (next payload i (known x.replica.log) x.replica.pushed) (peers plan k)) me
    ∙ ap (λ e. x.sends ++ map (next payload k e x.replica.pushed) (peers plan k)) (ap known log ∙ is_known plan k p)
    ∙ ap (λ fs. x.sends ++ map (next payload k 0 fs) (peers plan k)) none

-- ---- debts

-- nothing is told by it
pub record IsSilent (x y : Draft) : Type 0 where
  pub batch : y.batch ≡ x.batch
  pub lines : y.lines ≡ x.lines
  pub excess : y.excess ≡ x.excess
  pub replies : y.replies ≡ x.replies
  pub taken : y.replica.taken ≡ x.replica.taken

runs : (plan : Plan) (k : ℕ) (p : Part) (x : Draft) (reading : ℕ) → Plays plan k p x.replica → owed_oks reading x ≡ pay_run reading (owed_in plan p) x
unfolding owed_oks
runs plan k p x reading h = on_true (active x.replica.log) _ x (subst (λ l. IsTrue (active l)) (sym h.log) (is_active plan k p)) ∙ ap (λ ss. pay_run reading ss x) h.owed

owes_still : (x : Draft) (ss : List Stamp) → x.replica.owed ≡ ss → IsAlike x.replica (owing ss x).replica
unfolding owing
owes_still x ss e = record { me = refl; n = refl; log = refl; issued = refl; received = refl; votes = refl; owed = sym e; pushed = refl; taken = refl }

silent_owing : (x : Draft) (ss : List Stamp) → IsSilent x (owing ss x) × ((owing ss x).sends ≡ x.sends)
unfolding owing
silent_owing x ss = (record { batch = refl; lines = refl; excess = refl; replies = refl; taken = refl }, refl)

-- nothing is paid
pub record NotPaid (plan : Plan) (k : ℕ) (p : Part) (x y : Draft) : Type 0 where
  pub plays : Plays plan k p y.replica
  pub silent : IsSilent x y
  pub sends : y.sends ≡ x.sends

not_paid : (plan : Plan) (k : ℕ) (p : Part) (x y : Draft) → Plays plan k p x.replica → y ≡ owing (owed_in plan p) x → NotPaid plan k p x y
not_paid plan k p x y h e =
    let q : NotPaid plan k p x (owing (owed_in plan p) x) = record {
      plays = plays_alike plan k p (owes_still x (owed_in plan p) h.owed) h;
      silent = (silent_owing x (owed_in plan p)).0;
      sends = (silent_owing x (owed_in plan p)).1;
    } in
    subst (NotPaid plan k p x) (sym e) q

would_be : (plan : Plan) (k : ℕ) (x : Draft) (reading : ℕ) (p : Part) → IsFirst p → Plays plan k p x.replica → would x reading ≡ Some (max reading 1)
unfolding would issue last_issued first_of
would_be plan k x reading Part.Bare f h = ap (λ l. issue (unwrap_or (first_of l) 0) reading) h.issued ∙ last
  where
    last : issue 0 reading ≡ Some (max reading 1)
    last = refl
would_be plan k x reading Part.Owing f h = ap (λ l. issue (unwrap_or (first_of l) 0) reading) h.issued ∙ last
  where
    last : issue 0 reading ≡ Some (max reading 1)
    last = refl
would_be plan k x reading (Part.Passed t) f h = absurd f
would_be plan k x reading (Part.Done t) f h = absurd f

empty_run : (reading : ℕ) (x : Draft) → pay_run reading [] x ≡ owing [] x
unfolding pay_run
empty_run reading x = refl

one_run : (reading t : ℕ) (s : Stamp) (x : Draft) → would x reading ≡ Some t → pay_run reading (s ∷ []) x ≡ (when nat_lt s.time t then owing [] (pay s t x) otherwise owing (s ∷ []) x)
unfolding pay_run
one_run reading t s x e =
    ap (λ (o : Option ℕ). option_map_or (λ u. when nat_lt s.time u then owing [] (pay s u x) otherwise owing (s ∷ []) x) o (owing (s ∷ []) x)) e

pub pays_not : (plan : Plan) (k : ℕ) (p : Part) (x : Draft) (reading : ℕ) → 1 ≤ stamped plan → Plays plan k p x.replica → (p ≡ Part.Owing → reading ≤ stamped plan) → NotPaid plan k p x (owed_oks reading x)
pays_not plan k Part.Bare x reading pos h le = not_paid plan k Part.Bare x _ h (runs plan k Part.Bare x reading h ∙ empty_run reading x)
pays_not plan k (Part.Passed t) x reading pos h le = not_paid plan k (Part.Passed t) x _ h (runs plan k (Part.Passed t) x reading h ∙ empty_run reading x)
pays_not plan k (Part.Done t) x reading pos h le = not_paid plan k (Part.Done t) x _ h (runs plan k (Part.Done t) x reading h ∙ empty_run reading x)
pays_not plan k Part.Owing x reading pos h le =
    let s = the_stamp plan in
    let early = le refl in
    let small : max reading 1 ≤ stamped plan = omega (arith, early, pos) in
    not_paid plan k Part.Owing x _ h
    (runs plan k Part.Owing x reading h ∙ one_run reading (max reading 1) s x (would_be plan k x reading Part.Owing tt h)
    ∙ on_false (nat_lt s.time (max reading 1)) _ _ (grind (arith, nat_tests, small)))

-- the command is acknowledged under the reading
pub record HasPaid (plan : Plan) (k reading : ℕ) (x y : Draft) : Type 0 where
  pub plays : Plays plan k (Part.Passed reading) y.replica
  pub silent : IsSilent x y
  pub sends : y.sends ≡ x.sends ++ frames plan k (InEpoch.PrepareOk (the_stamp plan) reading)

pays_it : (plan : Plan) (k t : ℕ) (x : Draft) → stamped plan ≤ t → Plays plan k Part.Owing x.replica → HasPaid plan k t x (owing [] (pay (the_stamp plan) t x))
unfolding owing pay push_to_members push_to issued_at
pays_it plan k t x le h = record {
  plays = record {
    me = h.me;
    n = h.n;
    log = h.log;
    issued = ap (λ l. t ∷ l) h.issued;
    owed = refl;
    past = le;
    pushed = λ f. absurd f;
    took = h.took;
    heard = h.heard;
    votes = h.votes;
    own = λ l. h.own tt;
    apart = h.apart;
  };
  silent = record { batch = refl; lines = refl; excess = refl; replies = refl; taken = refl };
  sends = pushes plan k Part.Owing (InEpoch.PrepareOk (the_stamp plan) t) (issued_at t x) h.me h.n h.log (h.pushed tt);
}

pub pays : (plan : Plan) (k : ℕ) (x : Draft) (reading : ℕ) → 1 ≤ stamped plan → Plays plan k Part.Owing x.replica → stamped plan < reading → HasPaid plan k reading x (owed_oks reading x)
pays plan k x reading pos h lt =
    let s = the_stamp plan in
    let t = max reading 1 in
    let same : t ≡ reading = omega (arith, lt, pos) in
    let more : stamped plan < t = omega (arith, lt, pos) in
    let is : owed_oks reading x ≡ owing [] (pay s t x) =
    runs plan k Part.Owing x reading h ∙ one_run reading t s x (would_be plan k x reading Part.Owing tt h) ∙ on_true (nat_lt s.time t) _ _ (grind (arith, nat_tests, more)) in
    subst (HasPaid plan k reading x) (sym (is ∙ ap (λ u. owing [] (pay s u x)) same)) (pays_it plan k reading x (omega (arith, lt)) h)
