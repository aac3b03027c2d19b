-- Requests: the reasons for refusing them, and how they are submitted.
use Rattle.std.proofs.Common.{◌≡◌, ◌∙◌, ℕ, ◌<◌, ◌≤◌, ◌^◌, refl, ap, sym, subst, length, true, false}
use Rattle.std.specs.Prelude.{◌≢◌, None, Some}
use Rattle.crsm_base.specs.Limits.{most_own}
use Rattle.crsm_base.specs.Spelling.{FitsCommand, FitsEntry}
use Rattle.crsm_spec.specs.Types.{Stamp, Entry, Command, Refusal, Rec, InEpoch}
use Rattle.crsm_spec.specs.Choice.{when◌then◌otherwise◌}
use Rattle.crsm_spec.specs.Clock.{u64_max}
use Rattle.crsm_spec.specs.Log.{Log, known, live, suspended, active}
use Rattle.crsm_spec.specs.Replica.{Replica, last_issued, is_congested}
use Rattle.crsm_spec.specs.Draft.{Draft, keep, count_vote, would, issued_at, push_to, push_to_members}
use Rattle.crsm_spec.specs.Clients.{own_unexecuted, refusal, refuse, await, submit, submit_at, take_or_refuse, on_request}
use Rattle.crsm_spec.specs.Step.{if_fitting}
use Rattle.crsm_replica.specs.declared.state.ReplicaState.{ReplicaState}
use Rattle.crsm_replica.specs.Replica.{ReplicaStands}
use Rattle.crsm_core.proofs.Fitting.{if_not, stands_as, done, ignored, is_le, not_le, is_eq, not_eq}

pub runs : (log : Log) → live log ≡ true → suspended log ≡ false → active log ≡ true
unfolding active
runs log l s = rw (l, s) refl

-- ---- refusals, by the first cause

pub not_live : (r : Replica) → live r.log ≡ false → Some Refusal.NotLive ≡ refusal r
unfolding refusal when◌then◌otherwise◌
not_live r l = rw l refl

pub held : (r : Replica) → live r.log ≡ true → suspended r.log ≡ true → Some Refusal.Suspended ≡ refusal r
unfolding refusal when◌then◌otherwise◌
held r l s = rw (l, s) refl

pub busy : (r : Replica) → live r.log ≡ true → suspended r.log ≡ false → most_own ≤ length (own_unexecuted r) → Some Refusal.Busy ≡ refusal r
unfolding refusal when◌then◌otherwise◌
busy r l s b = rw (l, s, is_le most_own (length (own_unexecuted r)) b) refl

pub congested : (r : Replica) → live r.log ≡ true → suspended r.log ≡ false → length (own_unexecuted r) < most_own → is_congested r ≡ true →
    Some Refusal.Congested ≡ refusal r
unfolding refusal when◌then◌otherwise◌
congested r l s b g = rw (l, s, not_le most_own (length (own_unexecuted r)) b, g) refl

pub clock_spent : (r : Replica) → live r.log ≡ true → suspended r.log ≡ false → length (own_unexecuted r) < most_own → is_congested r ≡ false →
    last_issued r ≡ u64_max → Some Refusal.ClockSpent ≡ refusal r
unfolding refusal when◌then◌otherwise◌
clock_spent r l s b g t = rw (l, s, not_le most_own (length (own_unexecuted r)) b, g, is_eq (last_issued r) u64_max t) refl

pub taken : (r : Replica) → live r.log ≡ true → suspended r.log ≡ false → length (own_unexecuted r) < most_own → is_congested r ≡ false →
    last_issued r ≢ u64_max → None ≡ refusal r
unfolding refusal when◌then◌otherwise◌
taken r l s b g t = rw (l, s, not_le most_own (length (own_unexecuted r)) b, g, not_eq (last_issued r) u64_max t) refl

-- ---- the rule

pub refused : (address : ℕ) (c : Command) (reading : ℕ) (x : Draft) (why : Refusal) → Some why ≡ refusal x.replica →
    refuse address c why x ≡ on_request address c reading x
unfolding on_request take_or_refuse
refused address c reading x why h = rw (← h) refl

pub no_time : (address : ℕ) (c : Command) (reading : ℕ) (x : Draft) → None ≡ refusal x.replica → None ≡ would x reading →
    x ≡ on_request address c reading x
unfolding on_request take_or_refuse submit_at
no_time address c reading x h w = rw (← h, ← w) refl

pub submits : (address : ℕ) (c : Command) (reading t : ℕ) (x : Draft) → None ≡ refusal x.replica → Some t ≡ would x reading →
    submit address c t x ≡ on_request address c reading x
unfolding on_request take_or_refuse submit_at
submits address c reading t x h w = rw (← h, ← w) refl

-- ---- submitting

-- the stamp and the entry of a request
abbrev pub stamp_for : ℕ → Draft → Stamp
stamp_for t x = record { time = t; origin = x.replica.me }

abbrev pub entry_for : Command → ℕ → Draft → Entry
entry_for c t x = record { epoch = known x.replica.log; stamp = stamp_for t x; command = c }

pub stamp_is : (t m : ℕ) (x : Draft) → m ≡ x.replica.me → record { time = t; origin = m } ≡ stamp_for t x
stamp_is t m x e = ap (λ (o : ℕ). record { time = t; origin = o }) e

pub entry_is : (c d : Command) (t m k : ℕ) (x : Draft) → m ≡ x.replica.me → k ≡ known x.replica.log → d ≡ c →
    record { epoch = k; stamp = record { time = t; origin = m }; command = d } ≡ entry_for c t x
entry_is c d t m k x p q r =
    let a : Entry = record { epoch = k; stamp = record { time = t; origin = m }; command = d } in
    let b : Entry = record { epoch = k; stamp = record { time = t; origin = x.replica.me }; command = d } in
    let f : Entry = record { epoch = known x.replica.log; stamp = record { time = t; origin = x.replica.me }; command = d } in
    let one : a ≡ b = ap (λ (o : ℕ). record { epoch = k; stamp = record { time = t; origin = o }; command = d }) p in
    let two : b ≡ f = ap (λ (o : ℕ). record { epoch = o; stamp = stamp_for t x; command = d }) q in
    let three : f ≡ entry_for c t x = ap (λ (o : Command). record { epoch = known x.replica.log; stamp = stamp_for t x; command = o }) r in
    one ∙ two ∙ three

pub entry_fits : (c d : Command) (t m k : ℕ) → d ≡ c → FitsCommand c → t < 2 ^ 64 → m < 15 → k < 2 ^ 64 →
    FitsEntry (record { epoch = k; stamp = record { time = t; origin = m }; command = d })
entry_fits c d t m k e f a b g = record { epoch = g; stamp = record { time = a; origin = b }; command = subst FitsCommand (sym e) f }

-- the record is kept before the time is issued; f is the entry that is awaited, and m votes
abbrev pub submitted : ℕ → Stamp → Entry → Entry → ℕ → ℕ → Draft → Draft
submitted address s e f m t x = push_to_members (InEpoch.Prepare e) (issued_at t (await address f (count_vote s m (keep (Rec.Prepare e) x))))

submitted_is : (address : ℕ) (c : Command) (t : ℕ) (x : Draft) →
    submitted address (stamp_for t x) (entry_for c t x) (entry_for c t x) x.replica.me t x ≡ submit address c t x
unfolding submit keep count_vote await issued_at
submitted_is address c t x = refl

submitted_as : (address : ℕ) (c : Command) (t : ℕ) (x : Draft) (s : Stamp) (e f : Entry) (m : ℕ) →
    m ≡ x.replica.me → s ≡ stamp_for t x → e ≡ entry_for c t x → f ≡ e → submitted address s e f m t x ≡ submit address c t x
submitted_as address c t x s e f m a b d g =
    let e0 : Entry = entry_for c t x in
    ap (λ (h : Entry). submitted address s e h m t x) (g ∙ d) ∙ ap (λ (h : Entry). submitted address s h e0 m t x) d
    ∙ ap (λ (h : Stamp). submitted address h e0 e0 m t x) b ∙ ap (λ (h : ℕ). submitted address (stamp_for t x) e0 e0 h t x) a ∙ submitted_is address c t x

fits_as : (address : ℕ) (s : Stamp) (e f : Entry) (m t : ℕ) (x : Draft) → (submitted address s e f m t x).fitting ≡ (keep (Rec.Prepare e) x).fitting
unfolding push_to_members push_to issued_at await count_vote
fits_as address s e f m t x = refl

pub is_submitted : (state : ReplicaState) (address : ℕ) (c : Command) (t : ℕ) (x : Draft) (s : Stamp) (e f : Entry) (m : ℕ) →
    m ≡ x.replica.me → s ≡ stamp_for t x → e ≡ entry_for c t x → f ≡ e → (keep (Rec.Prepare e) x).fitting ≡ true →
    ReplicaStands state (submitted address s e f m t x) → ReplicaStands state (if_fitting x (submit address c t x))
is_submitted state address c t x s e f m a b d g fit stands =
    done state x (submit address c t x) (submitted address s e f m t x) (submitted_as address c t x s e f m a b d g) (fits_as address s e f m t x ∙ fit) stands

pub is_not_submitted : (state : ReplicaState) (address : ℕ) (c : Command) (t : ℕ) (x : Draft) (e : Entry) →
    e ≡ entry_for c t x → (keep (Rec.Prepare e) x).fitting ≡ false →
    ReplicaStands state (if_fitting x (keep (Rec.Prepare e) x)) → ReplicaStands state (if_fitting x (submit address c t x))
is_not_submitted state address c t x e d fit stands =
    let m = x.replica.me in
    let s = stamp_for t x in
    ignored state x (submit address c t x)
    (ap (λ (y : Draft). y.fitting) (sym (submitted_as address c t x s e e m refl refl d refl)) ∙ fits_as address s e e m t x ∙ fit)
    (stands_as state (if_fitting x (keep (Rec.Prepare e) x)) x (if_not x (keep (Rec.Prepare e) x) fit) stands)

pub would_kept : (address : ℕ) (f : Entry) (s : Stamp) (m : ℕ) (rec : Rec) (x : Draft) (reading : ℕ) →
    would (await address f (count_vote s m (keep rec x))) reading ≡ would x reading
unfolding would last_issued await count_vote keep
would_kept address f s m rec x reading = refl
