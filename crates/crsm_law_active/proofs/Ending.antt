-- The effect of commits, replies, sent acknowledgements and clock times on a draft.
use Rattle.std.proofs.Common.{◌≡◌, ℕ, ◌+◌, ◌≤◌, List, [], ◌∷◌, ◌++◌, length, refl, sym, ◌∙◌, ap, subst, Bool, true, false, arith, append_assoc}
use Rattle.std.specs.Prelude.{Option, Some, None}
use Rattle.std.specs.Option.{option_map_or}
use Rattle.std.proofs.lemmas.Bool.{false≢true}
use Rattle.crsm_spec.specs.Choice.{when◌then◌otherwise◌}
use Rattle.crsm_spec.specs.Types.{Stamp, Entry, Rec}
use Rattle.crsm_spec.specs.Log.{Log, active, unexecuted, executed}
use Rattle.crsm_spec.specs.Replica.{Waiting}
use Rattle.crsm_spec.specs.Ready.{is_ready}
use Rattle.crsm_spec.specs.Draft.{Draft, keep, reply, issued_at, push_to_members, push_to, would}
use Rattle.crsm_spec.specs.Clients.{commit_run, commits, replies, answer_each, answer_found, reply_ok, reply_dropped, find_executed}
use Rattle.crsm_spec.specs.Frames.{pay, owing, pay_run, owed_oks, send_time, idle}
use Rattle.crsm_spec.specs.Step.{Input, idle_at}
use Rattle.crsm_law_active.specs.Staying.{GrowsBy, IsEndOf, ticks_in}
use Rattle.crsm_law_active.specs.Staying.GrowsBy.{same, entry, commit}

-- ---- choices

pub on_true : {A : Type 0} (c : Bool) (a b : A) → c ≡ true → (when c then a otherwise b) ≡ a
unfolding when◌then◌otherwise◌
on_true true a b e = refl
on_true false a b e = absurd (false≢true e)

pub on_false : {A : Type 0} (c : Bool) (a b : A) → c ≡ false → (when c then a otherwise b) ≡ b
unfolding when◌then◌otherwise◌
on_false true a b e = absurd (false≢true (sym e))
on_false false a b e = refl

-- what holds of both drafts holds of the one that is chosen
pub by_when : (P : Draft → Type 0) (c : Bool) (a b : Draft) → P a → P b → P (when c then a otherwise b)
unfolding when◌then◌otherwise◌
by_when P true a b p q = p
by_when P false a b p q = q

-- the same, where a test that fails is known to
pub by_test : (P : Draft → Type 0) (c : Bool) (a b : Draft) → P a → (c ≡ false → P b) → P (when c then a otherwise b)
unfolding when◌then◌otherwise◌
by_test P true a b p q = p
by_test P false a b p q = q refl

pub by_option : {A : Type 0} (P : Draft → Type 0) (f : A → Draft) (y : Draft) (o : Option A) → ((a : A) → o ≡ Some a → P (f a)) → P y → P (option_map_or f o y)
by_option P f y None p q = q
by_option P f y (Some a) p q = p a refl

-- ---- logs that grow

pub grows_then : (me : ℕ) {a b c : Log} {xs ys : List Entry} → GrowsBy me a xs b → GrowsBy me b ys c → GrowsBy me a (ys ++ xs) c
grows_then me p same = p
grows_then me p (entry f ne q) = entry f ne (grows_then me p q)
grows_then me p (commit s q) = commit s (grows_then me p q)

pub end_self : {A : Type 0} (xs : List A) → IsEndOf xs xs
end_self xs = ([], refl)

pub end_then : {A : Type 0} {xs ys zs : List A} → IsEndOf xs ys → IsEndOf ys zs → IsEndOf xs zs
end_then {xs = xs} p q = (q.0 ++ p.0, q.1 ∙ ap (λ l. q.0 ++ l) p.1 ∙ sym (append_assoc q.0 p.0 xs))

-- ---- commits and replies

-- all but the log, those who wait, and what was recorded and told
pub record IsAsBefore (x y : Draft) : Type 0 where
  pub me : y.replica.me ≡ x.replica.me
  pub n : y.replica.n ≡ x.replica.n
  pub issued : y.replica.issued ≡ x.replica.issued
  pub received : y.replica.received ≡ x.replica.received
  pub votes : y.replica.votes ≡ x.replica.votes
  pub owed : y.replica.owed ≡ x.replica.owed
  pub pushed : y.replica.pushed ≡ x.replica.pushed
  pub acked : y.replica.acked ≡ x.replica.acked
  pub taken : y.replica.taken ≡ x.replica.taken
  pub parts : y.replica.parts ≡ x.replica.parts
  pub made : y.replica.made ≡ x.replica.made
  pub sends : y.sends ≡ x.sends

pub as_before : (x : Draft) → IsAsBefore x x
as_before x = record { me = refl; n = refl; issued = refl; received = refl; votes = refl; owed = refl; pushed = refl; acked = refl; taken = refl; parts = refl; made = refl; sends = refl }

before_then : {x y z : Draft} → IsAsBefore x y → IsAsBefore y z → IsAsBefore x z
before_then p q = record {
  me = q.me ∙ p.me;
  n = q.n ∙ p.n;
  issued = q.issued ∙ p.issued;
  received = q.received ∙ p.received;
  votes = q.votes ∙ p.votes;
  owed = q.owed ∙ p.owed;
  pushed = q.pushed ∙ p.pushed;
  acked = q.acked ∙ p.acked;
  taken = q.taken ∙ p.taken;
  parts = q.parts ∙ p.parts;
  made = q.made ∙ p.made;
  sends = q.sends ∙ p.sends;
}

-- commits: the log grows by them, and the same clients wait
pub record IsCommitted (x y : Draft) : Type 0 where
  pub before : IsAsBefore x y
  pub log : GrowsBy x.replica.me x.replica.log [] y.replica.log
  pub waiting : y.replica.waiting ≡ x.replica.waiting

no_commits : (x : Draft) → IsCommitted x x
no_commits x = record { before = as_before x; log = same; waiting = refl }

one_commit : (s : Stamp) (x : Draft) → IsCommitted x (keep (Rec.Commit s) x)
unfolding keep
one_commit s x = record {
  before = record { me = refl; n = refl; issued = refl; received = refl; votes = refl; owed = refl; pushed = refl; acked = refl; taken = refl; parts = refl; made = refl; sends = refl };
  log = commit s same;
  waiting = refl;
}

committed_then : {x y z : Draft} → IsCommitted x y → IsCommitted y z → IsCommitted x z
committed_then {x} {y} {z} p q = record {
  before = before_then p.before q.before;
  log = grows_then x.replica.me p.log (subst (λ k. GrowsBy k y.replica.log [] z.replica.log) p.before.me q.log);
  waiting = q.waiting ∙ p.waiting;
}

run_commits : (es : List Entry) (x : Draft) → IsCommitted x (commit_run es x)
unfolding commit_run
run_commits [] x = no_commits x
run_commits (e ∷ es) x = by_when (IsCommitted x) (is_ready x.replica e.stamp) _ x (committed_then (one_commit e.stamp x) (run_commits es (keep (Rec.Commit e.stamp) x))) (no_commits x)

pub all_commits : (x : Draft) → IsCommitted x (commits x)
unfolding commits
all_commits x = by_when (IsCommitted x) (active x.replica.log) _ x (run_commits (unexecuted x.replica.log) x) (no_commits x)

-- replies: the log stays
pub record IsReplied (x y : Draft) : Type 0 where
  pub before : IsAsBefore x y
  pub log : y.replica.log ≡ x.replica.log

replied_then : {x y z : Draft} → IsReplied x y → IsReplied y z → IsReplied x z
replied_then p q = record { before = before_then p.before q.before; log = q.log ∙ p.log }

pub found_replied : (w : Waiting) (p : Option (ℕ × Entry)) (x : Draft) → IsReplied x (answer_found w p x)
unfolding answer_found reply_ok reply_dropped reply
found_replied w (Some p) x = record {
  before = record { me = refl; n = refl; issued = refl; received = refl; votes = refl; owed = refl; pushed = refl; acked = refl; taken = refl; parts = refl; made = refl; sends = refl };
  log = refl;
}
found_replied w None x = by_when (IsReplied x) _ _ _
    (record {
      before = record { me = refl; n = refl; issued = refl; received = refl; votes = refl; owed = refl; pushed = refl; acked = refl; taken = refl; parts = refl; made = refl; sends = refl };
      log = refl;
    })
    (record {
      before = record { me = refl; n = refl; issued = refl; received = refl; votes = refl; owed = refl; pushed = refl; acked = refl; taken = refl; parts = refl; made = refl; sends = refl };
      log = refl;
    })

pub each_replied : (ws : List Waiting) (x : Draft) → IsReplied x (answer_each ws x)
unfolding answer_each
each_replied [] x = record { before = as_before x; log = refl }
each_replied (w ∷ ws) x = replied_then (found_replied w (find_executed (executed x.replica.log) w.entry) x) (each_replied ws _)

pub all_replied : (x : Draft) → IsReplied x (replies x)
unfolding replies
all_replied x =
    let y = record x { replica = record x.replica { waiting = [] } } in
    replied_then {y = y}
    (record {
      before = record { me = refl; n = refl; issued = refl; received = refl; votes = refl; owed = refl; pushed = refl; acked = refl; taken = refl; parts = refl; made = refl; sends = refl };
      log = refl;
    })
    (each_replied x.replica.waiting y)

-- what the end of a step leaves
pub ends_before : (x : Draft) → IsAsBefore x (replies (commits x))
ends_before x = before_then (all_commits x).before (all_replied (commits x)).before

pub ends_log : (x : Draft) → GrowsBy x.replica.me x.replica.log [] (replies (commits x)).replica.log
ends_log x = subst (GrowsBy x.replica.me x.replica.log []) (sym (all_replied (commits x)).log) (all_commits x).log

-- ---- debts and clock times

-- Times are issued, pending stamps are removed, and frames are pushed; all else stays. `left` is how many times may
-- still be issued, and how many stamps are pending, in the end.
pub record IsPaid (left : ℕ) (x y : Draft) : Type 0 where
  pub me : y.replica.me ≡ x.replica.me
  pub n : y.replica.n ≡ x.replica.n
  pub log : y.replica.log ≡ x.replica.log
  pub acked : y.replica.acked ≡ x.replica.acked
  pub taken : y.replica.taken ≡ x.replica.taken
  pub parts : y.replica.parts ≡ x.replica.parts
  pub made : y.replica.made ≡ x.replica.made
  pub waiting : y.replica.waiting ≡ x.replica.waiting
  pub issued : IsEndOf x.replica.issued y.replica.issued
  pub times : length y.replica.issued + length y.replica.owed ≤ left

owes_those : (ss : List Stamp) (x : Draft) → IsPaid (length x.replica.issued + length ss) x (owing ss x)
unfolding owing
owes_those ss x = record { me = refl; n = refl; log = refl; acked = refl; taken = refl; parts = refl; made = refl; waiting = refl; issued = end_self x.replica.issued; times = omega arith }

pays_one : (s : Stamp) (t : ℕ) (x : Draft) (left : ℕ) (y : Draft) → IsPaid left (pay s t x) y → IsPaid left x y
unfolding pay push_to_members push_to issued_at
pays_one s t x left y p = record { me = p.me; n = p.n; log = p.log; acked = p.acked; taken = p.taken; parts = p.parts; made = p.made; waiting = p.waiting; issued = end_then (t ∷ [], refl) p.issued; times = p.times }

pay_issues : (s : Stamp) (t : ℕ) (x : Draft) → length (pay s t x).replica.issued ≡ length x.replica.issued + 1
unfolding pay push_to_members push_to issued_at
pay_issues s t x = omega arith

one_more : (s : Stamp) (ss : List Stamp) (t : ℕ) (x y : Draft) → IsPaid (length (pay s t x).replica.issued + length ss) (pay s t x) y → IsPaid (length x.replica.issued + length (s ∷ ss)) x y
one_more s ss t x y p =
    let sum : length (pay s t x).replica.issued + length ss ≡ length x.replica.issued + length (s ∷ ss) = (let e = pay_issues s t x in omega (arith, e)) in
    pays_one s t x _ y (subst (λ m. IsPaid m (pay s t x) y) sum p)

run_pays : (reading : ℕ) (ss : List Stamp) (x : Draft) → IsPaid (length x.replica.issued + length ss) x (pay_run reading ss x)
unfolding pay_run
run_pays reading [] x = owes_those [] x
run_pays reading (s ∷ ss) x =
    let left = length x.replica.issued + length (s ∷ ss) in
    by_option (IsPaid left x) _ (owing (s ∷ ss) x) (would x reading)
    (λ t e. by_when (IsPaid left x) _ _ _ (one_more s ss t x (pay_run reading ss (pay s t x)) (run_pays reading ss (pay s t x))) (owes_those (s ∷ ss) x)) (owes_those (s ∷ ss) x)

pays_nothing : (left : ℕ) (x : Draft) → length x.replica.issued + length x.replica.owed ≤ left → IsPaid left x x
pays_nothing left x le = record { me = refl; n = refl; log = refl; acked = refl; taken = refl; parts = refl; made = refl; waiting = refl; issued = end_self x.replica.issued; times = le }

pub owed_paid : (reading : ℕ) (x : Draft) → IsPaid (length x.replica.issued + length x.replica.owed) x (owed_oks reading x)
unfolding owed_oks
owed_paid reading x = by_when (IsPaid (length x.replica.issued + length x.replica.owed) x) (active x.replica.log) _ x (run_pays reading x.replica.owed x) (pays_nothing _ x (omega arith))

time_paid : (o : Option ℕ) (x : Draft) → IsPaid (length x.replica.issued + length x.replica.owed + 1) x (send_time o x)
unfolding send_time push_to_members push_to issued_at
time_paid None x = pays_nothing _ x (omega arith)
time_paid (Some t) x = record { me = refl; n = refl; log = refl; acked = refl; taken = refl; parts = refl; made = refl; waiting = refl; issued = (t ∷ [], refl); times = omega arith }

pub idle_paid : (input : Input) (reading : ℕ) (x : Draft) → IsPaid (length x.replica.issued + length x.replica.owed + ticks_in input) x (idle_at input reading x)
unfolding idle_at idle
idle_paid Input.Ticked reading x = by_when (IsPaid (length x.replica.issued + length x.replica.owed + 1) x) _ _ x (time_paid (would x reading) x) (pays_nothing _ x (omega arith))
idle_paid (Input.Came a d) reading x = pays_nothing _ x (omega arith)
idle_paid (Input.Suspected ms) reading x = pays_nothing _ x (omega arith)

pub paid_then : {m left : ℕ} {x y z : Draft} → IsPaid m x y → IsPaid left y z → IsPaid left x z
paid_then p q = record { me = q.me ∙ p.me; n = q.n ∙ p.n; log = q.log ∙ p.log; acked = q.acked ∙ p.acked; taken = q.taken ∙ p.taken; parts = q.parts ∙ p.parts; made = q.made ∙ p.made; waiting = q.waiting ∙ p.waiting; issued = end_then p.issued q.issued; times = q.times }

-- debts and then the clock time
pub pays_in : (input : Input) (reading : ℕ) (x : Draft) → IsPaid (length x.replica.issued + length x.replica.owed + ticks_in input) x (idle_at input reading (owed_oks reading x))
pays_in input reading x =
    let y = owed_oks reading x in
    let p = owed_paid reading x in
    let q = idle_paid input reading y in
    let t = paid_then p q in
    record { me = t.me; n = t.n; log = t.log; acked = t.acked; taken = t.taken; parts = t.parts; made = t.made; waiting = t.waiting; issued = t.issued; times = (let a = p.times in let b = q.times in omega (arith, a, b)) }
