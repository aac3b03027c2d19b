-- The end of each step of a timeline: the command is executed if it is ready, and the waiting client is answered.
use Rattle.std.proofs.Common.{◌≡◌, ℕ, ◌≤◌, ◌<◌, List, [], ◌∷◌, ◌++◌, refl, sym, ◌∙◌, ap, subst, Bool, true, false, map}
use Rattle.std.specs.Prelude.{IsTrue, Option, Some, None, filter, option_to_list}
use Rattle.std.proofs.lemmas.Bool.{false≢true}
use Rattle.std.proofs.lemmas.List.{append-nil}
use Rattle.crsm_spec.specs.Choice.{when◌then◌otherwise◌}
use Rattle.crsm_spec.specs.Types.{Stamp, Entry, Rec}
use Rattle.crsm_spec.specs.Lists.{Among}
use Rattle.crsm_spec.specs.Lines.{exec_line, exec_lines, lines_of}
use Rattle.crsm_spec.specs.Log.{active, unexecuted, executed}
use Rattle.crsm_spec.specs.Replica.{Replica, Waiting}
use Rattle.crsm_spec.specs.Ready.{is_ready}
use Rattle.crsm_spec.specs.Draft.{Draft, keep, reply}
use Rattle.crsm_spec.specs.Clients.{commit_run, commits, replies, answer_each, answer_found, reply_ok, reply_dropped, find_executed}
use Rattle.crsm_fact_log.proofs.Lists.{filter-push}
use Rattle.crsm_law_active.proofs.Ending.{on_true, on_false, by_when}
use Rattle.crsm_spec_plan.specs.declared.Plan.{Plan}
use Rattle.crsm_spec_plan.specs.Timelines.{is_exec}
use Rattle.crsm_law_timing.proofs.Local.{Part, Plays, IsComplete, the_stamp, the_entry, left_in, is_active, is_left, finds_it, is_ready_then, complete_if_ready}

-- ---- all that a part in a timeline speaks of

pub record IsAlike (a b : Replica) : Type 0 where
  pub me : b.me ≡ a.me
  pub n : b.n ≡ a.n
  pub log : b.log ≡ a.log
  pub issued : b.issued ≡ a.issued
  pub received : b.received ≡ a.received
  pub votes : b.votes ≡ a.votes
  pub owed : b.owed ≡ a.owed
  pub pushed : b.pushed ≡ a.pushed
  pub taken : b.taken ≡ a.taken

pub alike_then : {a b c : Replica} → IsAlike a b → IsAlike b c → IsAlike a c
alike_then p q = record { me = q.me ∙ p.me; n = q.n ∙ p.n; log = q.log ∙ p.log; issued = q.issued ∙ p.issued; received = q.received ∙ p.received; votes = q.votes ∙ p.votes; owed = q.owed ∙ p.owed; pushed = q.pushed ∙ p.pushed; taken = q.taken ∙ p.taken }

pub plays_alike : (plan : Plan) (k : ℕ) (p : Part) {a b : Replica} → IsAlike a b → Plays plan k p a → Plays plan k p b
plays_alike plan k p {a} {b} s h = record {
  me = s.me ∙ h.me;
  n = s.n ∙ h.n;
  log = s.log ∙ h.log;
  issued = s.issued ∙ h.issued;
  owed = s.owed ∙ h.owed;
  past = h.past;
  pushed = λ f. s.pushed ∙ h.pushed f;
  took = λ m t x. subst (λ l. Among l m) (sym s.taken) (h.took m t (subst (λ l. Among l (m, t)) s.received x));
  heard = λ m x. let g = h.heard m (subst (λ l. Among l m) s.taken x) in (g.0, subst (λ l. Among l (m, g.0)) (sym s.received) g.1, g.2);
  votes = λ m x ne. subst (λ l. Among l (the_stamp plan, m)) (sym s.votes) (h.votes m (subst (λ l. Among l m) s.taken x) ne);
  own = λ l. let o = h.own l in (subst (λ v. Among v (the_stamp plan, k)) (sym s.votes) o.0, subst (λ v. Among v (the_stamp plan, plan.origin)) (sym s.votes) o.1);
  apart = λ m x. h.apart m (subst (λ l. Among l m) s.taken x);
}

-- ---- replies

-- nothing but replies is added, and no replica executes by them
pub record IsAnswered (x y : Draft) : Type 0 where
  pub alike : IsAlike x.replica y.replica
  pub batch : y.batch ≡ x.batch
  pub lines : y.lines ≡ x.lines
  pub excess : y.excess ≡ x.excess
  pub sends : y.sends ≡ x.sends
  pub quiet : (i : ℕ) → filter (is_exec i) (map (λ a. a.line) y.replies) ≡ filter (is_exec i) (map (λ a. a.line) x.replies)

answered_then : {x y z : Draft} → IsAnswered x y → IsAnswered y z → IsAnswered x z
answered_then p q = record { alike = alike_then p.alike q.alike; batch = q.batch ∙ p.batch; lines = q.lines ∙ p.lines; excess = q.excess ∙ p.excess; sends = q.sends ∙ p.sends; quiet = λ i. q.quiet i ∙ p.quiet i }

alike_self : (r : Replica) (ws : List Waiting) → IsAlike r (record r { waiting = ws })
alike_self r ws = record { me = refl; n = refl; log = refl; issued = refl; received = refl; votes = refl; owed = refl; pushed = refl; taken = refl }

waits_on : (x : Draft) (ws : List Waiting) → IsAnswered x (record x { replica = record x.replica { waiting = ws } })
waits_on x ws = record { alike = alike_self x.replica ws; batch = refl; lines = refl; excess = refl; sends = refl; quiet = λ i. refl }

map_end : {A B : Type 0} (f : A → B) (xs : List A) (a : A) → map f (xs ++ a ∷ []) ≡ map f xs ++ f a ∷ []
map_end f [] a = refl
map_end f (x ∷ xs) a = ap (λ l. f x ∷ l) (map_end f xs a)

found_answers : (w : Waiting) (p : Option (ℕ × Entry)) (x : Draft) → IsAnswered x (answer_found w p x)
unfolding answer_found reply_ok reply_dropped reply is_exec
found_answers w (Some p) x = record {
  alike = alike_self x.replica x.replica.waiting;
  batch = refl;
  lines = refl;
  excess = refl;
  sends = refl;
  quiet = λ i. ap (filter (is_exec i)) (map_end (λ a. a.line) x.replies _) ∙ filter-push (is_exec i) (map (λ a. a.line) x.replies) _ ∙ append-nil _;
}
found_answers w None x = by_when (IsAnswered x) _ _ _
    (record {
      alike = alike_self x.replica x.replica.waiting;
      batch = refl;
      lines = refl;
      excess = refl;
      sends = refl;
      quiet = λ i. ap (filter (is_exec i)) (map_end (λ a. a.line) x.replies _) ∙ filter-push (is_exec i) (map (λ a. a.line) x.replies) _ ∙ append-nil _;
    })
    (waits_on x _)

each_answers : (ws : List Waiting) (x : Draft) → IsAnswered x (answer_each ws x)
unfolding answer_each
each_answers [] x = waits_on x x.replica.waiting
each_answers (w ∷ ws) x = answered_then (found_answers w (find_executed (executed x.replica.log) w.entry) x) (each_answers ws _)

pub all_answered : (x : Draft) → IsAnswered x (replies x)
unfolding replies
all_answered x = answered_then (waits_on x []) (each_answers x.replica.waiting _)

-- ---- commits

-- How the step ends: as it was, if somebody is still to be heard; or the command is executed.
pub data Ended (plan : Plan) (k : ℕ) (p : Part) (y z : Draft) : Type 0 where
  Stays : z.lines ≡ y.lines → z.batch ≡ y.batch → Plays plan k p z.replica →
      ((t : ℕ) → p ≡ Part.Passed t → IsComplete plan k z.replica → ⊥) → Ended plan k p y z
  Executes : (t : ℕ) → p ≡ Part.Passed t → Plays plan k (Part.Done t) z.replica → IsComplete plan k z.replica →
      z.lines ≡ y.lines ++ exec_line k [] (the_entry plan) ∷ [] → z.batch ≡ y.batch ++ Rec.Commit (the_stamp plan) ∷ [] → Ended plan k p y z

complete_alike : (plan : Plan) (k : ℕ) {a b : Replica} → IsAlike a b → IsComplete plan k a → IsComplete plan k b
complete_alike plan k s c m lt ne = subst (λ l. Among l m) (sym s.taken) (c m lt ne)

complete_back : (plan : Plan) (k : ℕ) {a b : Replica} → IsAlike a b → IsComplete plan k b → IsComplete plan k a
complete_back plan k s c m lt ne = subst (λ l. Among l m) s.taken (c m lt ne)

commits_are : (plan : Plan) (k : ℕ) (p : Part) (y : Draft) → Plays plan k p y.replica → commits y ≡ commit_run (left_in plan p) y
unfolding commits
commits_are plan k p y h =
    on_true (active y.replica.log) _ _ (subst (λ l. IsTrue (active l)) (sym h.log) (is_active plan k p))
    ∙ ap (λ es. commit_run es y) (ap unexecuted h.log ∙ is_left plan k p)

kept : (plan : Plan) (k t : ℕ) (y : Draft) → Plays plan k (Part.Passed t) y.replica → Plays plan k (Part.Done t) (keep (Rec.Commit (the_stamp plan)) y).replica
unfolding keep
kept plan k t y h = record { me = h.me; n = h.n; log = ap (λ l. Rec.Commit (the_stamp plan) ∷ l) h.log; issued = h.issued; owed = h.owed; past = h.past; pushed = λ f. absurd f; took = h.took; heard = h.heard; votes = h.votes; own = h.own; apart = h.apart }

kept_line : (plan : Plan) (k t : ℕ) (y : Draft) → Plays plan k (Part.Passed t) y.replica → (keep (Rec.Commit (the_stamp plan)) y).lines ≡ y.lines ++ exec_line k [] (the_entry plan) ∷ []
unfolding keep lines_of executed exec_lines
kept_line plan k t y h =
    ap (λ me. y.lines ++ lines_of me y.replica.log (Rec.Commit (the_stamp plan))) h.me
    ∙ ap (λ l. y.lines ++ lines_of k l (Rec.Commit (the_stamp plan))) h.log
    ∙ ap (λ o. y.lines ++ exec_lines k [] (option_to_list o)) (finds_it plan k t)

kept_batch : (plan : Plan) (y : Draft) → (keep (Rec.Commit (the_stamp plan)) y).batch ≡ y.batch ++ Rec.Commit (the_stamp plan) ∷ []
unfolding keep
kept_batch plan y = refl

committed_complete : (plan : Plan) (k : ℕ) (y : Draft) → IsComplete plan k y.replica → IsComplete plan k (keep (Rec.Commit (the_stamp plan)) y).replica
unfolding keep
committed_complete plan k y c = c

one_run : (s : Stamp) (e : Entry) (y : Draft) (b : Bool) → e.stamp ≡ s → is_ready y.replica s ≡ b → commit_run (e ∷ []) y ≡ (when b then keep (Rec.Commit s) y otherwise y)
unfolding commit_run
one_run s e y b q is = ap (λ z. when is_ready y.replica z then commit_run [] (keep (Rec.Commit z) y) otherwise y) q ∙ ap (λ c. when c then keep (Rec.Commit s) y otherwise y) is

no_run : (y : Draft) → commit_run [] y ≡ y
unfolding commit_run
no_run y = refl

-- what stays as it is, when nothing is executed
as_it_is : (plan : Plan) (k : ℕ) (p : Part) (y : Draft) → Plays plan k p y.replica → commits y ≡ y → ((t : ℕ) → p ≡ Part.Passed t → IsComplete plan k y.replica → ⊥) → Ended plan k p y (replies (commits y))
as_it_is plan k p y h e not =
    let a = all_answered (commits y) in
    let b = subst (λ c. IsAlike c.replica (replies (commits y)).replica) e a.alike in
    Ended.Stays (a.lines ∙ ap (λ (c : Draft). c.lines) e) (a.batch ∙ ap (λ (c : Draft). c.batch) e) (plays_alike plan k p b h) (λ t q c. not t q (complete_back plan k b c))

pub ends : (plan : Plan) (k : ℕ) (p : Part) (y : Draft) → 1 ≤ plan.n → k < plan.n → Plays plan k p y.replica → Ended plan k p y (replies (commits y))
ends plan k Part.Bare y some lt h = as_it_is plan k Part.Bare y h (commits_are plan k Part.Bare y h ∙ no_run y) (λ t q. absurd (cc))
ends plan k (Part.Done u) y some lt h = as_it_is plan k (Part.Done u) y h (commits_are plan k (Part.Done u) y h ∙ no_run y) (λ t q. absurd (cc))
ends plan k Part.Owing y some lt h = go (is_ready y.replica (the_stamp plan)) refl
  where
    go : (b : Bool) → is_ready y.replica (the_stamp plan) ≡ b → Ended plan k Part.Owing y (replies (commits y))
    go true r = absurd ((complete_if_ready plan k Part.Owing y.replica lt h r).1 tt)
    go false r = as_it_is plan k Part.Owing y h (commits_are plan k Part.Owing y h ∙ one_run (the_stamp plan) (the_entry plan) y false refl r ∙ on_false false _ _ refl) (λ t q. absurd (cc))
ends plan k (Part.Passed t) y some lt h = go (is_ready y.replica (the_stamp plan)) refl
  where
    go : (b : Bool) → is_ready y.replica (the_stamp plan) ≡ b → Ended plan k (Part.Passed t) y (replies (commits y))
    go false r = as_it_is plan k (Part.Passed t) y h (commits_are plan k (Part.Passed t) y h ∙ one_run (the_stamp plan) (the_entry plan) y false refl r ∙ on_false false _ _ refl)
        (λ u q c. false≢true (sym r ∙ is_ready_then plan k t y.replica some h c))
    go true r =
        let c = commits_are plan k (Part.Passed t) y h ∙ one_run (the_stamp plan) (the_entry plan) y true refl r ∙ on_true true _ _ refl in
        let a = subst (λ x. IsAnswered x (replies (commits y))) c (all_answered (commits y)) in
        Ended.Executes t refl (plays_alike plan k (Part.Done t) a.alike (kept plan k t y h))
        (complete_alike plan k a.alike (committed_complete plan k y (complete_if_ready plan k (Part.Passed t) y.replica lt h r).0))
        (a.lines ∙ kept_line plan k t y h) (a.batch ∙ kept_batch plan y)
