-- A step keeps the invariant of the transcript.
use Rattle.std.proofs.Common.{◌≡◌, ℕ, List, [], ◌++◌, sym, ◌∙◌, subst, inr}
use Rattle.std.specs.Prelude.{Some, slice_get}
use Rattle.std.proofs.lemmas.List.{append-nil}
use Rattle.crsm_spec.specs.Types.{Entry}
use Rattle.crsm_spec.specs.Lists.{Among}
use Rattle.crsm_spec.specs.Log.{executed}
use Rattle.crsm_spec.specs.Replica.{Replica}
use Rattle.crsm_spec.specs.Draft.{Draft, begun}
use Rattle.crsm_spec.specs.Step.{Input, step}
use Rattle.crsm_spec.specs.World.{Site, World, log_at}
use Rattle.crsm_spec.specs.Acts.{Act}
use Rattle.crsm_spec.specs.Run.{TraceLine}
use Rattle.crsm_fact_log.specs.Logs.{Extends, same, Logged}
use Rattle.crsm_fact_log.proofs.Logged.{extends_trans}
use Rattle.crsm_law_runs.proofs.Lists.{at_origin, executed_logged}
use Rattle.crsm_law_runs.proofs.Each.{Each}
use Rattle.crsm_law_runs.proofs.Effects.{IsSilent, Effect, Still, Quiet, Took, Stamped, Refused, Executed, AdoptedTail, AdoptedPage, Answered, effect}
use Rattle.crsm_law_runs.proofs.Words.{IsLate, IsNew, IsSubmittedIn, seen_by}
use Rattle.crsm_law_runs.proofs.Holds.{Wait, Stepping, Has, HasIn, IsHere, reply_lines}
use Rattle.crsm_fact_step.specs.Changes.{Changes, stay, and_then}
use Rattle.crsm_fact_step.proofs.Logs.{log_change, change_grows, changes_grow, replies_still}
use Rattle.crsm_fact_step.proofs.Fitted.{step_changes}
use Rattle.crsm_law_runs.proofs.Steps.{last, IsGood, spelt_w, quiet_good, took_good, executed_good, tail_good, page_good, stamped_good, is_stamped, the_entry, command_is}
use Rattle.crsm_law_runs.proofs.Replies.{refused_good, answered_good}
use Rattle.crsm_law_epoch.proofs.Worlds.{marked_sites}

-- ---- the drafts of a step

begun_grows : {r : Replica} {input : Input} {reading : ℕ} {y : Draft} → Changes r input reading (begun r) y → Extends r.log y.replica.log
unfolding begun
begun_grows p = changes_grow p

module _ {n : ℕ} {end : World} {list : List Entry} {w u : World} {lines : List TraceLine} {k : ℕ} {r : Replica} {input : Input} {reading : ℕ} {act : Act}
    (s : Stepping n end list w u lines k r input reading act) where
  begun_good : IsGood s [] (begun r)
  unfolding begun
  begun_good =
      let few = (spelt_w s).few in
      record {
        me = s.me;
        right = λ l a. absurd a;
        submitted = λ e h o. subst (λ z. IsSubmittedIn z e) (sym (append-nil lines)) (s.holds.submitted k e (subst (λ l. Logged l e) (sym s.here) h) o);
        logged = λ e h. inr (at_origin n w s.reached few (spelt_w s).messages k e (subst (λ l. Logged l e) (sym s.here) h));
        known = λ p e h. inr (executed_logged n w s.reached few (spelt_w s).messages k (log_at w k) same p e (subst (λ l. slice_get (executed l) p ≡ Some e) (sym s.here) h));
        executes = λ l a. absurd a;
        submits = λ l a. absurd a;
        late = tt;
        quiet = λ l a. absurd a;
        excess = tt;
        answers = λ a h. absurd h;
        replies = λ a h. absurd h;
        once = tt;
        wait = subst (λ z. Wait list z k r.log (r.waiting ++ [])) (sym (append-nil lines)) (subst (Wait list lines k r.log) (sym (append-nil r.waiting))
            (s.holds.wait k r (subst (λ ss. slice_get ss k ≡ Some (Site.Up r)) (marked_sites s.marks) s.up)));
      }

  still_good : (x y : Draft) → y.replica.log ≡ x.replica.log → y.lines ≡ x.lines → IsSilent x y → IsGood s [] x → IsGood s [] y
  still_good x y log same_lines q g = record {
    me = q.me ∙ g.me;
    right = λ l a. g.right l (subst (λ z. Among z l) same_lines a);
    submitted = λ e h o. subst (λ z. IsSubmittedIn (lines ++ seen_by act z) e) (sym same_lines) (g.submitted e (subst (λ l. Logged l e) log h) o);
    logged = λ e h. subst (λ l. Has w k l e) (sym log) (g.logged e (subst (λ l. Logged l e) log h));
    known = λ p e h. subst (λ l. Has w k l e) (sym log) (g.known p e (subst (λ l. slice_get (executed l) p ≡ Some e) log h));
    executes = λ l a y t h. subst (λ z. HasIn w k z y t) (sym log) (g.executes l (subst (λ z. Among z l) same_lines a) y t h);
    submits = λ l a y t h. subst (λ z. HasIn w k z y t) (sym log) (g.submits l (subst (λ z. Among z l) same_lines a) y t h);
    late = subst (λ z. Each (IsLate list) lines (seen_by act z)) (sym same_lines) g.late;
    quiet = λ l a. g.quiet l (subst (λ z. Among z l) same_lines a);
    excess = q.excess g.excess;
    answers = λ a h. let t = g.answers a (subst (λ z. Among z a) q.replies h) in (t.0, subst (λ l. IsHere k l a.line) (sym log) t.1, t.2, t.3);
    replies = λ a h y t i. subst (λ z. HasIn w k z y t) (sym log) (g.replies a (subst (λ z. Among z a) q.replies h) y t i);
    once = subst (λ z. Each IsNew lines (reply_lines act z)) (sym q.replies) g.once;
    wait = subst (λ z. Wait list (lines ++ reply_lines act z) k y.replica.log (y.replica.waiting ++ [])) (sym q.replies)
        (subst (λ z. Wait list (lines ++ reply_lines act x.replies) k y.replica.log (z ++ [])) (sym q.waiting)
        (subst (λ l. Wait list (lines ++ reply_lines act x.replies) k l (x.replica.waiting ++ [])) (sym log) g.wait));
  }

  effect_good : (x y : Draft) → Effect r input reading x y → Extends r.log x.replica.log → Extends y.replica.log (last s) → IsGood s [] x → IsGood s [] y
  effect_good x y (Still log l q) old ext g = still_good x y log l q g
  effect_good x y (Quiet rec q kept) old ext g = quiet_good s rec q x y kept [] g
  effect_good x y (Took a j e i f is ne o kept) old ext g = took_good s a j e i f is ne o x y kept [] g
  effect_good x y (Stamped a c t is) old ext g =
      let stamp = is_stamped a c t x in
      stamped_good s a (the_entry c t x) x y stamp (command_is s a c is) g.me (subst (λ l. Extends l (last s)) stamp.log ext) old g
  effect_good x y (Refused a c why) old ext g = refused_good s a c why x g
  effect_good x y (Executed e is kept) old ext g = executed_good s e x y is kept (subst (λ l. Extends l (last s)) kept.log ext) [] g
  effect_good x y (AdoptedTail d is kept) old ext g = tail_good s d x y is kept (subst (λ l. Extends l (last s)) kept.log ext) [] g
  effect_good x y (AdoptedPage j e from es h kept) old ext g = page_good s j e from es x y h kept (subst (λ l. Extends l (last s)) kept.log ext) [] g
  effect_good x y Answered old ext g = answered_good s x (subst (λ l. Extends l (last s)) (replies_still x).log ext) g

  changes_good : {y : Draft} → Changes r input reading (begun r) y → Extends y.replica.log (last s) → IsGood s [] y
  changes_good stay ext = begun_good
  changes_good (and_then {y = y} {z = z} p c f) ext =
      let e = extends_trans (change_grows y z (log_change r input reading y z c)) ext in
      effect_good y z (effect r input reading y z c) (begun_grows p) ext (changes_good p e)

  pub step_good : IsGood s [] (step r input reading)
  step_good = changes_good (step_changes r input reading) same
