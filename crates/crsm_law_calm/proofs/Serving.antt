-- A client that waits at a member is handed a reply, or keeps waiting.
use Rattle.std.proofs.Common.{◌≡◌, ℕ, List, ◌++◌, map, take, sym, ◌∙◌, ap, subst, inl, inr, arith}
use Rattle.std.specs.Prelude.{◌⊎◌, Some, slice_get}
use Rattle.crsm_base.specs.Store.{answer_after}
use Rattle.crsm_spec.specs.Types.{Entry, Line}
use Rattle.crsm_spec.specs.Lists.{Among}
use Rattle.crsm_spec.specs.Log.{Log, known, executed}
use Rattle.crsm_spec.specs.Replica.{Replica, Waiting}
use Rattle.crsm_spec.specs.Draft.{Draft, Reply}
use Rattle.crsm_spec.specs.Step.{Input, step}
use Rattle.crsm_fact_log.proofs.Lists.{among_left, among_right, get_left, get_inside, take-grown}
use Rattle.crsm_law_epoch.proofs.Words.{among_map, among_unmap}
use Rattle.crsm_law_active.specs.Staying.{GrowsBy, IsCalmInput}
use Rattle.crsm_law_active.specs.Answering.{answer_line, IsServed}
use Rattle.crsm_law_active.specs.Answering.IsServed.{Waits, Answered, Dropped}
use Rattle.crsm_law_active.proofs.Staying.{steps_stay}
use Rattle.crsm_law_active.proofs.Answering.{steps_answer}
use Rattle.crsm_law_rounds.proofs.Growing.{grows_known}
use Rattle.crsm_law_rounds.proofs.Answered.{executed_on, line_to, is_found, not_dropped, line_is}
use Rattle.crsm_law_cluster.specs.Clusters.{Outgoing, outgoing_of}

-- Among these is a reply to client c of replica k, with the answer of the entry that has its epoch and stamp.
pub record WasAnswered (k : ℕ) (c : Waiting) (es : List Entry) (made : List Outgoing) : Type 0 where
  pub found : ℕ × Entry
  pub at : slice_get es found.0 ≡ Some found.1
  pub epoch : found.1.epoch ≡ c.entry.epoch
  pub stamp : found.1.stamp ≡ c.entry.stamp
  pub reply : Reply
  pub line : reply.line ≡ line_to k c found es
  pub goes : Among made (Outgoing.ToClient reply)

-- Each of these clients of replica k waits at r still, or it was answered.
abbrev pub AreServed : List Waiting → ℕ → Replica → List Outgoing → Type 0
AreServed asked k r made = (c : Waiting) → Among asked c → Among r.waiting c ⊎ WasAnswered k c (executed r.log) made

handed_reply : (x : Draft) (a : Reply) → Among x.replies a → Among (outgoing_of x) (Outgoing.ToClient a)
unfolding outgoing_of
handed_reply x a h = among_right (map (λ s. Outgoing.ToReplica s.0 s.1) x.sends) (map Outgoing.ToClient x.replies) (Outgoing.ToClient a) (among_map Outgoing.ToClient x.replies a h)

module _ (k : ℕ) (c : Waiting) (made : List Outgoing) where
  answered_on : (me : ℕ) {a b : Log} {xs : List Entry} (more : List Outgoing) → GrowsBy me a xs b → WasAnswered k c (executed a) made → WasAnswered k c (executed b) (made ++ more)
  answered_on me {a} {b} more grows was =
      let t = executed_on me grows in
      let inside = get_inside (executed a) was.found.0 was.found.1 was.at in
      let taken : take was.found.0 (executed b) ≡ take was.found.0 (executed a) = ap (take was.found.0) t.1 ∙ take-grown (executed a) t.0 was.found.0 (omega (arith, inside)) in
      record {
        found = was.found;
        at = subst (λ l. slice_get l was.found.0 ≡ Some was.found.1) (sym t.1) (get_left (executed a) t.0 was.found.0 was.found.1 was.at);
        epoch = was.epoch;
        stamp = was.stamp;
        reply = was.reply;
        line = was.line ∙ ap (λ l. Line.ReplyOk k c.entry.command.client c.entry.command.number was.found.0 (answer_after l was.found.1)) (sym taken);
        goes = among_left made more _ was.goes;
      }

  served_now : (x : Draft) → x.replica.me ≡ k → c.entry.epoch ≡ known x.replica.log → IsServed x c → Among x.replica.waiting c ⊎ WasAnswered k c (executed x.replica.log) (made ++ outgoing_of x)
  served_now x me epoch (Waits none m) = inl m
  served_now x me epoch (Answered p found m) =
      let f = is_found c (executed x.replica.log) p found in
      let a = among_unmap (λ (a : Reply). a.line) x.replies (answer_line x c p) m in
      inr (record {
        found = p;
        at = f.0;
        epoch = f.1;
        stamp = f.2;
        reply = a.0;
        line = a.2 ∙ line_is x k c p me;
        goes = among_right made (outgoing_of x) (Outgoing.ToClient a.0) (handed_reply x a.0 a.1);
      })
  served_now x me epoch (Dropped d) = absurd (not_dropped x.replica c.entry epoch d)

-- a calm step
pub served_on : (asked : List Waiting) (k e : ℕ) (r : Replica) (input : Input) (t : ℕ) (made : List Outgoing) → IsCalmInput r input → r.me ≡ k → known r.log ≡ e → ((c : Waiting) → Among asked c → c.entry.epoch ≡ e) →
    AreServed asked k r made → AreServed asked k (step r input t).replica (made ++ outgoing_of (step r input t))
served_on asked k e r input t made calm me knows epoch h c a =
    let x = step r input t in
    let s = steps_stay r input t calm in
    elim (h c a) [
      | inl waits ↦ served_now k c made x (s.me ∙ me) (epoch c a ∙ sym (grows_known r.me s.log ∙ knows)) (steps_answer r input t calm c waits)
      | inr was ↦ inr (answered_on k c made r.me (outgoing_of x) s.log was)
    ]
