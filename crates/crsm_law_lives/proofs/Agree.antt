-- The executed lists of nodes' processes are prefixes of one list.
use Rattle.std.proofs.Common.{ℕ, ◌≤◌, List, [], ◌∷◌, sym, ◌∙◌, ap, subst, inl, inr, arith}
use Rattle.crsm_spec.specs.Lists.{Among, IsPrefixOf}
use Rattle.crsm_spec.specs.Log.{executed}
use Rattle.crsm_spec.specs.Replica.{Replica}
use Rattle.crsm_spec.specs.Draft.{Draft}
use Rattle.crsm_spec.specs.Step.{boot}
use Rattle.crsm_spec.specs.Node.{Turn, turn, outputs_from, outputs}
use Rattle.crsm_spec.specs.World.{log_at}
use Rattle.crsm_fact_log.specs.Logs.{Extends, same}
use Rattle.crsm_fact_log.proofs.Logged.{extends_trans}
use Rattle.crsm_spec_process.specs.Lives.{Life, kept_turns, kept_steps}
use Rattle.crsm_law_cluster.specs.Clusters.{Event}
use Rattle.crsm_law_cluster.specs.Histories.{last_cluster}
use Rattle.crsm_law_cluster.specs.HistoryLaws.{HasShortLogs}
use Rattle.crsm_law_cluster.proofs.Agree.{list_is}
use Rattle.crsm_law_cluster.specs.OneList.{one_list}
use Rattle.crsm_law_cluster.specs.ClusterLaws.{IsHistory}
use Rattle.crsm_law_cluster.proofs.Last.{shown, last}
use Rattle.crsm_law_cluster.proofs.Executed.{prefix_then, executed_prefix}
use Rattle.crsm_law_cluster.proofs.Turns.{turn_logs}
use Rattle.crsm_spec_process.specs.Turns.{replica_after}
use Rattle.crsm_law_lives.specs.Events.{left_by}
use Rattle.crsm_law_lives.specs.Premises.{Ran}
use Rattle.crsm_law_lives.proofs.Laws.{lives_are_lawful}

-- ---- steps and the log that they lead to

pub turn_grows : (r : Replica) (t : Turn × ℕ) → Extends r.log (turn r t).replica.log
turn_grows r t = (turn_logs r t.0 t.1).grows

pub turns_grow : (r : Replica) (ts : List (Turn × ℕ)) → Extends r.log (replica_after r ts).log
unfolding replica_after
turns_grow r [] = same
turns_grow r (t ∷ ts) = extends_trans (turn_grows r t) (turns_grow (turn r t).replica ts)

outputs_grow : (r : Replica) (ts : List (Turn × ℕ)) (x : Draft) → Among (outputs_from r ts) x → Extends x.replica.log (replica_after r ts).log
unfolding outputs_from replica_after
outputs_grow r [] x a = absurd a
outputs_grow r (t ∷ ts) x (inl e) = subst (λ (y : Draft). Extends y.replica.log (replica_after (turn r t).replica ts).log) e (turns_grow (turn r t).replica ts)
outputs_grow r (t ∷ ts) x (inr a) = outputs_grow (turn r t).replica ts x a

-- each step of a process has a log that its last log goes on from
pub steps_grow : (n : ℕ) (l : Life) (x : Draft) → Among (kept_steps n l) x → Extends x.replica.log (left_by n l)
unfolding kept_steps outputs left_by
steps_grow n l x (inl e) = subst (λ (y : Draft). Extends y.replica.log (replica_after (boot l.me n l.found).replica (kept_turns l.groups)).log) e (turns_grow (boot l.me n l.found).replica (kept_turns l.groups))
steps_grow n l x (inr a) = outputs_grow (boot l.me n l.found).replica (kept_turns l.groups) x a

-- ---- lives

module _ (n : ℕ) (ls : List Life) (h : List Event) (few : n ≤ 15) (r : Ran n ls h) (short : HasShortLogs (last_cluster n h)) where
  pub is_history : IsHistory n h
  is_history = record { most = few; lawful = (lives_are_lawful n ls h few r).lawful; short = short }

  -- the log that a process leaves has executed a prefix of the one list
  pub left_prefix : (l : Life) → Among ls l → IsPrefixOf (executed (left_by n l)) (one_list n h)
  left_prefix l a =
      let s = (lives_are_lawful n ls h few r).each l a in
      let t = (shown n h is_history).between s.last s.last s.end s.end (omega arith) s.there s.there in
      subst (λ z. IsPrefixOf z (one_list n h)) (sym (list_is n s.end t.next t.next_shown l.me) ∙ ap executed s.left)
      ((last n h is_history).prefix l.me (log_at t.next l.me) (t.goes_on l.me))

  pub agree : (l : Life) → Among ls l → (x : Draft) → Among (kept_steps n l) x → IsPrefixOf (executed x.replica.log) (one_list n h)
  agree l a x m = prefix_then (executed x.replica.log) (executed (left_by n l)) (one_list n h) (executed_prefix x.replica.log (left_by n l) (steps_grow n l x m)) (left_prefix l a)
