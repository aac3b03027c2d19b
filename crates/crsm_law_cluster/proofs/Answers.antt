-- Replies sent to clients are right, and answered entries are durable.
use Rattle.std.proofs.Common.{◌≡◌, ℕ, List, [], ◌∷◌, refl, sym, ◌∙◌, ap, subst, inl, arith}
use Rattle.std.specs.Prelude.{Option, Some, None, slice_get}
use Rattle.std.specs.Option.{option_map_or}
use Rattle.std.proofs.lemmas.Option.{none-some, same_Some}
use Rattle.crsm_spec.specs.Types.{Stamp, Entry, Answer, Line}
use Rattle.crsm_spec.specs.Lists.{Among, first_of}
use Rattle.crsm_spec.specs.Log.{executed}
use Rattle.crsm_spec.specs.Draft.{Reply}
use Rattle.crsm_spec.specs.World.{World, log_at}
use Rattle.crsm_fact_log.proofs.Lists.{get_some}
use Rattle.crsm_law_steps.specs.Laws.{LogsGoOn}
use Rattle.crsm_law_steps.proofs.Moments.{on_then}
use Rattle.crsm_law_runs.specs.Last.{IsDurableIn}
use Rattle.crsm_law_runs.proofs.Words.{IsLast, IsRight}
use Rattle.crsm_law_runs.proofs.Holds.{Holds, IsWithin}
use Rattle.crsm_law_runs.proofs.Moments.{seen_holds}
use Rattle.crsm_law_runs.proofs.Runs.{executed_longer}
use Rattle.crsm_law_runs.proofs.DurableLists.{prefix_get}
use Rattle.crsm_law_cluster.specs.Clusters.{Event, Outgoing, Process, Cluster, host_at, next_out}
use Rattle.crsm_law_cluster.specs.Histories.{last_cluster}
use Rattle.crsm_law_cluster.specs.Told.{Says, IsTold}
use Rattle.crsm_law_cluster.specs.Showing.{AreShownBy}
use Rattle.crsm_law_cluster.specs.OneList.{one_list, world_of}
use Rattle.crsm_law_cluster.specs.ClusterLaws.{IsHistory, IsRightAnswer, IsRightDrop, AnswersAreRight, AnsweredAreDurable}
use Rattle.crsm_law_cluster.proofs.Last.{shown, last}
use Rattle.crsm_law_cluster.proofs.Durable.{durable_there}

-- what goes out next waited in the outbox
waits : (c : Cluster) (k : ℕ) (a : Reply) → next_out c k ≡ Some (Outgoing.ToClient a) → (x : Process) × ((host_at c k).process ≡ Some x) × Among x.outbox (Outgoing.ToClient a)
unfolding next_out first_of
waits c k a e = go (host_at c k).process refl e
  where
    first : (os : List Outgoing) → first_of os ≡ Some (Outgoing.ToClient a) → Among os (Outgoing.ToClient a)
    first [] q = absurd (none-some _ q)
    first (o ∷ os) q = inl (same_Some o (Outgoing.ToClient a) q)

    go : (p : Option Process) → (host_at c k).process ≡ p → option_map_or (λ (x : Process). first_of x.outbox) p None ≡ Some (Outgoing.ToClient a) → (x : Process) × ((host_at c k).process ≡ Some x) × Among x.outbox (Outgoing.ToClient a)
    go None is q = absurd (none-some _ q)
    go (Some x) is q = (x, is, first x.outbox q)

module _ (n : ℕ) (h : List Event) (q : IsHistory n h) where
  abbrev end : World
  end = (shown n h q).end

  abbrev list : List Entry
  list = one_list n h

  -- the same, in the words of the laws of lines
  last_line : IsLast n end list
  last_line = let l = last n h q in record { most = l.most; reached = l.reached; short = l.short; prefix = l.prefix; held = l.held }

  told_at : (c d : Cluster) (k : ℕ) (a : Reply) → (t : AreShownBy n c d end) → next_out c k ≡ Some (Outgoing.ToClient a) → IsTold n t.world a
  told_at c d k a t e = let x = waits c k a e in t.shown.told k x.0 a x.1 x.2

  holds : (w : World) (a : Reply) (t : IsTold n w a) → LogsGoOn w end → Holds end list t.world t.lines
  holds w a t on = seen_holds n end list last_line t.world t.lines t.seen (on_then t.world w end t.goes_on on)

  right : (w : World) (a : Reply) → IsTold n w a → LogsGoOn w end → IsRight end list a.line
  right w a t on = subst (IsRight end list) t.is ((holds w a t on).right t.told t.among)

  within : (w : World) (a : Reply) (t : IsTold n w a) → LogsGoOn w end → IsWithin (log_at t.world) a.line
  within w a t on = subst (IsWithin (log_at t.world)) t.is ((holds w a t on).within t.told t.among)

  to_end : (c d : Cluster) (t : AreShownBy n c d end) → LogsGoOn t.world end
  to_end c d t = on_then t.world t.next end t.later t.goes_on

  said : (w : World) (a : Reply) (line : Line) → IsTold n w a → a.line ≡ line → Says a.client a.number a.says line
  said w a line t e = subst (Says a.client a.number a.says) e t.says

  right_answer : (j client number place : ℕ) (a : Answer) (reply : Reply) (w : World) → IsTold n w reply → LogsGoOn w end → reply.line ≡ Line.ReplyOk j client number place a → IsRightAnswer n h j place a reply
  right_answer j client number place a reply w t on e =
      let r = subst (IsRight end list) e (right w reply t on) in
      let s = said w reply (Line.ReplyOk j client number place a) t e in
      record { entry = r.0; at = r.1; origin = r.2; client = r.3 ∙ sym s.0; number = r.4 ∙ sym s.1; says = s.2 }

  right_drop : (j client number epoch : ℕ) (s : Stamp) (reply : Reply) (w : World) → IsTold n w reply → LogsGoOn w end → reply.line ≡ Line.ReplyDropped j client number epoch s → IsRightDrop n h j epoch s reply
  right_drop j client number epoch s reply w t on e =
      let r = subst (IsRight end list) e (right w reply t on) in
      let y = said w reply (Line.ReplyDropped j client number epoch s) t e in
      record { origin = ap (λ (z : Stamp). z.origin) (sym r.4) ∙ r.2; says = y.2; none = r.7 }

  -- what was answered at a place is executed from then on
  pub answered_durable : (k m client number place : ℕ) (a : Answer) (reply : Reply) (c d : Cluster) (e : Entry) → (t : AreShownBy n c d end) → next_out c k ≡ Some (Outgoing.ToClient reply) →
      reply.line ≡ Line.ReplyOk m client number place a → slice_get list place ≡ Some e → IsDurableIn (world_of (last_cluster n h)) list (world_of d) e place
  answered_durable k m client number place a reply c d e t out is there =
      let told = told_at c d k reply t out in
      let in_time = subst (IsWithin (log_at told.world)) is (within t.world reply told (to_end c d t)) in
      let longer = executed_longer (log_at told.world m) (log_at t.next m) (on_then told.world t.world t.next told.goes_on t.later m) in
      let x = get_some (executed (log_at t.next m)) place (omega (arith, in_time, longer)) in
      let same_one = same_Some x.0 e (sym (prefix_get (executed (log_at t.next m)) list ((last n h q).prefix m (log_at t.next m) (t.goes_on m)) place x.0 x.1) ∙ there) in
      durable_there n h q d t.next t.next_shown t.goes_on m place e (subst (λ z. slice_get (executed (log_at t.next m)) place ≡ Some z) same_one x.1)

pub answers_are_right : AnswersAreRight
answers_are_right n h q = record {
  answered = λ i k j client number place a reply said e.
      let t = (shown n h q).between i i said.0 said.0 (omega arith) said.1.cluster said.1.cluster in
      right_answer n h q j client number place a reply t.world (told_at n h q said.0 said.0 k reply t said.2) (to_end n h q said.0 said.0 t) e;
  dropped = λ i k j client number epoch s reply said e.
      let t = (shown n h q).between i i said.0 said.0 (omega arith) said.1.cluster said.1.cluster in
      right_drop n h q j client number epoch s reply t.world (told_at n h q said.0 said.0 k reply t said.2) (to_end n h q said.0 said.0 t) e;
}

pub answered_are_durable : AnsweredAreDurable
answered_are_durable n h q i j k m client number place a reply c e le said is at there =
    let t = (shown n h q).between i j said.0 c le said.1.cluster at in
    answered_durable n h q k m client number place a reply said.0 c e t said.2 is there
