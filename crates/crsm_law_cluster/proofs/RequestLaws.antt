-- The requests of clients of running nodes, and their replies.
use Rattle.std.proofs.Common.{◌≡◌, ℕ, ◌<◌, ◌≤◌, List, [], ◌∷◌, refl, sym, ◌∙◌, ap, subst, inl, inr, arith}
use Rattle.std.specs.Prelude.{Some, None, slice_get}
use Rattle.std.specs.Option.{option_map_or}
use Rattle.std.proofs.lemmas.Bool.{cases_lt}
use Rattle.std.proofs.lemmas.Option.{none-some, same_Some}
use Rattle.crsm_spec.specs.Types.{Stamp, Command, Entry, Answer, Rec, Line}
use Rattle.crsm_spec.specs.Lists.{Among, first_of}
use Rattle.crsm_spec.specs.Log.{Log, executed}
use Rattle.crsm_spec.specs.Replica.{Waiting, fresh}
use Rattle.crsm_spec.specs.Draft.{Reply, begun, keep}
use Rattle.crsm_spec.specs.Step.{founding_boot, boot_again}
use Rattle.crsm_spec.specs.Node.{Turn, turn}
use Rattle.crsm_spec.specs.World.{World, log_at}
use Rattle.crsm_fact_log.specs.Logs.{same, Logged}
use Rattle.crsm_fact_log.proofs.Lists.{get_some, get_inside}
use Rattle.crsm_law_agreement.proofs.Coordinators.{extends_among}
use Rattle.crsm_law_agreement.proofs.Worlds.{one_entry}
use Rattle.crsm_law_bounds.specs.Bounds.{IsSpelt}
use Rattle.crsm_law_runs.proofs.Last.{is_before}
use Rattle.crsm_law_runs.proofs.Lists.{executed_logged}
use Rattle.crsm_law_runs.proofs.DurableLists.{among_place, prefix_get}
use Rattle.crsm_law_cluster.specs.Clusters.{Event, Outgoing, Process, Host, Cluster, host_at, log_in, next_out}
use Rattle.crsm_law_cluster.specs.Histories.{clusters, last_cluster}
use Rattle.crsm_law_cluster.specs.Showing.{IsShownBy, AreShownBy}
use Rattle.crsm_law_cluster.proofs.Agree.{list_is}
use Rattle.crsm_law_cluster.specs.OneList.{one_list}
use Rattle.crsm_law_cluster.specs.Going.{IsReplied}
use Rattle.crsm_law_cluster.specs.ClusterLaws.{IsHistory}
use Rattle.crsm_law_cluster.proofs.Last.{shown, last, last_among}
use Rattle.crsm_law_cluster.specs.Requests.{IsTaken, IsSubmitted, WasTaken, WasSubmitted}
use Rattle.crsm_law_cluster.specs.RequestLaws.{IsNotExecutedBy, EntriesWereSubmitted, RealTimeIsKept, RepliesReachWhoAsked}
use Rattle.crsm_law_cluster.proofs.Replying.{IsOn, IsLineOn, IsRefusal, Told}
use Rattle.crsm_law_cluster.proofs.Replying.IsLineOn.{Answers, Drops}
use Rattle.crsm_law_cluster.proofs.Replying.Told.{refuses, answers}
use Rattle.crsm_law_cluster.proofs.Turns.{turn_logs}
use Rattle.crsm_law_cluster.proofs.Along.{IsThere}
use Rattle.crsm_law_cluster.proofs.Hosts.{replies_in, replies_told, Client, Busy, Good, always_good}
use Rattle.crsm_law_cluster.proofs.Hosts.Good.{idle, busy}

no_stamp : Stamp
no_stamp = record { time = 0; origin = 0 }

-- a first boot logs no entry
founding_logs : (k n : ℕ) (e : Entry) → Logged (founding_boot k n).replica.log e → ⊥
unfolding founding_boot boot_again keep begun fresh
founding_logs k n e (inl q) = absurd (cc)
founding_logs k n e (inr (inl q)) = absurd (cc)
founding_logs k n e (inr (inr q)) = q

-- the log files of a cluster, and the world that shows them, log the same
logged_back : (n : ℕ) (c : Cluster) (w : World) → IsShownBy n c w → (k : ℕ) (e : Entry) → Logged (log_in c k) e → Logged (log_at w k) e
logged_back n c w s k e l = elim (s.logs k) [
  | inl q ↦ subst (λ z. Logged z e) q l
  | inr t ↦ absurd (subst (λ z. Logged z e) t.1 l)
]

logged_there : (n : ℕ) (c : Cluster) (w : World) → IsShownBy n c w → (k : ℕ) (e : Entry) → Logged (log_at w k) e → Logged (log_in c k) e
logged_there n c w s k e l = elim (s.logs k) [
  | inl q ↦ subst (λ z. Logged z e) (sym q) l
  | inr t ↦ absurd (founding_logs k n e (subst (λ z. Logged z e) t.2 l))
]

-- ---- what goes out

-- a reply that goes out is a refusal, or it is on an entry that is logged
pub data Goes (n : ℕ) (h : List Event) (i k : ℕ) (log : Log) (a : Reply) : Type 0 where
  Refusal : IsRefusal (WasTaken n h i k) a → Goes n h i k log a
  OnEntry : (f : Waiting) → IsOn log f a → (f.entry.stamp.origin ≡ k) × WasSubmitted n h i f.address f.entry → Logged log f.entry → Goes n h i k log a

-- the process that hands it out
pub record Hands (n : ℕ) (h : List Event) (epoch : ℕ) (stamp : Stamp) (most i k : ℕ) (c : Cluster) (a : Reply) : Type 0 where
  pub log : Log
  pub process : Process
  pub host : host_at c k ≡ record { log = log; process = Some process }
  pub state : Busy n h epoch stamp most i k log process
  pub rest : List Outgoing
  pub outbox : process.outbox ≡ Outgoing.ToClient a ∷ rest

module _ (n : ℕ) (h : List Event) (epoch : ℕ) (stamp : Stamp) (most : ℕ) where
  pub hands : (i k : ℕ) (c : Cluster) (a : Reply) → next_out c k ≡ Some (Outgoing.ToClient a) → Good n h epoch stamp most i k (host_at c k) → Hands n h epoch stamp most i k c a
  unfolding next_out first_of
  hands i k c a e g = go (host_at c k) refl e g
    where
      first : (os : List Outgoing) → first_of os ≡ Some (Outgoing.ToClient a) → (rest : List Outgoing) × (os ≡ Outgoing.ToClient a ∷ rest)
      first [] q = absurd (none-some _ q)
      first (o ∷ os) q = (os, ap (λ z. z ∷ os) (same_Some o (Outgoing.ToClient a) q))

      go : (p : Host) → host_at c k ≡ p → option_map_or (λ (x : Process). first_of x.outbox) p.process None ≡ Some (Outgoing.ToClient a) → Good n h epoch stamp most i k p → Hands n h epoch stamp most i k c a
      go _ is q (idle log f s) = absurd (none-some _ q)
      go _ is q (busy log x b) = let t = first x.outbox q in record { log = log; process = x; host = is; state = b; rest = t.0; outbox = t.1 }

  goes_out : (i k : ℕ) (c : Cluster) (a : Reply) → Hands n h epoch stamp most i k c a → Goes n h i k (log_in c k) a
  unfolding log_in
  goes_out i k c a t = subst (λ (p : Host). Goes n h i k p.log a) (sym t.host) (go t.state.out t.state.out_from (subst (λ us. Told (WasTaken n h i k) t.log us t.state.out) (ap replies_in t.outbox ∙ replies_told a t.rest) t.state.out_told))
    where
      go : (fs : List Waiting) → ((f : Waiting) → Among fs f → Client n h epoch stamp most i k t.log f) → Told (WasTaken n h i k) t.log (a ∷ replies_in t.rest) fs → Goes n h i k t.log a
      go fs from (refuses _ r p) = Refusal r
      go _ from (answers _ f o p) = let c = from f (inl refl) in OnEntry f o c.0 c.1

-- ---- the one list

module _ (n : ℕ) (h : List Event) (q : IsHistory n h) where
  abbrev end : World
  end = (shown n h q).end

  abbrev list : List Entry
  list = one_list n h

  here : (i : ℕ) (c : Cluster) → IsThere n h i c → AreShownBy n c c end
  here i c at = (shown n h q).between i i c c (omega arith) at at

  spelt : (i : ℕ) (c : Cluster) (at : IsThere n h i c) → IsSpelt n (here i c at).next
  spelt i c at = let t = here i c at in (is_before n end t.next list (last n h q) t.next_shown.reached t.goes_on).spelt

  -- what a log file has as executed is in the list, at its place
  pub in_list : (i : ℕ) (c : Cluster) → IsThere n h i c → (k place : ℕ) (e : Entry) → slice_get (executed (log_in c k)) place ≡ Some e → slice_get list place ≡ Some e
  in_list i c at k place e g =
      let t = here i c at in
      prefix_get (executed (log_at t.next k)) list ((last n h q).prefix k (log_at t.next k) (t.goes_on k)) place e (subst (λ z. slice_get z place ≡ Some e) (list_is n c t.next t.next_shown k) g)

  -- and it is logged at its origin
  pub executed_there : (i : ℕ) (c : Cluster) → IsThere n h i c → (k place : ℕ) (e : Entry) → slice_get (executed (log_in c k)) place ≡ Some e → Logged (log_in c e.stamp.origin) e
  executed_there i c at k place e g =
      let t = here i c at in
      logged_there n c t.next t.next_shown e.stamp.origin e
      (executed_logged n t.next t.next_shown.reached (spelt i c at).few (spelt i c at).messages k (log_at t.next k) same place e (subst (λ z. slice_get z place ≡ Some e) (list_is n c t.next t.next_shown k) g))

  -- log files lose nothing
  logged_later : (i j : ℕ) (c d : Cluster) → i ≤ j → IsThere n h i c → IsThere n h j d → (k : ℕ) (e : Entry) → Logged (log_in c k) e → Logged (log_in d k) e
  logged_later i j c d le at there k e l =
      let t = (shown n h q).between i j c d le at there in
      logged_there n d t.next t.next_shown k e (extends_among (t.later k) (Rec.Prepare e) (logged_back n c t.world t.shown k e l))

  -- of one epoch and stamp there is one entry
  pub one : (i : ℕ) (c : Cluster) → IsThere n h i c → (j k : ℕ) (e f : Entry) → Logged (log_in c j) e → Logged (log_in c k) f → e.epoch ≡ f.epoch → e.stamp ≡ f.stamp → e ≡ f
  one i c at j k e f a b ep st =
      let t = here i c at in
      one_entry n t.next t.next_shown.reached (spelt i c at).few j k e f (logged_back n c t.next t.next_shown j e a) (logged_back n c t.next t.next_shown k f b) ep st

  pub good : (epoch : ℕ) (stamp : Stamp) (i k : ℕ) (c : Cluster) → IsThere n h i c → Good n h epoch stamp 1 i k (host_at c k)
  good epoch stamp i k c at = always_good n h epoch stamp 1 (omega arith) k i c at

  -- ---- submitted

  -- what is submitted has a stamp that is not in its origin's log file
  new_there : (i a : ℕ) (e : Entry) → (s : IsSubmitted n h i a e) → Logged (log_in s.taken.cluster e.stamp.origin) e → ⊥
  unfolding log_in
  new_there i a e s = go (host_at s.taken.cluster e.stamp.origin) s.runs (good 0 no_stamp i e.stamp.origin s.taken.cluster s.taken.at.cluster)
    where
      go : (p : Host) → p.process ≡ Some s.process → Good n h 0 no_stamp 1 i e.stamp.origin p → Logged p.log e → ⊥
      go _ is (idle log f z) l = absurd (none-some _ is)
      go _ is (busy log x b) l =
          let y : x ≡ s.process = same_Some x s.process is in
          let logs = turn_logs x.replica (Turn.In a s.taken.bytes) s.taken.reading in
          logs.new e (subst (λ (z : Process). Among (turn z.replica (Turn.In a s.taken.bytes, s.taken.reading)).batch (Rec.Prepare e)) (sym y) s.logs)
          (record { entry = e; logged = extends_among b.grows (Rec.Prepare e) l; epoch_is = refl; stamp_is = refl })

  filed : (i k : ℕ) (c : Cluster) → IsThere n h i c → (e : Entry) → Logged (log_in c k) e → e.stamp.origin ≡ k → (a : ℕ) × WasSubmitted n h i a e
  unfolding log_in
  filed i k c at e = go (host_at c k) (good 0 no_stamp i k c at)
    where
      go : (p : Host) → Good n h 0 no_stamp 1 i k p → Logged p.log e → e.stamp.origin ≡ k → (a : ℕ) × WasSubmitted n h i a e
      go _ (idle log f z) l o = f e l o
      go _ (busy log x b) l o = b.filed e (extends_among b.grows (Rec.Prepare e) l) o

  listed_logged : (place : ℕ) (e : Entry) → slice_get list place ≡ Some e → Logged (log_in (last_cluster n h) e.stamp.origin) e
  listed_logged place e at =
      let l = last n h q in
      let s = (shown n h q).last in
      let t = l.held place e at in
      let spelt = (is_before n end end list l l.reached (λ k. same)).spelt in
      logged_there n (last_cluster n h) end s e.stamp.origin e (executed_logged n end l.reached spelt.few spelt.messages t.0 t.1 t.2 place e t.3)

  not_executed : (i a : ℕ) (e : Entry) → IsSubmitted n h i a e → IsNotExecutedBy n h i e
  not_executed i a e s j k place c le at g =
      new_there i a e s (logged_later j i c s.taken.cluster le at s.taken.at.cluster e.stamp.origin e (executed_there j c at k place e g))

  submitted : (place : ℕ) (e : Entry) → slice_get list place ≡ Some e → (i : ℕ) × (a : ℕ) × IsSubmitted n h i a e × IsNotExecutedBy n h i e
  submitted place e at =
      let p = among_place (clusters n h) (last_cluster n h) (last_among n h) in
      let t = filed p.0 e.stamp.origin (last_cluster n h) p.1 e (listed_logged place e at) refl in
      (t.1.0, t.0, t.1.2, not_executed t.1.0 t.0 e t.1.2)

  -- ---- replies

  pub goes : (i k : ℕ) (a : Reply) → (s : IsReplied n h i k a) → Goes n h i k (log_in s.0 k) a
  goes i k a s = goes_out n h 0 no_stamp 1 i k s.0 a (hands n h 0 no_stamp 1 i k s.0 a s.2 (good 0 no_stamp i k s.0 s.1.cluster))

  -- the place of an answer is executed where it goes out
  answer_place : (i k m client number place : ℕ) (v : Answer) (a : Reply) → (s : IsReplied n h i k a) → a.line ≡ Line.ReplyOk m client number place v → (g : Entry) × (slice_get (executed (log_in s.0 k)) place ≡ Some g)
  answer_place i k m client number place v a s is = go (goes i k a s)
    where
      log : Log
      log = log_in s.0 k

      by_line : (f : Waiting) (l : Line) → IsLineOn log f l → l ≡ Line.ReplyOk m client number place v → (g : Entry) × (slice_get (executed log) place ≡ Some g)
      by_line f _ (Answers k2 c2 m2 place2 v2 g at ep st) e = (g, subst (λ p. slice_get (executed log) p ≡ Some g) (same_place k2 c2 m2 place2 v2 e) at.0)
        where
          same_place : (k2 c2 m2 place2 : ℕ) (v2 : Answer) → Line.ReplyOk k2 c2 m2 place2 v2 ≡ Line.ReplyOk m client number place v → place2 ≡ place
          same_place k2 c2 m2 place2 v2 e = cc
      by_line f _ (Drops k2 c2 m2 old x d) e = absurd (cc)

      go : Goes n h i k log a → (g : Entry) × (slice_get (executed log) place ≡ Some g)
      go (Refusal r) = absurd (not_ok r.by a.client a.number r.why (sym r.line ∙ is))
        where
          not_ok : (b c d e : ℕ) → Line.ReplyNo b c d e ≡ Line.ReplyOk m client number place v → ⊥
          not_ok b c d e q = absurd (cc)
      go (OnEntry f o c l) = by_line f a.line o.line is

  -- ---- real time

  real_time : (i j k m client number place address p : ℕ) (v : Answer) (a : Reply) (e : Entry) → i < j → IsReplied n h i k a → a.line ≡ Line.ReplyOk m client number place v →
      IsSubmitted n h j address e → slice_get list p ≡ Some e → place < p
  real_time i j k m client number place address p v a e lt said is s at = elim (cases_lt place p) [
    | inl less ↦ less
    | inr le ↦ (let t = answer_place i k m client number place v a said is in
        let inside = get_inside (executed (log_in said.0 k)) place t.0 t.1 in
        let y = get_some (executed (log_in said.0 k)) p (omega (arith, le, inside)) in
        let same_one : y.0 ≡ e = same_Some y.0 e (sym (in_list i said.0 said.1.cluster k p y.0 y.1) ∙ at) in
        absurd (not_executed j address e s i k p said.0 (omega (arith, lt)) said.1.cluster (subst (λ z. slice_get (executed (log_in said.0 k)) p ≡ Some z) same_one y.1)))
  ]

  -- ---- who is told

  -- the request that submits an entry is taken at its origin
  taken_of : (i k a : ℕ) (e : Entry) → e.stamp.origin ≡ k → WasSubmitted n h i a e → WasTaken n h i k a e.command
  taken_of i k a e o s = (s.0, s.1, subst (λ z. IsTaken n h s.0 z a e.command) o s.2.taken)

  asked : (i k : ℕ) (a : Reply) → IsReplied n h i k a → (c : Command) × WasTaken n h i k a.address c × (c.client ≡ a.client) × (c.number ≡ a.number)
  asked i k a s = go (goes i k a s)
    where
      go : Goes n h i k (log_in s.0 k) a → (c : Command) × WasTaken n h i k a.address c × (c.client ≡ a.client) × (c.number ≡ a.number)
      go (Refusal r) = (r.command, r.asked, r.client, r.number)
      go (OnEntry f o c l) = (f.entry.command, subst (λ z. WasTaken n h i k z f.entry.command) (sym o.address) (taken_of i k f.address f.entry c.0 c.1), o.client, o.number)

  -- the entry that an answer's place has is the one for which its client waited
  answered : (i k m client number place : ℕ) (v : Answer) (a : Reply) (e : Entry) → IsReplied n h i k a → a.line ≡ Line.ReplyOk m client number place v → slice_get list place ≡ Some e → WasSubmitted n h i a.address e
  answered i k m client number place v a e s is at = go (goes i k a s)
    where
      log : Log
      log = log_in s.0 k

      by_line : (f : Waiting) → Logged log f.entry → (l : Line) → IsLineOn log f l → l ≡ Line.ReplyOk m client number place v → f.entry ≡ e
      by_line f logged _ (Answers k2 c2 m2 place2 v2 g there ep st) q =
          let g_at : slice_get (executed log) place ≡ Some g = subst (λ p. slice_get (executed log) p ≡ Some g) (same_place k2 c2 m2 place2 v2 q) there.0 in
          let g_is : g ≡ e = same_Some g e (sym (in_list i s.0 s.1.cluster k place g g_at) ∙ at) in
          sym (one i s.0 s.1.cluster g.stamp.origin k g f.entry (executed_there i s.0 s.1.cluster k place g g_at) logged ep st) ∙ g_is
        where
          same_place : (k2 c2 m2 place2 : ℕ) (v2 : Answer) → Line.ReplyOk k2 c2 m2 place2 v2 ≡ Line.ReplyOk m client number place v → place2 ≡ place
          same_place k2 c2 m2 place2 v2 e = cc
      by_line f logged _ (Drops k2 c2 m2 old x d) q = absurd (cc)

      go : Goes n h i k log a → WasSubmitted n h i a.address e
      go (Refusal r) = absurd (not_ok r.by a.client a.number r.why (sym r.line ∙ is))
        where
          not_ok : (b c d e : ℕ) → Line.ReplyNo b c d e ≡ Line.ReplyOk m client number place v → ⊥
          not_ok b c d e q = absurd (cc)
      go (OnEntry f o c l) = subst (λ z. WasSubmitted n h i a.address z) (by_line f l a.line o.line is) (subst (λ z. WasSubmitted n h i z f.entry) (sym o.address) c.1)

  dropped : (i k m client number epoch : ℕ) (s : Stamp) (a : Reply) → IsReplied n h i k a → a.line ≡ Line.ReplyDropped m client number epoch s → (e : Entry) × (e.epoch ≡ epoch) × (e.stamp ≡ s) × WasSubmitted n h i a.address e
  dropped i k m client number epoch s a said is = go (goes i k a said)
    where
      by_line : (f : Waiting) (l : Line) → IsLineOn (log_in said.0 k) f l → l ≡ Line.ReplyDropped m client number epoch s → (f.entry.epoch ≡ epoch) × (f.entry.stamp ≡ s)
      by_line f _ (Answers k2 c2 m2 place2 v2 g there ep st) q = absurd (cc)
      by_line f _ (Drops k2 c2 m2 old x d) q = (same_epoch f.entry.epoch f.entry.stamp k2 c2 m2 q, same_stamp f.entry.epoch f.entry.stamp k2 c2 m2 q)
        where
          same_epoch : (x : ℕ) (y : Stamp) (k2 c2 m2 : ℕ) → Line.ReplyDropped k2 c2 m2 x y ≡ Line.ReplyDropped m client number epoch s → x ≡ epoch
          same_epoch x y k2 c2 m2 q = cc

          same_stamp : (x : ℕ) (y : Stamp) (k2 c2 m2 : ℕ) → Line.ReplyDropped k2 c2 m2 x y ≡ Line.ReplyDropped m client number epoch s → y ≡ s
          same_stamp x y k2 c2 m2 q = cc

      go : Goes n h i k (log_in said.0 k) a → (e : Entry) × (e.epoch ≡ epoch) × (e.stamp ≡ s) × WasSubmitted n h i a.address e
      go (Refusal r) = absurd (not_dropped r.by a.client a.number r.why (sym r.line ∙ is))
        where
          not_dropped : (b c d e : ℕ) → Line.ReplyNo b c d e ≡ Line.ReplyDropped m client number epoch s → ⊥
          not_dropped b c d e q = absurd (cc)
      go (OnEntry f o c l) = let t = by_line f a.line o.line is in (f.entry, t.0, t.1, subst (λ z. WasSubmitted n h i z f.entry) (sym o.address) c.1)

pub entries_were_submitted : EntriesWereSubmitted
entries_were_submitted n h q place e at = submitted n h q place e at

pub real_time_is_kept : RealTimeIsKept
real_time_is_kept n h q i j k m client number place address p v a e lt said is s at = real_time n h q i j k m client number place address p v a e lt said is s at

pub replies_reach_who_asked : RepliesReachWhoAsked
replies_reach_who_asked n h q = record {
  asked = λ i k a s. asked n h q i k a s;
  answered = λ i k m client number place v a e s is at. answered n h q i k m client number place v a e s is at;
  dropped = λ i k m client number epoch s a said is. dropped n h q i k m client number epoch s a said is;
}
