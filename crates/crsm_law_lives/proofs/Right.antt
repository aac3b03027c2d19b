-- Each kept step of a process is right: what it executed, reported and answered.
use Rattle.std.proofs.Common.{◌≡◌, ℕ, suc, ◌<◌, ◌≤◌, List, [], ◌∷◌, refl, sym, ◌∙◌, ap, subst, inl, inr, arith}
use Rattle.std.specs.Prelude.{◌⊎◌, nat_lt, Bool, true, false, Option, Some, None, slice_get}
use Rattle.std.specs.Option.{option_map_or}
use Rattle.std.proofs.lemmas.Option.{same_Some}
use Rattle.crsm_spec.specs.Choice.{when◌then◌otherwise◌}
use Rattle.crsm_spec.specs.Types.{Stamp, Entry, Answer, Refusal, Outcome, Rec, Line}
use Rattle.crsm_spec.specs.Lists.{Among, IsPrefixOf}
use Rattle.crsm_spec.specs.Log.{Log, known, decision, executed}
use Rattle.crsm_spec.specs.Replica.{Replica, Waiting, fresh}
use Rattle.crsm_spec.specs.Draft.{Draft, Reply, begun, keep}
use Rattle.crsm_spec.specs.Safe.{AnswersAt}
use Rattle.crsm_spec.specs.Step.{Input, step, boot, first_boot, founding_boot, boot_again}
use Rattle.crsm_spec.specs.Node.{Turn, turn, input_of, outputs_from, outputs}
use Rattle.crsm_spec.specs.World.{World, log_at}
use Rattle.crsm_fact_log.specs.Logs.{Extends, same, Logged}
use Rattle.crsm_fact_log.proofs.Logged.{extends_trans}
use Rattle.crsm_fact_log.proofs.Lists.{get_some}
use Rattle.crsm_spec_process.specs.Lives.{Life, kept_turns, kept_steps}
use Rattle.crsm_law_agreement.proofs.Coordinators.{extends_among}
use Rattle.crsm_law_runs.proofs.Last.{is_before}
use Rattle.crsm_law_runs.proofs.Lists.{older_below}
use Rattle.crsm_law_runs.proofs.DurableLists.{prefix_get}
use Rattle.crsm_law_runs.proofs.Words.{IsRight}
use Rattle.crsm_law_cluster.specs.Clusters.{Event, log_in}
use Rattle.crsm_law_cluster.specs.Histories.{last_cluster}
use Rattle.crsm_law_cluster.specs.HistoryLaws.{HasShortLogs}
use Rattle.crsm_law_cluster.specs.Told.{Says}
use Rattle.crsm_law_cluster.proofs.Replies.{step_says}
use Rattle.crsm_law_cluster.specs.OneList.{one_list}
use Rattle.crsm_law_cluster.specs.ClusterLaws.{IsRightAnswer, IsRightDrop}
use Rattle.crsm_law_cluster.proofs.Last.{shown, last}
use Rattle.crsm_law_cluster.proofs.Replying.{IsDropped, IsLineOn, IsOn, told_one, count, count_none, count_one, count_is}
use Rattle.crsm_law_cluster.proofs.Replying.IsLineOn.{Answers, Drops}
use Rattle.crsm_law_cluster.proofs.Balance.{Balanced, begun_balanced}
use Rattle.crsm_law_cluster.proofs.Turns.{Asks, turn_logs, turn_balanced}
use Rattle.crsm_law_cluster.proofs.Executed.{executed_prefix, answers_prefix}
use Rattle.crsm_law_cluster.proofs.RequestLaws.{one, executed_there}
use Rattle.crsm_law_lives.specs.Premises.{Ran}
use Rattle.crsm_law_lives.specs.Laws.{IsIn, IsRightStep, StepsAreRight}
use Rattle.crsm_law_lives.proofs.Laws.{lives_are_lawful}
use Rattle.crsm_law_lives.proofs.Agree.{steps_grow, is_history, agree}
use Rattle.crsm_law_lives.proofs.Lines.{turn_right, boot_right}

-- ---- a step by itself

-- who waits, waits for an own entry that is logged
abbrev Waits : ℕ → Replica → Type 0
Waits me r = (f : Waiting) → Among r.waiting f → Logged r.log f.entry × (f.entry.stamp.origin ≡ me)

-- a reply refuses a request, or it is on an own entry that is logged
data Replied (me : ℕ) (log : Log) (a : Reply) : Type 0 where
  Refuses : (by why : ℕ) → a.line ≡ Line.ReplyNo by a.client a.number why → Replied me log a
  OnOwn : (f : Waiting) → IsOn log f a → Logged log f.entry → f.entry.stamp.origin ≡ me → Replied me log a

record IsGood (me : ℕ) (x : Draft) : Type 0 where
  replied : (a : Reply) → Among x.replies a → Replied me x.replica.log a × Says a.client a.number a.says a.line
  lines : (end : World) (list : List Entry) → IsPrefixOf (executed x.replica.log) list → (l : Line) → Among x.lines l → IsRight end list l

-- a stamp of another replica
abbrev another : ℕ → Stamp
another me = record { time = 0; origin = suc me }

none_counted : (me : ℕ) (fs : List Waiting) → ((f : Waiting) → Among fs f → f.entry.stamp.origin ≡ me) → count 0 (another me) fs ≡ 0
none_counted me [] own = count_none 0 (another me)
none_counted me (f ∷ fs) own =
    let rest = none_counted me fs (λ g a. own g (inr a)) in
    let first = count_one 0 (another me) f fs in
    elim (count_is 0 (another me) f) [
      | inl one ↦ (let is = sym (own f (inl refl)) ∙ ap (λ (s : Stamp). s.origin) one.2 in absurd (omega (arith, is)))
      | inr none ↦ omega (arith, rest, first, none)
    ]

module _ (me : ℕ) (r : Replica) (is : r.me ≡ me) (w : Waits me r) (t : Turn × ℕ) where
  balanced : Balanced r (Asks t.0) 0 (another me) 0 1 (turn r t) []
  balanced =
      let none = none_counted me r.waiting (λ f a. (w f a).1) in
      turn_balanced r t.0 t.1 0 (another me) 0 1 (begun_balanced r (Asks t.0) 0 (another me) 0 1 (λ f a. (w f a).0) (omega (arith, none)) (λ le. absurd (omega (arith, le, none))))

  own_now : (f : Waiting) → (Among r.waiting f ⊎ (Asks t.0 f.address f.entry.command × Among (turn r t).batch (Rec.Prepare f.entry) × (f.entry.stamp.origin ≡ r.me))) × Logged (turn r t).replica.log f.entry → f.entry.stamp.origin ≡ me
  own_now f (inl a, l) = (w f a).1
  own_now f (inr a, l) = a.2 ∙ is

  waits_then : Waits me (turn r t).replica
  waits_then f a = let b = balanced.waits f a in (b.1, own_now f b)

  says_so : (a : Reply) → Among (turn r t).replies a → Says a.client a.number a.says a.line
  unfolding turn begun
  says_so a = go (input_of t.0)
    where
      go : (o : Option Input) → Among (option_map_or (λ i. step r i t.1) o (begun r)).replies a → Says a.client a.number a.says a.line
      go None m = absurd m
      go (Some i) m = step_says r i t.1 a m

  turn_good : IsGood me (turn r t)
  turn_good = record {
    replied = λ a m. (
      elim (told_one balanced.told a m) [
        | inl r ↦ Refuses r.by r.why r.line
        | inr u ↦ (let b = balanced.answered u.0 u.1 in OnOwn u.0 u.2 b.1 (own_now u.0 b))
      ],
      says_so a m,
    );
    lines = λ end list p. turn_right end list r t p;
  }

outputs_good : (me : ℕ) (r : Replica) (ts : List (Turn × ℕ)) → r.me ≡ me → Waits me r → (x : Draft) → Among (outputs_from r ts) x → IsGood me x
unfolding outputs_from
outputs_good me r [] is w x a = absurd a
outputs_good me r (t ∷ ts) is w x (inl e) = subst (IsGood me) e (turn_good me r is w t)
outputs_good me r (t ∷ ts) is w x (inr a) = outputs_good me (turn r t).replica ts ((turn_logs r t.0 t.1).me ∙ is) (waits_then me r is w t) x a

record BootsIdle (k : ℕ) (x : Draft) : Type 0 where
  me : x.replica.me ≡ k
  replies : x.replies ≡ []
  waiting : x.replica.waiting ≡ []

boots_idle : (k n : ℕ) (log : Log) → BootsIdle k (boot k n log)
unfolding boot first_boot founding_boot boot_again keep begun fresh when◌then◌otherwise◌
boots_idle k n (rec ∷ log) = record { me = refl; replies = refl; waiting = refl }
boots_idle k n [] = go (nat_lt k n)
  where
    go : (b : Bool) → BootsIdle k (when b then founding_boot k n otherwise boot_again k n [])
    go true = record { me = refl; replies = refl; waiting = refl }
    go false = record { me = refl; replies = refl; waiting = refl }

steps_good : (n : ℕ) (l : Life) (x : Draft) → Among (kept_steps n l) x → IsGood l.me x
unfolding kept_steps outputs
steps_good n l x (inl e) = subst (IsGood l.me) e (record {
  replied = λ a m. absurd (subst (λ us. Among us a) (boots_idle l.me n l.found).replies m);
  lines = λ end list p. boot_right end list l.me n l.found;
})
steps_good n l x (inr a) =
    let b = boots_idle l.me n l.found in
    outputs_good l.me (boot l.me n l.found).replica (kept_turns l.groups) b.me (λ f m. absurd (subst (λ fs. Among fs f) b.waiting m)) x a

-- ---- in the history

no_known : known [] ≡ 0
unfolding known decision
no_known = refl

module _ (n : ℕ) (ls : List Life) (h : List Event) (few : n ≤ 15) (r : Ran n ls h) (short : HasShortLogs (last_cluster n h)) (l : Life) (m : Among ls l) (x : Draft) (a : Among (kept_steps n l) x) where
  abbrev list : List Entry
  list = one_list n h

  s : IsIn n h l
  s = (lives_are_lawful n ls h few r).each l m

  grows : Extends x.replica.log (log_in s.end l.me)
  grows = subst (Extends x.replica.log) (sym s.left) (steps_grow n l x a)

  prefix : IsPrefixOf (executed x.replica.log) list
  prefix = agree n ls h few r short l m x a

  good : IsGood l.me x
  good = steps_good n l x a

  -- the entry of an answer is the one for which its client waited
  the_entry : (f : Waiting) (g : Entry) (place : ℕ) (v : Answer) → Logged x.replica.log f.entry → AnswersAt (executed x.replica.log) place g v → g.epoch ≡ f.entry.epoch → g.stamp ≡ f.entry.stamp → g ≡ f.entry
  the_entry f g place v logged at ep st =
      let q = is_history n ls h few r short in
      let there = prefix_get (executed x.replica.log) (executed (log_in s.end l.me)) (executed_prefix x.replica.log (log_in s.end l.me) grows) place g at.0 in
      one n h q s.last s.end s.there g.stamp.origin l.me g f.entry (executed_there n h q s.last s.end s.there l.me place g there) (extends_among grows (Rec.Prepare f.entry) logged) ep st

  answers : (k client number place : ℕ) (v : Answer) (b : Reply) → Among x.replies b → b.line ≡ Line.ReplyOk k client number place v → IsRightAnswer n h l.me place v b
  answers k client number place v b m is = let t = good.replied b m in go t.0 (subst (Says b.client b.number b.says) is t.1).2
    where
      by_line : (f : Waiting) → IsOn x.replica.log f b → Logged x.replica.log f.entry → f.entry.stamp.origin ≡ l.me → b.says ≡ Outcome.Answered v → (y : Line) → IsLineOn x.replica.log f y → y ≡ Line.ReplyOk k client number place v → IsRightAnswer n h l.me place v b
      by_line f o logged own says _ (Answers k2 c2 m2 place2 v2 g at ep st) e =
          let here : AnswersAt (executed x.replica.log) place g v = subst (λ p. AnswersAt (executed x.replica.log) p g v) (same_place k2 c2 m2 place2 v2 e) (subst (AnswersAt (executed x.replica.log) place2 g) (same_answer k2 c2 m2 place2 v2 e) at) in
          let g_is = the_entry f g place v logged here ep st in
          record {
            entry = g;
            at = answers_prefix (executed x.replica.log) list prefix place g v here;
            origin = ap (λ (z : Entry). z.stamp.origin) g_is ∙ own;
            client = ap (λ (z : Entry). z.command.client) g_is ∙ o.client;
            number = ap (λ (z : Entry). z.command.number) g_is ∙ o.number;
            says = says;
          }
        where
          same_place : (k2 c2 m2 place2 : ℕ) (v2 : Answer) → Line.ReplyOk k2 c2 m2 place2 v2 ≡ Line.ReplyOk k client number place v → place2 ≡ place
          same_place k2 c2 m2 place2 v2 e = cc

          same_answer : (k2 c2 m2 place2 : ℕ) (v2 : Answer) → Line.ReplyOk k2 c2 m2 place2 v2 ≡ Line.ReplyOk k client number place v → v2 ≡ v
          same_answer k2 c2 m2 place2 v2 e = cc
      by_line f o logged own says _ (Drops k2 c2 m2 old y d) e = absurd (cc)

      go : Replied l.me x.replica.log b → b.says ≡ Outcome.Answered v → IsRightAnswer n h l.me place v b
      go (Refuses by why e) says = absurd (not_ok by b.client b.number why (sym e ∙ is))
        where
          not_ok : (c d e f : ℕ) → Line.ReplyNo c d e f ≡ Line.ReplyOk k client number place v → ⊥
          not_ok c d e f q = absurd (cc)
      go (OnOwn f o logged own) says = by_line f o logged own says b.line o.line is

  -- what the log has at an end is an end of the last log, but for a log without records
  to_end : (old : Log) (e : Entry) → Extends old (log_in s.end l.me) → e.epoch < known old → Extends old (log_at (shown n h (is_history n ls h few r short)).end l.me)
  to_end old e y lt =
      let t = (shown n h (is_history n ls h few r short)).between s.last s.last s.end s.end (omega arith) s.there s.there in
      elim (t.next_shown.logs l.me) [
        | inl q ↦ extends_trans (subst (Extends old) q y) (t.goes_on l.me)
        | inr u ↦ absurd (not_later old (subst (Extends old) u.1 y) lt)
      ]
    where
      not_later : (old : Log) → Extends old [] → e.epoch < known old → ⊥
      not_later _ same lt = let none = no_known in absurd (omega (arith, lt, none))

  in_no_list : (old : Log) (f : Entry) → Extends old x.replica.log → IsDropped old f → (p : ℕ) (e : Entry) → slice_get list p ≡ Some e → e.epoch ≡ f.epoch → e.stamp ≡ f.stamp → ⊥
  in_no_list old f y d p e at ep st =
      let q = is_history n ls h few r short in
      let end = (shown n h q).end in
      let w = last n h q in
      let spelt = (is_before n end end list w w.reached (λ k. same)).spelt in
      let lt : e.epoch < known old = subst (λ z. z < known old) (sym ep) d.later in
      let held = w.held p e at in
      let less = older_below n end w.reached spelt.few spelt.messages l.me held.0 old held.1 (to_end old e (extends_trans y grows) lt) held.2 p e held.3 lt in
      let le = d.begun in
      let z = get_some (executed old) p (omega (arith, less, le)) in
      let there = prefix_get (executed x.replica.log) list prefix p z.0 (prefix_get (executed old) (executed x.replica.log) (executed_prefix old x.replica.log y) p z.0 z.1) in
      let same_one : z.0 ≡ e = same_Some z.0 e (sym there ∙ at) in
      d.none p z.0 z.1 (ap (λ (u : Entry). u.epoch) same_one ∙ ep) (ap (λ (u : Entry). u.stamp) same_one ∙ st)

  drops : (k client number epoch : ℕ) (v : Stamp) (b : Reply) → Among x.replies b → b.line ≡ Line.ReplyDropped k client number epoch v → IsRightDrop n h l.me epoch v b
  drops k client number epoch v b m is = let t = good.replied b m in go t.0 (subst (Says b.client b.number b.says) is t.1).2
    where
      by_line : (f : Waiting) → f.entry.stamp.origin ≡ l.me → b.says ≡ Outcome.Refused Refusal.Dropped → (y : Line) → IsLineOn x.replica.log f y → y ≡ Line.ReplyDropped k client number epoch v → IsRightDrop n h l.me epoch v b
      by_line f own says _ (Answers k2 c2 m2 place2 v2 g at ep st) e = absurd (cc)
      by_line f own says _ (Drops k2 c2 m2 old y d) e = record {
        origin = ap (λ (z : Stamp). z.origin) (sym (same_stamp f.entry.epoch f.entry.stamp k2 c2 m2 e)) ∙ own;
        says = says;
        none = λ p z at ep st. in_no_list old f.entry y d p z at (ep ∙ sym (same_epoch f.entry.epoch f.entry.stamp k2 c2 m2 e)) (st ∙ sym (same_stamp f.entry.epoch f.entry.stamp k2 c2 m2 e));
      }
        where
          same_epoch : (i : ℕ) (u : Stamp) (k2 c2 m2 : ℕ) → Line.ReplyDropped k2 c2 m2 i u ≡ Line.ReplyDropped k client number epoch v → i ≡ epoch
          same_epoch i u k2 c2 m2 q = cc

          same_stamp : (i : ℕ) (u : Stamp) (k2 c2 m2 : ℕ) → Line.ReplyDropped k2 c2 m2 i u ≡ Line.ReplyDropped k client number epoch v → u ≡ v
          same_stamp i u k2 c2 m2 q = cc

      go : Replied l.me x.replica.log b → b.says ≡ Outcome.Refused Refusal.Dropped → IsRightDrop n h l.me epoch v b
      go (Refuses by why e) says = absurd (not_dropped by b.client b.number why (sym e ∙ is))
        where
          not_dropped : (c d e f : ℕ) → Line.ReplyNo c d e f ≡ Line.ReplyDropped k client number epoch v → ⊥
          not_dropped c d e f q = absurd (cc)
      go (OnOwn f o logged own) says = by_line f own says b.line o.line is

  pub is_right : IsRightStep n h l.me x
  is_right = record {
    executed = prefix;
    executes = λ k place epoch client number v b y. good.lines (shown n h (is_history n ls h few r short)).end list prefix (Line.Exec k place epoch v client number b) y;
    answers = answers;
    drops = drops;
  }

pub steps_are_right : StepsAreRight
steps_are_right n ls h few r short l m x a = is_right n ls h few r short l m x a
