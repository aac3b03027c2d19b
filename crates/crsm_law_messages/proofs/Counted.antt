-- Counted answers and votes are true of the logs of the replicas that sent them.
use Rattle.std.proofs.Common.{◌≡◌, ℕ, sym, ◌∙◌, subst, inl, inr}
use Rattle.std.specs.Prelude.{Some, slice_get}
use Rattle.crsm_spec.specs.Types.{Control}
use Rattle.crsm_spec.specs.Log.{Log, accepted}
use Rattle.crsm_spec.specs.Draft.{begun}
use Rattle.crsm_spec.specs.Coordinate.{instance, has_accepted}
use Rattle.crsm_spec.specs.World.{World, Site, log_at}
use Rattle.crsm_spec.specs.Moments.{begun_at}
use Rattle.crsm_fact_step.specs.Messages.{ReceivesControl}
use Rattle.crsm_fact_log.specs.Logs.{Extends}
use Rattle.crsm_fact_step.proofs.Logs.{changes_numbers}
use Rattle.crsm_law_messages.specs.SentMessages.{SentMessage, Past, WasSentBefore}
use Rattle.crsm_law_messages.specs.Laws.{Says, ReceivesIn}
use Rattle.crsm_law_messages.specs.Counted.{AllSpelt, AnswersAreTrue, VotesAreTrue}
use Rattle.crsm_law_messages.proofs.Truth.{carried, past_extends, sent_is_true, voted}
use Rattle.crsm_law_messages.proofs.Worlds.{was_on, marked_sites, all_known, received_is_sent}

-- each draft of replica k has its number
pub past_me : (n : ℕ) (w : World) (k : ℕ) (p : Past n w k) → p.draft.replica.me ≡ k
unfolding begun
past_me n w k p =
    (changes_numbers p.before).0
    ∙ ((all_known n p.world p.reached).up k p.replica (subst (λ ss. slice_get ss k ≡ Some (Site.Up p.replica)) (marked_sites p.marks) p.up)).me

-- what was sent before a draft was sent before w
sent_since : (n : ℕ) (w : World) (k : ℕ) (p : Past n w k) (s : SentMessage) → WasSentBefore n p.world s → WasSentBefore n w s
unfolding begun_at
sent_since n w k p s t =
    carried (λ u. WasSentBefore n u s) (λ u m h. was_on n u m h s) p.moment.after w p.since (was_on n p.world (begun_at p.world p.moment) p.happens s t)

-- what a draft's step receives from j is true of an earlier log of j
record IsTrueOf (w : World) (j : ℕ) (c : Control) : Type 0 where
  pub log : Log
  pub earlier : Extends log (log_at w j)
  pub says : Says log c

received_true : (n : ℕ) (w : World) (k : ℕ) (p : Past n w k) → AllSpelt n w → (j : ℕ) (c : Control) → ReceivesControl p.replica p.input j c → IsTrueOf w j c
received_true n w k p spelt j c h =
    let receives : ReceivesIn n p.world j k c =
    record { reached = p.reached; marked = p.marked; marks = p.marks; replica = p.replica; up = p.up; input = p.input; can_come = p.can_come; receives = h } in
    let t = received_is_sent n p.world j k c receives (λ s q. spelt s (sent_since n w k p s q)) in
    let u = sent_is_true n w t.0 (sent_since n w k p t.0 t.4) in
    record { log = u.0; earlier = subst (λ i. Extends u.0 (log_at w i)) t.1 u.1; says = subst (Says u.0) t.3 u.2 }

own_earlier : (n : ℕ) (w : World) (k : ℕ) (p : Past n w k) (j : ℕ) → j ≡ p.draft.replica.me → Extends p.draft.replica.log (log_at w j)
own_earlier n w k p j e = subst (λ i. Extends p.draft.replica.log (log_at w i)) (sym (e ∙ past_me n w k p)) (past_extends n w k p)

pub answers_are_true : AnswersAreTrue
unfolding instance
answers_are_true n w k i b a spelt d = elim d.held.1 [
  | inl own ↦ record {
    log = d.past.draft.replica.log;
    earlier = own_earlier n w k d.past a.replica own.0;
    next = d.held.0;
    has_promised = own.1;
    had_accepted = own.2;
  }
  | inr h ↦ (let t = received_true n w k d.past spelt a.replica (Control.P1b (instance d.past.draft) b a.accepted) h.1 in
      record { log = t.log; earlier = t.earlier; next = d.held.0 ∙ t.says.0; has_promised = t.says.1; had_accepted = t.says.2 })
]

pub votes_are_true : VotesAreTrue
unfolding instance has_accepted
votes_are_true n w k i b j spelt d = elim d.held.1 [
  | inl own ↦ (let v = voted b (accepted d.past.draft.replica.log) own.1 in record {
    log = d.past.draft.replica.log;
    earlier = own_earlier n w k d.past j own.0;
    next = d.held.0;
    decision = v.0;
    had_accepted = v.1;
  })
  | inr h ↦ (let t = received_true n w k d.past spelt j (Control.P2b (instance d.past.draft) b) h.1 in
      record { log = t.log; earlier = t.earlier; next = d.held.0 ∙ t.says.0; decision = t.says.1; had_accepted = t.says.2 })
]
