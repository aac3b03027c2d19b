-- A proposal: the proposer's own acceptance, and the messages sent.
use Rattle.std.proofs.Common.{◌≡◌, ℕ, ◌+◌, List, ◌∷◌, refl, sym, ◌∙◌, ap, Bool, true, false, length, map}
use Rattle.std.specs.Prelude.{◌&&◌, not, nat_le, filter, Option, Some, None}
use Rattle.std.proofs.lemmas.Bool.{eqb-true, false≢true}
use Rattle.std.proofs.lemmas.Option.{none-some, same_Some}
use Rattle.crsm_base.specs.Order.{ballot_lt}
use Rattle.crsm_spec.specs.Types.{Ballot, Decision, Rec, Control}
use Rattle.crsm_spec.specs.Fits.{fits}
use Rattle.crsm_spec.specs.Lists.{has}
use Rattle.crsm_spec.specs.Log.{known, decision, spec, executed, promised, active}
use Rattle.crsm_spec.specs.Paxos.{Answer}
use Rattle.crsm_spec.specs.Quorum.{has_majority}
use Rattle.crsm_spec.specs.Replica.{Coordinator, spec_of, others}
use Rattle.crsm_spec.specs.Draft.{Draft, keep, noting, send_to_each, send_to_all, retrieve}
use Rattle.crsm_spec.specs.Coordinate.{instance, learn, has_accepted, count_acceptor, accept_own, send_ask, send_proposal}
use Rattle.crsm_spec.specs.Step.{ask_all}
use Rattle.crsm_replica_coordinator.specs.Coordinator.{IsOwn, epoch_of, counted_of, proposal_of}
use Rattle.crsm_replica_reconfigure.specs.Stages.{round_of}
use Rattle.crsm_replica_reconfigure.proofs.DraftLemmas.{when_yes, when_no, keep_fitting, kept_monotone}
use Rattle.crsm_replica_reconfigure.proofs.ChoiceLemmas.{chosen_fitting, chosen_coordinator, noted_fitting}

-- ---- the own acceptance

pub own_preempted : (b top : Ballot) (own value : Decision) (acceptors : List ℕ) (x : Draft) → top ≡ promised x.replica.log → ballot_lt b top ≡ true → accept_own b own value acceptors x ≡ noting (Coordinator.Preempted own top) x
unfolding accept_own
own_preempted b top own value acceptors x t h = when_yes _ _ _ (ap (λ p. ballot_lt b p) (sym t) ∙ h) ∙ ap (λ p. noting (Coordinator.Preempted own p) x) (sym t)

pub own_waits : (b top : Ballot) (own value : Decision) (acceptors : List ℕ) (x : Draft) → top ≡ promised x.replica.log → ballot_lt b top ≡ false →
    (nat_le value.base_len (length (executed x.replica.log)) && not (has_accepted b x)) ≡ false → accept_own b own value acceptors x ≡ x
unfolding accept_own
own_waits b top own value acceptors x t h w = when_no _ _ _ (ap (λ p. ballot_lt b p) (sym t) ∙ h) ∙ when_no _ _ _ w

pub own_accepts : (b top : Ballot) (own value : Decision) (acceptors : List ℕ) (x : Draft) → top ≡ promised x.replica.log → ballot_lt b top ≡ false →
    (nat_le value.base_len (length (executed x.replica.log)) && not (has_accepted b x)) ≡ true →
    accept_own b own value acceptors x ≡ count_acceptor b own value acceptors x.replica.me (keep (Rec.Accept (instance x) b value) x)
unfolding accept_own
own_accepts b top own value acceptors x t h w = when_no _ _ _ (ap (λ p. ballot_lt b p) (sym t) ∙ h) ∙ when_yes _ _ _ w

-- what fits after a count fitted before it
pub count_monotone : (b : Ballot) (own value : Decision) (acceptors : List ℕ) (k : ℕ) (y : Draft) → (count_acceptor b own value acceptors k y).fitting ≡ true → y.fitting ≡ true
unfolding count_acceptor
count_monotone b own value acceptors k y h = go (has_majority (spec_of y.replica) (k ∷ acceptors)) refl
  where
    go : (t : Bool) → has_majority (spec_of y.replica) (k ∷ acceptors) ≡ t → y.fitting ≡ true
    go true t = learn_monotone value y (sym (chosen_fitting value y) ∙ ap (λ z. z.fitting) (sym (when_yes _ _ (noting (Coordinator.Proposing b own value (k ∷ acceptors)) y) t ∙ chosen_coordinator value (Coordinator.Proposing b own value (k ∷ acceptors)) y)) ∙ h)
      where
        learn_monotone : (d : Decision) (z : Draft) → (learn d z).fitting ≡ true → z.fitting ≡ true
        learn_monotone d z f = kept_monotone d z f
    go false t = sym (noted_fitting (Coordinator.Proposing b own value (k ∷ acceptors)) y) ∙ ap (λ z. z.fitting) (sym (when_no _ _ (noting (Coordinator.Proposing b own value (k ∷ acceptors)) y) t)) ∙ h

pub kept_coordinator : (rec : Rec) (x : Draft) → (keep rec x).replica.coordinator ≡ x.replica.coordinator
unfolding keep
kept_coordinator rec x = refl

pub accepted_spec : (i : ℕ) (b : Ballot) (d : Decision) (x : Draft) → spec_of ((keep (Rec.Accept i b d) x).replica) ≡ spec_of x.replica
unfolding keep spec_of spec decision
accepted_spec i b d x = refl

pub kept_me : (rec : Rec) (x : Draft) → (keep rec x).replica.me ≡ x.replica.me
unfolding keep
kept_me rec x = refl

-- a decision of the replica's own is for the next instance
pub own_next : (x : Draft) (me n : ℕ) (own : Decision) → IsOwn me n (decision x.replica.log) own → own.epoch ≡ instance x
unfolding instance known epoch_of
own_next x me n own o = o.next

halves : (a b : Bool) → (a && b) ≡ true → (a ≡ true) × (b ≡ true)
halves true b h = (refl, h)
halves false b h = absurd (false≢true h)

-- and so is one that is accepted for it
pub accepted_next : (x : Draft) (b : Ballot) (d : Decision) → (keep (Rec.Accept (instance x) b d) x).fitting ≡ true → d.epoch ≡ instance x
unfolding fits instance
accepted_next x b d h =
    let all = (halves _ _ (sym (keep_fitting (Rec.Accept (known x.replica.log + 1) b d) x) ∙ h)).1 in
    eqb-true d.epoch (known x.replica.log + 1) (halves _ _ (halves _ _ (halves _ _ (halves _ _ all).0).0).0).1

pub none_proposed : {A : Type 0} (o : Option A) (a : A) → o ≡ Some a → o ≡ None → ⊥
none_proposed o a h i = none-some a (sym i ∙ h)

-- ---- what is sent

pub ask_as : (b : Ballot) (own : Decision) (answers : List (Answer Decision)) (x : Draft) (c : Ballot) (i : ℕ) (ks ms : List ℕ) → c ≡ b → i ≡ instance x → ks ≡ others x.replica →
    ms ≡ filter (λ k. not (has (counted_of (Coordinator.Preparing b own answers)) k)) ks → send_to_each ms (Control.P1a i c) x ≡ send_ask (Coordinator.Preparing b own answers) x
unfolding send_ask counted_of
ask_as b own answers x c i ks ms hb hi hk hm =
    ap (λ zs. send_to_each zs (Control.P1a i c) x) hm ∙ ap (λ zs. send_to_each (filter (λ k. not (has (map (λ a. a.replica) answers) k)) zs) (Control.P1a i c) x) hk
    ∙ ap (λ j. send_to_each (filter (λ k. not (has (map (λ a. a.replica) answers) k)) (others x.replica)) (Control.P1a j c) x) hi
    ∙ ap (λ p. send_to_each (filter (λ k. not (has (map (λ a. a.replica) answers) k)) (others x.replica)) (Control.P1a (instance x) p) x) hb

pub proposal_as : (b : Ballot) (own value : Decision) (acceptors : List ℕ) (x : Draft) (c : Ballot) (d : Decision) (i : ℕ) (ks ms : List ℕ) → c ≡ b → d ≡ value → i ≡ instance x → ks ≡ others x.replica →
    ms ≡ filter (λ k. not (has (counted_of (Coordinator.Proposing b own value acceptors)) k)) ks → send_to_each ms (Control.P2a i c d) x ≡ send_proposal (Coordinator.Proposing b own value acceptors) x
unfolding send_proposal counted_of
proposal_as b own value acceptors x c d i ks ms hb hd hi hk hm =
    ap (λ zs. send_to_each zs (Control.P2a i c d) x) hm ∙ ap (λ zs. send_to_each (filter (λ k. not (has acceptors k)) zs) (Control.P2a i c d) x) hk
    ∙ ap (λ j. send_to_each (filter (λ k. not (has acceptors k)) (others x.replica)) (Control.P2a j c d) x) hi
    ∙ ap (λ p. send_to_each (filter (λ k. not (has acceptors k)) (others x.replica)) (Control.P2a (instance x) p d) x) hb
    ∙ ap (λ e. send_to_each (filter (λ k. not (has acceptors k)) (others x.replica)) (Control.P2a (instance x) b e) x) hd

-- a coordinator that proposes this
pub record IsProposal (m : Coordinator) (p : Ballot × Decision) : Type 0 where
  pub own : Decision
  pub acceptors : List ℕ
  pub is : m ≡ Coordinator.Proposing p.0 own p.1 acceptors

pub is_proposal : (m : Coordinator) (p : Ballot × Decision) → proposal_of m ≡ Some p → IsProposal m p
unfolding proposal_of
is_proposal Coordinator.Idle p h = absurd (none-some p h)
is_proposal (Coordinator.Collecting ms pages) p h = absurd (none-some p h)
is_proposal (Coordinator.Preparing b own answers) p h = absurd (none-some p h)
is_proposal (Coordinator.Proposing b own value acceptors) p h = record { own = own; acceptors = acceptors; is = ap (λ q. Coordinator.Proposing q.0 own q.1 acceptors) (same_Some (b, value) p h) }
is_proposal (Coordinator.Preempted own seen) p h = absurd (none-some p h)

pub none_told : (m : Coordinator) (x : Draft) → proposal_of m ≡ None → send_proposal m x ≡ x
unfolding proposal_of send_proposal
none_told Coordinator.Idle x h = refl
none_told (Coordinator.Collecting ms pages) x h = refl
none_told (Coordinator.Preparing b own answers) x h = refl
none_told (Coordinator.Proposing b own value acceptors) x h = absurd (none-some (b, value) (sym h))
none_told (Coordinator.Preempted own seen) x h = refl

-- a coordinator without a round proposes nothing
pub no_round : (m : Coordinator) → round_of m ≡ None → proposal_of m ≡ None
unfolding round_of proposal_of
no_round Coordinator.Idle h = refl
no_round (Coordinator.Collecting ms pages) h = refl
no_round (Coordinator.Preparing b own answers) h = refl
no_round (Coordinator.Proposing b own value acceptors) h = absurd (none-some (own.epoch, b) (sym h))
no_round (Coordinator.Preempted own seen) h = refl

-- the instance of a proposal is that of the own decision
pub round_is : (b : Ballot) (own value : Decision) (acceptors : List ℕ) (i : ℕ) (c : Ballot) → round_of (Coordinator.Proposing b own value acceptors) ≡ Some (i, c) → i ≡ own.epoch
unfolding round_of
round_is b own value acceptors i c h = ap (λ (p : ℕ × Ballot). p.0) (sym (same_Some _ _ h))

pub rounds_same : (o : Option (ℕ × Ballot)) (i j : ℕ) (b c : Ballot) → o ≡ Some (i, b) → o ≡ Some (j, c) → (i ≡ j) × (b ≡ c)
rounds_same o i j b c h e = (ap (λ (p : ℕ × Ballot). p.0) (same_Some _ _ (sym h ∙ e)), ap (λ (p : ℕ × Ballot). p.1) (same_Some _ _ (sym h ∙ e)))

pub active_asks : (x : Draft) → active x.replica.log ≡ true → ask_all x ≡ x
unfolding ask_all
active_asks x h = when_yes _ _ _ h

pub all_asked : (x : Draft) (e done : ℕ) → active x.replica.log ≡ false → e ≡ known x.replica.log → done ≡ length (executed x.replica.log) → send_to_all (Control.Retrieve e done) x ≡ ask_all x
unfolding ask_all retrieve
all_asked x e done h k l = ap (λ m. send_to_all (Control.Retrieve m done) x) k ∙ ap (λ m. send_to_all (Control.Retrieve (known x.replica.log) m) x) l ∙ sym (when_no _ _ _ h)
