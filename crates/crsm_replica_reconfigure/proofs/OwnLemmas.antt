-- A proposer's own acceptance: whether its records fit, by the facts on which they depend, and the coordinator after
-- it.
use Rattle.std.proofs.Common.{◌≡◌, ℕ, ◌+◌, List, [], ◌∷◌, refl, sym, ◌∙◌, ap, subst, Bool, true, false, length}
use Rattle.std.specs.Prelude.{◌&&◌, ◌==◌, ◌-◌, drop, not, nat_le, nat_lt, Option, Some, None}
use Rattle.std.specs.Option.{option_map_or}
use Rattle.crsm_base.specs.Order.{ballot_lt, ballot_eq}
use Rattle.crsm_base.specs.Spelling.{FitsDecision}
use Rattle.crsm_spec.specs.Types.{Ballot, Entry, Decision, Rec, Control}
use Rattle.crsm_spec.specs.Choice.{when◌then◌otherwise◌}
use Rattle.crsm_spec.specs.Log.{Log, known, start, decision, spec, executed, promised, accepted}
use Rattle.crsm_spec.specs.Fits.{fits, booted, can_be_members}
use Rattle.crsm_spec.specs.Paxos.{Held}
use Rattle.crsm_spec.specs.Quorum.{spec_decided, has_majority}
use Rattle.crsm_spec.specs.Replica.{Coordinator, spec_of}
use Rattle.crsm_spec.specs.Draft.{Draft, keep, noting, send_control, send_to_each}
use Rattle.crsm_spec.specs.Coordinate.{forget_epoch, adopt_tail, enter, advance, instance, learn, on_chosen, has_accepted, count_acceptor, accept_own, send_proposal, send_ask}
use Rattle.crsm_spec.specs.Step.{renew}
use Rattle.crsm_replica_coordinator.specs.Coordinator.{epoch_of}
use Rattle.crsm_replica_reconfigure.specs.Rules.{tail_goes_on}
use Rattle.crsm_replica_reconfigure.proofs.DraftLemmas.{when_yes, when_no, when_same, and_first, and_none, keep_fitting, each_fitting}
use Rattle.crsm_replica_reconfigure.proofs.ProposeLemmas.{own_preempted, own_waits, own_accepts, accepted_spec}
use Rattle.crsm_replica_reconfigure.proofs.FitLemmas.{count_few, count_many, not_after, kept_learns}

-- ---- the records of the own acceptance, by the facts on which they depend

-- the conditions of both, where a boot is on record or not, and a greater ballot is promised or not
unfoldable pub accept_fits : Bool → Bool → Ballot → Decision → Option Decision → Held Decision → List Entry → Bool
accept_fits on below b value d held done =
    ((((on && (epoch_of d + 1 == epoch_of d + 1)) && (value.epoch == epoch_of d + 1)) && not below) && option_map_or (λ h. ballot_lt h.0 b) held true)
    && nat_le value.base_len (length done)

unfoldable pub decide_fits : Bool → Decision → ℕ → Option Decision → Bool
decide_fits on value n d = (on && nat_lt (epoch_of d) value.epoch) && can_be_members (spec_decided n (Some value)) value.members

unfoldable pub own_fits : Ballot → Decision → List ℕ → ℕ → ℕ → Option Decision → Held Decision → List Entry → Bool
own_fits b value acceptors me n d held done =
    when nat_le value.base_len (length done) && not (option_map_or (λ h. ballot_eq h.0 b) held false)
    then accept_fits true false b value d held done && (when has_majority (spec_decided n d) (me ∷ acceptors) then decide_fits true value n d && tail_goes_on value done otherwise true)
    otherwise true

accept_is : (me n : ℕ) (log : Log) (b : Ballot) (v : Decision) → booted log ≡ true → ballot_lt b (promised log) ≡ false →
    fits me n log (Rec.Accept (known log + 1) b v) ≡ accept_fits true false b v (decision log) (accepted log) (executed log)
unfolding fits known epoch_of accept_fits
accept_is me n log b v on not_below =
    ap (λ p. accept_fits p (ballot_lt b (promised log)) b v (decision log) (accepted log) (executed log)) on
    ∙ ap (λ p. accept_fits true p b v (decision log) (accepted log) (executed log)) not_below

decide_is : (me n : ℕ) (log : Log) (v : Decision) → booted log ≡ true → fits me n log (Rec.Decide v) ≡ decide_fits true v n (decision log)
unfolding fits known epoch_of decide_fits
decide_is me n log v on = ap (λ p. decide_fits p v n (decision log)) on

pub spec_as : (x : Draft) → spec_of x.replica ≡ spec_decided x.replica.n (decision x.replica.log)
unfolding spec_of spec
spec_as x = refl

module _ (b : Ballot) (own value : Decision) (acceptors : List ℕ) (x : Draft) (fit : x.fitting ≡ true) (on : booted x.replica.log ≡ true) (f : FitsDecision value) (below : ballot_lt b (promised x.replica.log) ≡ false) where
  kept : (keep (Rec.Accept (instance x) b value) x).fitting ≡ accept_fits true false b value (decision x.replica.log) (accepted x.replica.log) (executed x.replica.log)
  unfolding instance
  kept = keep_fitting (Rec.Accept (instance x) b value) x ∙ and_first _ _ fit ∙ accept_is x.replica.me x.replica.n x.replica.log b value on below

  counted : (g m : Bool) → accept_fits true false b value (decision x.replica.log) (accepted x.replica.log) (executed x.replica.log) ≡ g →
      has_majority (spec_decided x.replica.n (decision x.replica.log)) (x.replica.me ∷ acceptors) ≡ m →
      (count_acceptor b own value acceptors x.replica.me (keep (Rec.Accept (instance x) b value) x)).fitting ≡ (accept_fits true false b value (decision x.replica.log) (accepted x.replica.log) (executed x.replica.log)
      && (when has_majority (spec_decided x.replica.n (decision x.replica.log)) (x.replica.me ∷ acceptors) then decide_fits true value x.replica.n (decision x.replica.log) && tail_goes_on value (executed x.replica.log) otherwise true))
  counted false m a e = not_after b own value acceptors x.replica.me (keep (Rec.Accept (instance x) b value) x) (kept ∙ a) ∙ sym (and_none _ _ a)
  counted true false a e =
      count_few b own value acceptors x.replica.me (keep (Rec.Accept (instance x) b value) x) (ap (λ ks. has_majority ks (x.replica.me ∷ acceptors)) (accepted_spec (instance x) b value x ∙ spec_as x) ∙ e)
      ∙ kept ∙ a ∙ sym (and_first _ _ a ∙ when_no _ _ _ e)
  counted true true a e =
      count_many b own value acceptors x.replica.me (keep (Rec.Accept (instance x) b value) x) (ap (λ ks. has_majority ks (x.replica.me ∷ acceptors)) (accepted_spec (instance x) b value x ∙ spec_as x) ∙ e)
      ∙ kept_learns x (instance x) b value on f (kept ∙ a) ∙ ap (λ p. p && tail_goes_on value (executed x.replica.log)) (decide_is x.replica.me x.replica.n x.replica.log value on)
      ∙ sym (and_first _ _ a ∙ when_yes _ _ _ e)

  pub own_fitting : (accept_own b own value acceptors x).fitting ≡ own_fits b value acceptors x.replica.me x.replica.n (decision x.replica.log) (accepted x.replica.log) (executed x.replica.log)
  unfolding own_fits has_accepted
  own_fitting = due (nat_le value.base_len (length (executed x.replica.log)) && not (option_map_or (λ h. ballot_eq h.0 b) (accepted x.replica.log) false)) refl
    where
      due : (t : Bool) → (nat_le value.base_len (length (executed x.replica.log)) && not (option_map_or (λ h. ballot_eq h.0 b) (accepted x.replica.log) false)) ≡ t →
          (accept_own b own value acceptors x).fitting ≡ own_fits b value acceptors x.replica.me x.replica.n (decision x.replica.log) (accepted x.replica.log) (executed x.replica.log)
      due false t = ap (λ y. y.fitting) (own_waits b (promised x.replica.log) own value acceptors x refl below t) ∙ fit ∙ sym (when_no _ _ _ t)
      due true t = ap (λ y. y.fitting) (own_accepts b (promised x.replica.log) own value acceptors x refl below t) ∙ counted _ _ refl refl ∙ sym (when_yes _ _ _ t)

-- ---- what is sent changes neither the coordinator nor what fits

send_coordinator : (c : Control) (x : Draft) (k : ℕ) → (send_control c x k).replica.coordinator ≡ x.replica.coordinator
unfolding send_control
send_coordinator c x k = when_same (λ y. y.replica.coordinator) _ _ _ x.replica.coordinator refl refl

each_coordinator : (ks : List ℕ) (c : Control) (x : Draft) → (send_to_each ks c x).replica.coordinator ≡ x.replica.coordinator
unfolding send_to_each
each_coordinator [] c x = refl
each_coordinator (k ∷ ks) c x = each_coordinator ks c (send_control c x k) ∙ send_coordinator c x k

pub proposal_fitting : (m : Coordinator) (x : Draft) → (send_proposal m x).fitting ≡ x.fitting
unfolding send_proposal
proposal_fitting Coordinator.Idle x = refl
proposal_fitting (Coordinator.Collecting ms pages) x = refl
proposal_fitting (Coordinator.Preparing b own answers) x = refl
proposal_fitting (Coordinator.Proposing b own value acceptors) x = each_fitting _ _ x
proposal_fitting (Coordinator.Preempted own seen) x = refl

proposal_coordinator : (m : Coordinator) (x : Draft) → (send_proposal m x).replica.coordinator ≡ x.replica.coordinator
unfolding send_proposal
proposal_coordinator Coordinator.Idle x = refl
proposal_coordinator (Coordinator.Collecting ms pages) x = refl
proposal_coordinator (Coordinator.Preparing b own answers) x = refl
proposal_coordinator (Coordinator.Proposing b own value acceptors) x = each_coordinator _ _ x
proposal_coordinator (Coordinator.Preempted own seen) x = refl

pub ask_fitting : (m : Coordinator) (x : Draft) → (send_ask m x).fitting ≡ x.fitting
unfolding send_ask
ask_fitting Coordinator.Idle x = refl
ask_fitting (Coordinator.Collecting ms pages) x = refl
ask_fitting (Coordinator.Preparing b own answers) x = each_fitting _ _ x
ask_fitting (Coordinator.Proposing b own value acceptors) x = refl
ask_fitting (Coordinator.Preempted own seen) x = refl

-- ---- after the own acceptance no promise is asked for

-- nothing is asked where this is the coordinator
abbrev AsksNothing : Coordinator → Type 0
AsksNothing m = (y : Draft) → send_ask m y ≡ y

over_asks : (own : Decision) (seen : Ballot) → AsksNothing (Coordinator.Preempted own seen)
unfolding send_ask
over_asks own seen y = refl

proposing_asks : (b : Ballot) (own value : Decision) (acceptors : List ℕ) → AsksNothing (Coordinator.Proposing b own value acceptors)
unfolding send_ask
proposing_asks b own value acceptors y = refl

quiet_asks : AsksNothing Coordinator.Idle
unfolding send_ask
quiet_asks y = refl

enter_coordinator : (x : Draft) → (enter x).replica.coordinator ≡ x.replica.coordinator
unfolding enter keep forget_epoch
enter_coordinator x = when_same (λ y. y.replica.coordinator) _ _ _ x.replica.coordinator refl refl

tail_coordinator : (x : Draft) → (adopt_tail x).replica.coordinator ≡ x.replica.coordinator
unfolding adopt_tail keep
tail_coordinator x = go (decision x.replica.log)
  where
    go : (o : Option Decision) → (option_map_or (λ d. when nat_le d.base_len (length (executed x.replica.log)) && nat_lt (length (executed x.replica.log)) (start x.replica.log)
        then keep (Rec.Adopt (length (executed x.replica.log)) (drop (length (executed x.replica.log) - d.base_len) d.tail)) x otherwise x) o x).replica.coordinator ≡ x.replica.coordinator
    go None = refl
    go (Some d) = when_same (λ y. y.replica.coordinator) _ _ _ x.replica.coordinator refl refl

learn_coordinator : (d : Decision) (x : Draft) → (learn d x).replica.coordinator ≡ Coordinator.Idle
unfolding learn advance forget_epoch noting
learn_coordinator d x = enter_coordinator (adopt_tail (forget_epoch (noting Coordinator.Idle (keep (Rec.Decide d) x)))) ∙ tail_coordinator (forget_epoch (noting Coordinator.Idle (keep (Rec.Decide d) x)))

chosen_quiet : (d : Decision) (x : Draft) → (on_chosen d x).replica.coordinator ≡ Coordinator.Idle
unfolding on_chosen
chosen_quiet d x = each_coordinator _ _ _ ∙ learn_coordinator d x

pub noted : (m : Coordinator) (x : Draft) → (noting m x).replica.coordinator ≡ m
unfolding noting
noted m x = refl

count_asks : (b : Ballot) (own value : Decision) (acceptors : List ℕ) (k : ℕ) (x : Draft) → AsksNothing (count_acceptor b own value acceptors k x).replica.coordinator
unfolding count_acceptor
count_asks b own value acceptors k x = go (has_majority (spec_of x.replica) (k ∷ acceptors)) refl
  where
    go : (t : Bool) → has_majority (spec_of x.replica) (k ∷ acceptors) ≡ t → AsksNothing (count_acceptor b own value acceptors k x).replica.coordinator
    go true t = subst (λ m. AsksNothing m) (sym (ap (λ (y : Draft). y.replica.coordinator) (when_yes _ _ _ t) ∙ chosen_quiet value (noting (Coordinator.Proposing b own value (k ∷ acceptors)) x))) quiet_asks
    go false t = subst (λ m. AsksNothing m) (sym (ap (λ (y : Draft). y.replica.coordinator) (when_no _ _ (noting (Coordinator.Proposing b own value (k ∷ acceptors)) x) t) ∙ noted (Coordinator.Proposing b own value (k ∷ acceptors)) x)) (proposing_asks b own value (k ∷ acceptors))

own_asks : (b : Ballot) (own value : Decision) (acceptors : List ℕ) (x : Draft) → x.replica.coordinator ≡ Coordinator.Proposing b own value acceptors → AsksNothing (accept_own b own value acceptors x).replica.coordinator
unfolding noting
own_asks b own value acceptors x e = go (ballot_lt b (promised x.replica.log)) (nat_le value.base_len (length (executed x.replica.log)) && not (has_accepted b x)) refl refl
  where
    go : (t u : Bool) → ballot_lt b (promised x.replica.log) ≡ t → (nat_le value.base_len (length (executed x.replica.log)) && not (has_accepted b x)) ≡ u → AsksNothing (accept_own b own value acceptors x).replica.coordinator
    go true u t w = subst (λ m. AsksNothing m) (sym (ap (λ (y : Draft). y.replica.coordinator) (own_preempted b (promised x.replica.log) own value acceptors x refl t))) (over_asks own (promised x.replica.log))
    go false false t w = subst (λ m. AsksNothing m) (sym (ap (λ (y : Draft). y.replica.coordinator) (own_waits b (promised x.replica.log) own value acceptors x refl t w) ∙ e)) (proposing_asks b own value acceptors)
    go false true t w = subst (λ m. AsksNothing m) (sym (ap (λ (y : Draft). y.replica.coordinator) (own_accepts b (promised x.replica.log) own value acceptors x refl t w)))
        (count_asks b own value acceptors x.replica.me (keep (Rec.Accept (instance x) b value) x))

pub renewed_asks : (b : Ballot) (own value : Decision) (acceptors : List ℕ) (x : Draft) → x.replica.coordinator ≡ Coordinator.Proposing b own value acceptors →
    send_ask (renew (Coordinator.Proposing b own value acceptors) x).replica.coordinator (renew (Coordinator.Proposing b own value acceptors) x) ≡ renew (Coordinator.Proposing b own value acceptors) x
unfolding renew
renewed_asks b own value acceptors x e = subst (λ m. AsksNothing m) (sym (proposal_coordinator _ _)) (own_asks b own value acceptors x e) _

pub renewed_fitting : (b : Ballot) (own value : Decision) (acceptors : List ℕ) (x : Draft) → (renew (Coordinator.Proposing b own value acceptors) x).fitting ≡ (accept_own b own value acceptors x).fitting
unfolding renew
renewed_fitting b own value acceptors x = proposal_fitting _ _
