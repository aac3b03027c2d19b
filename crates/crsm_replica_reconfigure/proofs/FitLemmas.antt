-- Whether the records of a proposer's own acceptance fit.
use Rattle.std.proofs.Common.{◌≡◌, ℕ, ◌+◌, List, ◌∷◌, refl, sym, ◌∙◌, ap, Bool, true, false, length}
use Rattle.std.specs.Prelude.{◌&&◌, ◌==◌, not, nat_le, nat_lt, Some}
use Rattle.std.specs.Option.{option_map_or}
use Rattle.std.proofs.lemmas.Bool.{eq-eqb, false≢true}
use Rattle.crsm_base.specs.Order.{ballot_lt}
use Rattle.crsm_base.specs.Spelling.{FitsDecision}
use Rattle.crsm_spec.specs.Types.{Ballot, Decision, Rec}
use Rattle.crsm_spec.specs.Log.{Log, known, decision, executed, promised, accepted}
use Rattle.crsm_spec.specs.Fits.{fits, booted, can_be_members}
use Rattle.crsm_spec.specs.Quorum.{spec_decided, has_majority}
use Rattle.crsm_spec.specs.Replica.{Coordinator, spec_of}
use Rattle.crsm_spec.specs.Draft.{Draft, keep, noting}
use Rattle.crsm_spec.specs.Coordinate.{instance, learn, has_accepted, count_acceptor, accept_own}
use Rattle.crsm_replica.specs.Sound.{IsSound}
use Rattle.crsm_replica.specs.Replica.{learnt}
use Rattle.crsm_replica_reconfigure.specs.Rules.{tail_goes_on}
use Rattle.crsm_replica_reconfigure.proofs.DraftLemmas.{when_yes, when_no, and_first, booted_more, keep_fitting, learn_fits, learnt_fitting}
use Rattle.crsm_replica_reconfigure.proofs.ChoiceLemmas.{chosen_fitting, chosen_coordinator, noted_fitting}
use Rattle.crsm_replica_reconfigure.proofs.ProposeLemmas.{own_preempted, own_waits, own_accepts, accepted_spec, count_monotone}

pub count_few : (b : Ballot) (own value : Decision) (acceptors : List ℕ) (k : ℕ) (y : Draft) → has_majority (spec_of y.replica) (k ∷ acceptors) ≡ false → (count_acceptor b own value acceptors k y).fitting ≡ y.fitting
unfolding count_acceptor
count_few b own value acceptors k y h = ap (λ z. z.fitting) (when_no _ _ (noting (Coordinator.Proposing b own value (k ∷ acceptors)) y) h) ∙ noted_fitting (Coordinator.Proposing b own value (k ∷ acceptors)) y

pub count_many : (b : Ballot) (own value : Decision) (acceptors : List ℕ) (k : ℕ) (y : Draft) → has_majority (spec_of y.replica) (k ∷ acceptors) ≡ true → (count_acceptor b own value acceptors k y).fitting ≡ (learn value y).fitting
unfolding count_acceptor
count_many b own value acceptors k y h =
    ap (λ z. z.fitting) (when_yes _ _ (noting (Coordinator.Proposing b own value (k ∷ acceptors)) y) h ∙ chosen_coordinator value (Coordinator.Proposing b own value (k ∷ acceptors)) y) ∙ chosen_fitting value y

same_known : (i : ℕ) (b : Ballot) (v : Decision) (log : Log) → known (Rec.Accept i b v ∷ log) ≡ known log
unfolding known decision
same_known i b v log = refl

decides_too : (me n : ℕ) (log : Log) (i : ℕ) (b : Ballot) (v d : Decision) → booted log ≡ true → fits me n (Rec.Accept i b v ∷ log) (Rec.Decide d) ≡ fits me n log (Rec.Decide d)
unfolding fits
decides_too me n log i b v d h =
    ap (λ p. (p && nat_lt (known (Rec.Accept i b v ∷ log)) d.epoch) && can_be_members (spec_decided n (Some d)) d.members) (booted_more (Rec.Accept i b v) log h ∙ sym h)
    ∙ ap (λ e. (booted log && nat_lt e d.epoch) && can_be_members (spec_decided n (Some d)) d.members) (same_known i b v log)

kept_booted : (x : Draft) (i : ℕ) (b : Ballot) (d : Decision) → booted x.replica.log ≡ true → booted ((keep (Rec.Accept i b d) x).replica.log) ≡ true
unfolding keep
kept_booted x i b d h = booted_more (Rec.Accept i b d) x.replica.log h

kept_executed : (x : Draft) (i : ℕ) (b : Ballot) (d : Decision) → executed ((keep (Rec.Accept i b d) x).replica.log) ≡ executed x.replica.log
unfolding keep executed
kept_executed x i b d = refl

kept_decides : (x : Draft) (i : ℕ) (b : Ballot) (d : Decision) → booted x.replica.log ≡ true →
    fits (keep (Rec.Accept i b d) x).replica.me (keep (Rec.Accept i b d) x).replica.n (keep (Rec.Accept i b d) x).replica.log (Rec.Decide d) ≡ fits x.replica.me x.replica.n x.replica.log (Rec.Decide d)
unfolding keep
kept_decides x i b d h = decides_too x.replica.me x.replica.n x.replica.log i b d d h

pub not_after : (b : Ballot) (own value : Decision) (acceptors : List ℕ) (k : ℕ) (y : Draft) → y.fitting ≡ false → (count_acceptor b own value acceptors k y).fitting ≡ false
not_after b own value acceptors k y h = go (count_acceptor b own value acceptors k y).fitting refl
  where
    go : (t : Bool) → (count_acceptor b own value acceptors k y).fitting ≡ t → (count_acceptor b own value acceptors k y).fitting ≡ false
    go true e = absurd (false≢true (sym h ∙ count_monotone b own value acceptors k y e))
    go false e = e

pub kept_learns : (x : Draft) (i : ℕ) (b : Ballot) (d : Decision) → booted x.replica.log ≡ true → FitsDecision d → (keep (Rec.Accept i b d) x).fitting ≡ true →
    (learn d (keep (Rec.Accept i b d) x)).fitting ≡ (fits x.replica.me x.replica.n x.replica.log (Rec.Decide d) && tail_goes_on d (executed x.replica.log))
kept_learns x i b d on f fit =
    learn_fits d (keep (Rec.Accept i b d) x) (kept_booted x i b d on) f ∙ ap (λ l. (learnt d (keep (Rec.Accept i b d) x)).fitting && tail_goes_on d l) (kept_executed x i b d)
    ∙ ap (λ p. p && tail_goes_on d (executed x.replica.log)) (learnt_fitting d (keep (Rec.Accept i b d) x) ∙ and_first _ _ fit ∙ kept_decides x i b d on)

-- ---- the instance of an acceptance

twice : (a b c : Bool) → c ≡ true → ((a && b) && b) ≡ ((a && c) && b)
twice false b c h = refl
twice true b false h = absurd (false≢true h)
twice true true true h = refl
twice true false true h = refl

-- an acceptance fits for the epoch of its decision where it fits for the next instance
pub fits_next : (x : Draft) (b : Ballot) (d : Decision) →
    fits x.replica.me x.replica.n x.replica.log (Rec.Accept d.epoch b d) ≡ fits x.replica.me x.replica.n x.replica.log (Rec.Accept (instance x) b d)
unfolding fits instance
fits_next x b d =
    let next = known x.replica.log + 1 in
    ap (λ p. ((p && not (ballot_lt b (promised x.replica.log))) && option_map_or (λ a. ballot_lt a.0 b) (accepted x.replica.log) true) && nat_le d.base_len (length (executed x.replica.log)))
    (twice (booted x.replica.log) (d.epoch == next) (next == next) (eq-eqb next next refl))

-- ---- all cases

pub fits_preempted : (b top : Ballot) (own value : Decision) (acceptors : List ℕ) (x : Draft) → IsSound x → top ≡ promised x.replica.log → ballot_lt b top ≡ true → true ≡ (accept_own b own value acceptors x).fitting
fits_preempted b top own value acceptors x s t h = sym (ap (λ y. y.fitting) (own_preempted b top own value acceptors x t h) ∙ noted_fitting (Coordinator.Preempted own top) x ∙ s.fitting)

pub fits_waiting : (b top : Ballot) (own value : Decision) (acceptors : List ℕ) (x : Draft) → IsSound x → top ≡ promised x.replica.log → ballot_lt b top ≡ false →
    (nat_le value.base_len (length (executed x.replica.log)) && not (has_accepted b x)) ≡ false → true ≡ (accept_own b own value acceptors x).fitting
fits_waiting b top own value acceptors x s t h w = sym (ap (λ y. y.fitting) (own_waits b top own value acceptors x t h w) ∙ s.fitting)

module _ (b top : Ballot) (own value : Decision) (acceptors : List ℕ) (x : Draft) (i : ℕ) (s : IsSound x) (t : top ≡ promised x.replica.log) (h : ballot_lt b top ≡ false)
    (w : (nat_le value.base_len (length (executed x.replica.log)) && not (has_accepted b x)) ≡ true) (next : i ≡ instance x) where
  rule : (accept_own b own value acceptors x).fitting ≡ (count_acceptor b own value acceptors x.replica.me (keep (Rec.Accept i b value) x)).fitting
  rule = ap (λ y. y.fitting) (own_accepts b top own value acceptors x t h w) ∙ ap (λ j. (count_acceptor b own value acceptors x.replica.me (keep (Rec.Accept j b value) x)).fitting) (sym next)

  kept : (keep (Rec.Accept i b value) x).fitting ≡ fits x.replica.me x.replica.n x.replica.log (Rec.Accept i b value)
  kept = keep_fitting (Rec.Accept i b value) x ∙ and_first _ _ s.fitting

  -- where the acceptance fits and is no majority
  pub fits_accepted : fits x.replica.me x.replica.n x.replica.log (Rec.Accept i b value) ≡ true → has_majority (spec_of x.replica) (x.replica.me ∷ acceptors) ≡ false → true ≡ (accept_own b own value acceptors x).fitting
  fits_accepted a few =
      sym (rule ∙ count_few b own value acceptors x.replica.me (keep (Rec.Accept i b value) x) (ap (λ ks. has_majority ks (x.replica.me ∷ acceptors)) (accepted_spec i b value x) ∙ few) ∙ kept ∙ a)

  -- where it is one
  pub fits_chosen : FitsDecision value → fits x.replica.me x.replica.n x.replica.log (Rec.Accept i b value) ≡ true → has_majority (spec_of x.replica) (x.replica.me ∷ acceptors) ≡ true →
      (fits x.replica.me x.replica.n x.replica.log (Rec.Decide value) && tail_goes_on value (executed x.replica.log)) ≡ (accept_own b own value acceptors x).fitting
  fits_chosen f a many =
      sym (rule ∙ count_many b own value acceptors x.replica.me (keep (Rec.Accept i b value) x) (ap (λ ks. has_majority ks (x.replica.me ∷ acceptors)) (accepted_spec i b value x) ∙ many)
      ∙ kept_learns x i b value s.on_record f (kept ∙ a))

  -- where it does not fit
  pub fits_not : fits x.replica.me x.replica.n x.replica.log (Rec.Accept i b value) ≡ false → false ≡ (accept_own b own value acceptors x).fitting
  fits_not a = sym (rule ∙ not_after b own value acceptors x.replica.me (keep (Rec.Accept i b value) x) (kept ∙ a))
