use Rattle.std.proofs.Common.{◌≡◌, ◌∙◌, sym, subst, ap, true, length}
use Rattle.std.specs.Prelude.{Some, ◌&&◌, nat_le, not}
use Rattle.crsm_base.specs.Order.{ballot_lt}
use Rattle.crsm_base.specs.Messages.{FitsVote}
use Rattle.crsm_base.specs.Spelling.{FitsOption}
use Rattle.crsm_spec.specs.Types.{Decision, Rec}
use Rattle.crsm_spec.specs.Log.{decision, executed}
use Rattle.crsm_spec.specs.Draft.{Draft, keep, noting}
use Rattle.crsm_spec.specs.Coordinate.{has_accepted, count_acceptor, instance}
use Rattle.crsm_spec.specs.Lists.{has}
use Rattle.crsm_spec.specs.Replica.{Coordinator, spec_of}
use Rattle.crsm_spec.specs.Quorum.{spec_decided}
use Rattle.crsm_replica_coordinator.specs.Coordinator.{CoordinatorStands, proposal_of, preempted_by}
use Rattle.crsm_replica.specs.Replica.{ReplicaStands}
use Rattle.crsm_replica_reconfigure.proofs.ProposeLemmas.{accepted_next, own_preempted, own_waits, own_accepts, count_monotone, kept_coordinator, accepted_spec, none_proposed, kept_me}
use Rattle.crsm_replica_coordinator.proofs.Coordinators.{proposing_mine}
use Rattle.crsm_replica_reconfigure.proofs.ChoiceLemmas.{same_value, same_round, noted_twice, spec_is}
use Rattle.crsm_replica_reconfigure.proofs.DraftLemmas.{was_whole}
use Rattle.crsm_replica_reconfigure.proofs.proposing.accept_own.Goals as goal

pub returns-in_default : goal.returns-in_default
unfolding proposal_of
returns-in_default c = λ x b own value acceptors s e f.
    let found : c.in_ok-found.found ≡ Some (b, value) = c.in_ok-found.ensures.value x.replica.me x.replica.n (decision x.replica.log) (Coordinator.Proposing b own value acceptors) (subst (λ z. CoordinatorStands c.coordinator.result.now x.replica.me x.replica.n (decision x.replica.log) z) e (c.coordinator.ensures x s)) in
    absurd (none_proposed c.in_ok-found.found (b, value) found c.in_default.is)

pub returns-then-ballot_precedes : goal.returns-then-ballot_precedes
unfolding proposal_of preempted_by noting
returns-then-ballot_precedes c = λ x b own value acceptors s e f.
    let m : Coordinator = Coordinator.Proposing b own value acceptors in
    let stands = subst (λ z. CoordinatorStands c.coordinator.result.now x.replica.me x.replica.n (decision x.replica.log) z) e (c.coordinator.ensures x s) in
    let found : c.in_ok-found.found ≡ Some (b, value) = c.in_ok-found.ensures.value x.replica.me x.replica.n (decision x.replica.log) m stands in
    let ballot : c.in-Some.ballot ≡ b = same_round c.in_ok-found.found c.in-Some.ballot b c.in-Some.value value c.in-Some.is found in
    let decided : c.in-Some.value ≡ value = same_value c.in_ok-found.found c.in-Some.ballot b c.in-Some.value value c.in-Some.is found in
    let top = c.promised-top.ensures.value x s in
    let below : ballot_lt c.in-Some.ballot c.promised-top.result ≡ ballot_lt b c.promised-top.result = ap (λ z. ballot_lt z c.promised-top.result) ballot in
    let rule = own_preempted b c.promised-top.result own value acceptors x top (sym below ∙ sym c.ballot_precedes.ensures ∙ c.if-ballot_precedes.true) in
    let taken = subst (λ z. CoordinatorStands c.take_coordinator-coordinator.result x.replica.me x.replica.n (decision x.replica.log) z) e (c.take_coordinator-coordinator.ensures.coordinator x s) in
    let over = c.preempted.ensures x.replica.me x.replica.n (decision x.replica.log) m taken in
    let set = c.set_coordinator.ensures (noting Coordinator.Idle x) (Coordinator.Preempted own c.promised-top.result) (c.take_coordinator-coordinator.ensures.quiet x s) over in
    subst (λ y. ReplicaStands c.set_coordinator.new.self y) (noted_twice (Coordinator.Preempted own c.promised-top.result) x ∙ sym rule) set

pub returns-then-not-is_due : goal.returns-then-not-is_due
unfolding proposal_of
returns-then-not-is_due c = λ x b own value acceptors s e f.
    let m : Coordinator = Coordinator.Proposing b own value acceptors in
    let stands = subst (λ z. CoordinatorStands c.coordinator.result.now x.replica.me x.replica.n (decision x.replica.log) z) e (c.coordinator.ensures x s) in
    let found : c.in_ok-found.found ≡ Some (b, value) = c.in_ok-found.ensures.value x.replica.me x.replica.n (decision x.replica.log) m stands in
    let ballot : c.in-Some.ballot ≡ b = same_round c.in_ok-found.found c.in-Some.ballot b c.in-Some.value value c.in-Some.is found in
    let decided : c.in-Some.value ≡ value = same_value c.in_ok-found.found c.in-Some.ballot b c.in-Some.value value c.in-Some.is found in
    let top = c.promised-top.ensures.value x s in
    let below : ballot_lt c.in-Some.ballot c.promised-top.result ≡ ballot_lt b c.promised-top.result = ap (λ z. ballot_lt z c.promised-top.result) ballot in
    let due : (nat_le c.in-Some.value.base_len (length (executed x.replica.log)) && not (has_accepted c.in-Some.ballot x)) ≡ (nat_le value.base_len (length (executed x.replica.log)) && not (has_accepted b x)) =
    ap (λ (d : Decision). nat_le d.base_len (length (executed x.replica.log)) && not (has_accepted c.in-Some.ballot x)) decided ∙ ap (λ z. nat_le value.base_len (length (executed x.replica.log)) && not (has_accepted z x)) ballot in
    let rule = own_waits b c.promised-top.result own value acceptors x top (sym below ∙ sym c.ballot_precedes.ensures ∙ c.if-ballot_precedes.false) (sym due ∙ sym (c.is_due-is_due.ensures x s) ∙ c.if-not-is_due.true) in
    subst (λ y. ReplicaStands c.args.state.now y) (sym rule) s

pub accept-requires-clause-ballot : goal.accept-requires-clause-ballot
accept-requires-clause-ballot c = (subst (FitsOption FitsVote) c.in-Some.is c.in_ok-found.ensures.fits).0

pub accept-requires-clause-decision : goal.accept-requires-clause-decision
accept-requires-clause-decision c = (subst (FitsOption FitsVote) c.in-Some.is c.in_ok-found.ensures.fits).1

pub returns : goal.returns
unfolding proposal_of
returns c = λ x b own value acceptors s e f.
    let m : Coordinator = Coordinator.Proposing b own value acceptors in
    let stands = subst (λ z. CoordinatorStands c.coordinator.result.now x.replica.me x.replica.n (decision x.replica.log) z) e (c.coordinator.ensures x s) in
    let found : c.in_ok-found.found ≡ Some (b, value) = c.in_ok-found.ensures.value x.replica.me x.replica.n (decision x.replica.log) m stands in
    let ballot : c.in-Some.ballot ≡ b = same_round c.in_ok-found.found c.in-Some.ballot b c.in-Some.value value c.in-Some.is found in
    let decided : c.in-Some.value ≡ value = same_value c.in_ok-found.found c.in-Some.ballot b c.in-Some.value value c.in-Some.is found in
    let top = c.promised-top.ensures.value x s in
    let below : ballot_lt c.in-Some.ballot c.promised-top.result ≡ ballot_lt b c.promised-top.result = ap (λ z. ballot_lt z c.promised-top.result) ballot in
    let due : (nat_le c.in-Some.value.base_len (length (executed x.replica.log)) && not (has_accepted c.in-Some.ballot x)) ≡ (nat_le value.base_len (length (executed x.replica.log)) && not (has_accepted b x)) =
    ap (λ (d : Decision). nat_le d.base_len (length (executed x.replica.log)) && not (has_accepted c.in-Some.ballot x)) decided ∙ ap (λ z. nat_le value.base_len (length (executed x.replica.log)) && not (has_accepted z x)) ballot in
    let rule = own_accepts b c.promised-top.result own value acceptors x top (sym below ∙ sym c.ballot_precedes.ensures ∙ c.if-ballot_precedes.false) (sym due ∙ sym (c.is_due-is_due.ensures x s) ∙ c.if-not-is_due.false) in
    let mine = proposing_mine x.replica.me x.replica.n (decision x.replica.log) c.coordinator.result.now b own value acceptors stands in
    let z : Draft = keep (Rec.Accept (instance x) b value) x in
    let fit : z.fitting ≡ true = count_monotone b own value acceptors x.replica.me z (ap (λ y. y.fitting) (sym rule) ∙ f) in
    let next : c.in-Some.value.epoch ≡ instance x = ap (λ (d : Decision). d.epoch) decided ∙ accepted_next x b value fit in
    let same : keep (Rec.Accept c.in-Some.value.epoch c.in-Some.ballot c.in-Some.value) x ≡ z =
    ap (λ i. keep (Rec.Accept i c.in-Some.ballot c.in-Some.value) x) next ∙ ap (λ q. keep (Rec.Accept (instance x) q c.in-Some.value) x) ballot ∙ ap (λ d. keep (Rec.Accept (instance x) b d) x) decided in
    let kept = c.in-Ok.ensures x s in
    let mid = subst (λ y. ReplicaStands c.accept.new.state y) same (was_whole c.accept.new.state x _ (ap (λ y. y.fitting) same ∙ fit) kept.1) in
    let me : c.me-me.result ≡ x.replica.me = c.me-me.ensures.value z mid ∙ kept_me (Rec.Accept (instance x) b value) x in
    let counted : has (spec_of z.replica) c.me-me.result ≡ true =
    ap (λ ks. has ks c.me-me.result) (accepted_spec (instance x) b value x ∙ spec_is x.replica) ∙ ap (λ k. has (spec_decided x.replica.n (decision x.replica.log)) k) me ∙ mine.0.counted in
    let voted = c.in_ok-count_vote.ensures z b own value acceptors mid (kept_coordinator (Rec.Accept (instance x) b value) x ∙ e) counted in
    let whole = ap (λ k. count_acceptor b own value acceptors k z) me ∙ sym rule in
    subst (λ y. ReplicaStands c.count_vote.new.state y) whole (was_whole c.count_vote.new.state z _ (ap (λ y. y.fitting) whole ∙ f) voted.1)
