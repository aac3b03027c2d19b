use Rattle.std.proofs.Common.{Bor, ◌≡◌, ◌∙◌, ℕ, List, length, sym, subst}
use Rattle.std.specs.Prelude.{map, fold}
use Rattle.std.specs.List.{AllByRecursion}
use Rattle.std.specs.Map.Iter.{deref_pair}
use Rattle.std.proofs.lemmas.Map.Iter.{iter_turn, iter_end}
use Rattle.crsm_fact_log.proofs.Lists.{map-push}
use Rattle.crsm_mpspec.specs.Types.{Value}
use Rattle.crsm_mpspec.specs.Electing.{choose_reported}
use Rattle.crsm_mpreplica.specs.State.{MpReplicaStands}
use Rattle.crsm_mpcore.proofs.SoundLemmas.{FitsChoiceAt}
use Rattle.crsm_mpcore.proofs.ElectionLemmas.{chosen-fit, fold-more, all-got}
use Rattle.crsm_mpcore.proofs.electing.choose_all.Goals as goal

pub loop-slot-init : goal.loop-slot-init
loop-slot-init c x s reports e = s

pub loop-slot-preserved : goal.loop-slot-preserved
unfolding choose_reported
loop-slot-preserved c x s reports e =
    let es = c.args.election.now.findings.chosen.entries in
    let begins : c.into_iter-slot-iterator.result ≡ es = cc in
    let item : Bor ℕ × Bor Value = (c.in-Some.slot, c.in-Some.value) in
    let turn = iter_turn deref_pair es c.loop-slot.yielded _ c.loop-slot.slot-iterator _ _ begins c.loop-slot.yielded_by item c.in-Some.is c.next.ensures.steps in
    let fits = all-got FitsChoiceAt es (length c.loop-slot.yielded) (c.in-Some.slot.now, c.in-Some.value.now) (subst (AllByRecursion FitsChoiceAt) (sym e.findings.chosen) (chosen-fit reports e.findings.fit)) turn.1 in
    let before = c.loop-slot.invariant x s reports e in
    subst (MpReplicaStands c.choose.new.self) (sym (fold-more choose_reported x (map deref_pair c.loop-slot.yielded) _ (c.in-Some.slot.now, c.in-Some.value.now) (map-push deref_pair c.loop-slot.yielded item)))
    (c.in_ok-choose.ensures (fold choose_reported x (map deref_pair c.loop-slot.yielded)) before fits)

pub returns : goal.returns
returns c x s reports e =
    let es = c.args.election.now.findings.chosen.entries in
    let begins : c.into_iter-slot-iterator.result ≡ es = cc in
    let end = iter_end deref_pair es c.loop-slot.yielded _ c.loop-slot.slot-iterator _ _ begins c.loop-slot.yielded_by c.in-None.is c.next.ensures.steps in
    subst (λ (cs : List (ℕ × Value)). MpReplicaStands c.loop-slot.state (fold choose_reported x cs)) (end.0 ∙ e.findings.chosen) (c.loop-slot.invariant x s reports e)
