use Rattle.std.proofs.Common.{◌++◌, ◌∷◌, [], sym, subst, refl}
use Rattle.std.proofs.lemmas.Result.{IfOk-weaker}
use Rattle.crsm_spec.specs.Types.{Line}
use Rattle.crsm_spec.specs.Log.{decision, known, no_ballot}
use Rattle.crsm_spec.specs.Replica.{Coordinator}
use Rattle.crsm_spec.specs.Draft.{noting}
use Rattle.crsm_suspend.specs.Collecting.{FitsGot}
use Rattle.crsm_suspend.specs.Coordinating.{on_got}
use Rattle.crsm_replica.specs.Replica.{ReplicaStands}
use Rattle.crsm_replica_reconfigure.specs.Reports.{AsksOn}
use Rattle.crsm_replica_reconfigure.proofs.ReportLemmas.{does_more, does_nothing_more, does_wait, does_begin, does_refuse, completes}
use Rattle.crsm_replica_reconfigure.proofs.collecting.go_on.Goals as goal

pub returns-in-Stranger : goal.returns-in-Stranger
returns-in-Stranger c = λ x ms pages s g can.
    let stands = c.collecting.ensures x.replica.me x.replica.n x.replica.log ms pages g.counted (g.collects x.replica.log refl) in
    let set = c.set_coordinator.ensures x (Coordinator.Collecting ms pages) s stands in
    subst (λ r. ReplicaStands c.set_coordinator.new.self (on_got ms pages r (noting (Coordinator.Collecting ms pages) x))) (sym c.in-Stranger.is)
    (subst (λ y. ReplicaStands c.set_coordinator.new.self y) (does_nothing_more ms pages x) set)

pub returns-in-More : goal.returns-in-More
unfolding noting
returns-in-More c =
    IfOk-weaker c.ask_page.result _ _ (λ _ made x ms pages s g can.
    let stands = c.collecting-in-More.ensures x.replica.me x.replica.n x.replica.log ms pages g.counted (g.collects x.replica.log refl) in
    let set = c.set_coordinator-in-More.ensures x (Coordinator.Collecting ms pages) s stands in
    let next = subst (λ r. AsksOn c.args.k pages r) c.in-More.is can.next in
    let asked = made (noting (Coordinator.Collecting ms pages) x) ms pages set refl in
    subst (λ r. ReplicaStands c.ask_page.new.state (on_got ms pages r (noting (Coordinator.Collecting ms pages) x))) (sym c.in-More.is)
    (subst (λ y. ReplicaStands c.ask_page.new.state y) (does_more ms pages x c.args.k c.in-More.from c.in-More.after next.0 next.1) asked)) c.ask_page.ensures

pub returns-in-Kept : goal.returns-in-Kept
returns-in-Kept c = λ x ms pages s g can.
    let stands = c.collecting-in-Kept.ensures x.replica.me x.replica.n x.replica.log ms pages g.counted (g.collects x.replica.log refl) in
    let set = c.set_coordinator-in-Kept.ensures x (Coordinator.Collecting ms pages) s stands in
    subst (λ r. ReplicaStands c.set_coordinator-in-Kept.new.self (on_got ms pages r (noting (Coordinator.Collecting ms pages) x))) (sym c.in-Kept.is)
    (subst (λ y. ReplicaStands c.set_coordinator-in-Kept.new.self y) (does_wait ms pages x) set)

pub begin_proposing-requires : goal.begin_proposing-requires
begin_proposing-requires c = subst FitsGot c.in-Complete.is c.requires.spelt

pub returns-in-Complete : goal.returns-in-Complete
unfolding no_ballot
returns-in-Complete c =
    IfOk-weaker c.begin_proposing.result _ _ (λ _ made x ms pages s g can.
    let d = c.in-Complete.decision in
    let begun = made x s (completes d c.args.got x c.in-Complete.is can.begins can.fits) in
    subst (λ r. ReplicaStands c.begin_proposing.new.state (on_got ms pages r (noting (Coordinator.Collecting ms pages) x))) (sym c.in-Complete.is)
    (subst (λ y. ReplicaStands c.begin_proposing.new.state y) (does_begin ms pages x d) begun)) c.begin_proposing.ensures

pub returns-in_ok-refuse_collection-in-TooMany : goal.returns-in_ok-refuse_collection-in-TooMany
returns-in_ok-refuse_collection-in-TooMany c = λ x ms pages s g can.
    let refused = c.in_ok-refuse_collection-in-TooMany.ensures x s in
    let set = c.set_coordinator-in-TooMany.ensures (record x { excess = x.excess ++ Line.TooMany x.replica.me (known x.replica.log) c.in-TooMany.count c.in-TooMany.bytes ∷ [] }) Coordinator.Idle refused (c.quiet.ensures x.replica.me x.replica.n (decision x.replica.log)) in
    subst (λ r. ReplicaStands c.set_coordinator-in-TooMany.new.self (on_got ms pages r (noting (Coordinator.Collecting ms pages) x))) (sym c.in-TooMany.is)
    (subst (λ y. ReplicaStands c.set_coordinator-in-TooMany.new.self y) (does_refuse ms pages x c.in-TooMany.count c.in-TooMany.bytes) set)
