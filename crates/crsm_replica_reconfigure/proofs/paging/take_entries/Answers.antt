use Rattle.std.proofs.Common.{◌≡◌, ◌∙◌, sym, subst, ap, true, false, length}
use Rattle.crsm_base.specs.Spelling.{FitsEntries}
use Rattle.crsm_spec.specs.Types.{Rec}
use Rattle.crsm_spec.specs.Log.{executed}
use Rattle.crsm_spec.specs.Draft.{Draft, keep, send_retrieve}
use Rattle.crsm_spec.specs.Coordinate.{advance, adopt_tail}
use Rattle.crsm_spec.specs.Step.{if_fitting}
use Rattle.crsm_replica.specs.Replica.{ReplicaStands}
use Rattle.crsm_replica_reconfigure.specs.Rules.{take_executed}
use Rattle.std.specs.Prelude.{◌==◌}
use Rattle.std.proofs.lemmas.Result.{IfOk-weaker}
use Rattle.crsm_replica_reconfigure.proofs.PageLemmas.{tail_fits, take_fitting, no_entries}
use Rattle.crsm_replica_reconfigure.proofs.DraftLemmas.{is_whole, is_ignored, was_whole, was_ignored, and_yes, and_no, and_none}
use Rattle.crsm_replica_reconfigure.proofs.paging.take_entries.Goals as goal

pub returns-then-is_empty : goal.returns-then-is_empty
returns-then-is_empty c = λ x s f.
    let none : (length c.as_slice.result.now == 0) ≡ true = cc (c.is_empty.ensures) in
    absurd (f.some (no_entries c.args.entries.now (ap (λ es. length es == 0) (sym c.as_slice.ensures) ∙ none)))

pub returns-then-not-goes_on : goal.returns-then-not-goes_on
returns-then-not-goes_on c = λ x s f.
    let e : (take_executed c.args.k c.args.entries.now x).fitting ≡ false =
    take_fitting c.args.k x c.args.entries.now (c.states_are_sound.ensures c.args.state.now x s) f ∙ and_no _ _ (sym (c.in_ok-goes_on.ensures x s) ∙ c.if-not-goes_on.true) in
    is_ignored c.args.state.now x _ e s

pub returns-then-not-fits : goal.returns-then-not-fits
returns-then-not-fits c = λ x s f.
    let slice : c.as_slice-2.result.now ≡ c.args.entries.now = c.as_slice-2.ensures in
    let j = c.in_ok-fits.ensures x s in
    let k = subst (λ es. (c.in_ok-fits.fits ≡ (keep (Rec.Adopt c.executed_len-place.result es) x).fitting) × ReplicaStands c.adopt.new.state (if_fitting x (keep (Rec.Adopt c.executed_len-place.result es) x))) slice j in
    let place = c.executed_len-place.ensures x s in
    let u : (keep (Rec.Adopt (length (executed x.replica.log)) c.args.entries.now) x).fitting ≡ false =
    ap (λ i. (keep (Rec.Adopt i c.args.entries.now) x).fitting) (sym place) ∙ sym k.0 ∙ c.if-not-fits.true in
    let e : (take_executed c.args.k c.args.entries.now x).fitting ≡ false =
    take_fitting c.args.k x c.args.entries.now (c.states_are_sound.ensures c.args.state.now x s) f ∙ and_none _ _ u in
    is_ignored c.adopt.new.state x _ e (was_ignored c.adopt.new.state x _ (sym k.0 ∙ c.if-not-fits.true) k.1)

pub adopt-requires : goal.adopt-requires
adopt-requires c = subst FitsEntries (sym c.as_slice-2.ensures) c.requires.spelt

pub returns : goal.returns
unfolding take_executed
returns c =
    IfOk-weaker c.send_retrieve.result _ _ (λ _ made x s f.
    let slice : c.as_slice-2.result.now ≡ c.args.entries.now = c.as_slice-2.ensures in
    let j = c.in_ok-fits.ensures x s in
    let k = subst (λ es. (c.in_ok-fits.fits ≡ (keep (Rec.Adopt c.executed_len-place.result es) x).fitting) × ReplicaStands c.adopt.new.state (if_fitting x (keep (Rec.Adopt c.executed_len-place.result es) x))) slice j in
    let place = c.executed_len-place.ensures x s in
    let z : Draft = keep (Rec.Adopt c.executed_len-place.result c.args.entries.now) x in
    let u : z.fitting ≡ true = sym k.0 ∙ c.if-not-fits.false in
    let g = sym (c.in_ok-goes_on.ensures x s) ∙ c.if-not-goes_on.false in
    let sound = c.states_are_sound.ensures c.args.state.now x s in
    let t : (adopt_tail z).fitting ≡ true = tail_fits x c.args.entries.now c.executed_len-place.result sound f ∙ and_yes _ _ g ∙ u in
    let e : (take_executed c.args.k c.args.entries.now x).fitting ≡ true =
    take_fitting c.args.k x c.args.entries.now sound f ∙ and_yes _ _ g ∙ ap (λ i. (keep (Rec.Adopt i c.args.entries.now) x).fitting) (sym place) ∙ u in
    is_whole c.send_retrieve.new.self x _ e
    (subst (λ i. ReplicaStands c.send_retrieve.new.self (send_retrieve c.args.k (advance (keep (Rec.Adopt i c.args.entries.now) x)))) place
    (made (advance z) (c.in_ok-advance.ensures z (was_whole c.adopt.new.state x z u k.1) t)))) c.send_retrieve.ensures
