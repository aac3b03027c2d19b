use Rattle.std.proofs.Common.{◌≡◌, ◌∙◌, sym, ap, List, ℕ}
use Rattle.std.specs.Prelude.{Some}
use Rattle.std.proofs.lemmas.Result.{IfOk-weaker}
use Rattle.crsm_base.specs.MessageReading.{control_of}
use Rattle.crsm_spec.specs.Draft.{Draft}
use Rattle.crsm_spec.specs.Parts.{Piece, whole_with}
use Rattle.crsm_spec.specs.Step.{on_part, on_whole_message, if_fitting}
use Rattle.crsm_segment.specs.Taking.{piece}
use Rattle.crsm_core.proofs.Fitting.{kept}
use Rattle.crsm_core.proofs.StepLemmas.{parted, part_alone, part_whole}
use Rattle.crsm_core.proofs.parts.on_part.Goals as goal

pub returns-in_default : goal.returns-in_default
returns-in_default c = λ x s n.
    let p : Piece = piece c.args.from c.args.heading.boot c.args.heading.number c.args.heading.index c.args.heading.count c.args.bytes.now in
    let whole = c.in_ok-whole.ensures.whole x s in
    kept c.take_part.new.self x (on_part p x) (parted p x) c.states_are_sound.ensures (part_alone p x (sym c.in_default.is ∙ whole)) (c.in_ok-whole.ensures.part x s)

pub returns : goal.returns
returns c =
    IfOk-weaker c.on_message.result _ _ (λ _ made x s n.
    let p : Piece = piece c.args.from c.args.heading.boot c.args.heading.number c.args.heading.index c.args.heading.count c.args.bytes.now in
    let whole = c.in_ok-whole.ensures.whole x s in
    let y : Draft = parted p x in
    let bytes : List ℕ = c.as_slice.result.now in
    let there : Some bytes ≡ whole_with p x.replica.parts = ap (λ (b : List ℕ). Some b) c.as_slice.ensures ∙ sym c.in-Some.is ∙ whole in
    kept c.on_message.new.state x (on_part p x) (if_fitting y (on_whole_message c.args.from (control_of bytes) y)) c.states_are_sound.ensures (part_whole p x bytes there)
    (made y (c.in_ok-whole.ensures.part x s) n)) c.on_message.ensures
