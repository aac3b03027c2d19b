use Rattle.std.proofs.Common.{◌≡◌, ◌∙◌, ap, sym, true, false, List, ℕ}
use Rattle.std.proofs.lemmas.Result.{IfOk-weaker}
use Rattle.crsm_spec.specs.Frames.{is_astray, on_frame, on_ack}
use Rattle.crsm_spec.specs.Clients.{on_request}
use Rattle.crsm_spec.specs.Coordinate.{on_suspect}
use Rattle.crsm_spec.specs.Step.{on_part, on_datagram}
use Rattle.crsm_spec.specs.Parts.{Piece}
use Rattle.crsm_segment.specs.Taking.{piece}
use Rattle.crsm_core.proofs.Fitting.{left}
use Rattle.crsm_core.proofs.StepLemmas.{fitted_as, is_another, stray_frame, a_frame, stray_ack, an_ack, stray_part, a_part, a_request, a_reply, a_wish}
use Rattle.crsm_core.proofs.step.on_datagram.Goals as goal

pub returns-then-is_astray : goal.returns-then-is_astray
returns-then-is_astray c = λ x s.
    let far : is_astray x.replica c.in-Frame.from c.in-Frame.to ≡ true = sym (c.is_astray.ensures x s) ∙ c.if-is_astray.true in
    left c.args.state.now x (on_datagram c.args.address c.args.datagram.now c.args.reading x)
    (stray_frame c.args.address c.in-Frame.from c.in-Frame.to c.in-Frame.epoch c.in-Frame.seq c.args.reading c.in-Frame.payload x far
    ∙ ap (λ d. on_datagram c.args.address d c.args.reading x) (sym c.in-Frame.is)) s

pub returns-else-is_astray : goal.returns-else-is_astray
returns-else-is_astray c =
    IfOk-weaker c.on_frame.result _ _ (λ _ k x s.
    let near : is_astray x.replica c.in-Frame.from c.in-Frame.to ≡ false = sym (c.is_astray.ensures x s) ∙ c.if-is_astray.false in
    fitted_as c.on_frame.new.state x (on_frame c.in-Frame.from c.in-Frame.epoch c.in-Frame.seq c.in-Frame.payload x)
    (on_datagram c.args.address c.args.datagram.now c.args.reading x)
    (a_frame c.args.address c.in-Frame.from c.in-Frame.to c.in-Frame.epoch c.in-Frame.seq c.args.reading c.in-Frame.payload x near
    ∙ ap (λ d. on_datagram c.args.address d c.args.reading x) (sym c.in-Frame.is))
    (k x s (is_another x.replica c.in-Frame.from c.in-Frame.to near))) c.on_frame.ensures

pub returns-then-is_astray-2 : goal.returns-then-is_astray-2
returns-then-is_astray-2 c = λ x s.
    let far : is_astray x.replica c.in-Ack.from c.in-Ack.to ≡ true = sym (c.is_astray-in-Ack.ensures x s) ∙ c.if-is_astray-2.true in
    left c.args.state.now x (on_datagram c.args.address c.args.datagram.now c.args.reading x)
    (stray_ack c.args.address c.in-Ack.from c.in-Ack.to c.in-Ack.epoch c.in-Ack.next c.args.reading x far
    ∙ ap (λ d. on_datagram c.args.address d c.args.reading x) (sym c.in-Ack.is)) s

pub returns-else-is_astray-2 : goal.returns-else-is_astray-2
returns-else-is_astray-2 c =
    IfOk-weaker c.on_ack.result _ _ (λ _ k x s.
    let near : is_astray x.replica c.in-Ack.from c.in-Ack.to ≡ false = sym (c.is_astray-in-Ack.ensures x s) ∙ c.if-is_astray-2.false in
    fitted_as c.on_ack.new.state x (on_ack c.in-Ack.from c.in-Ack.epoch c.in-Ack.next x) (on_datagram c.args.address c.args.datagram.now c.args.reading x)
    (an_ack c.args.address c.in-Ack.from c.in-Ack.to c.in-Ack.epoch c.in-Ack.next c.args.reading x near
    ∙ ap (λ d. on_datagram c.args.address d c.args.reading x) (sym c.in-Ack.is))
    (k x s)) c.on_ack.ensures

pub returns-then-is_astray-3 : goal.returns-then-is_astray-3
returns-then-is_astray-3 c = λ x s.
    let far : is_astray x.replica c.in-Part.from c.in-Part.to ≡ true = sym (c.is_astray-in-Part.ensures x s) ∙ c.if-is_astray-3.true in
    left c.args.state.now x (on_datagram c.args.address c.args.datagram.now c.args.reading x)
    (stray_part c.args.address c.in-Part.from c.in-Part.to c.in-Part.boot c.in-Part.number c.in-Part.index c.in-Part.count c.args.reading c.in-Part.bytes x far
    ∙ ap (λ d. on_datagram c.args.address d c.args.reading x) (sym c.in-Part.is)) s

pub returns-else-is_astray-3 : goal.returns-else-is_astray-3
returns-else-is_astray-3 c =
    IfOk-weaker c.on_part.result _ _ (λ _ k x s.
    let near : is_astray x.replica c.in-Part.from c.in-Part.to ≡ false = sym (c.is_astray-in-Part.ensures x s) ∙ c.if-is_astray-3.false in
    let part : List ℕ → Piece = λ b. piece c.in-Part.from c.in-Part.boot c.in-Part.number c.in-Part.index c.in-Part.count b in
    fitted_as c.on_part.new.state x (on_part (part c.as_slice.result.now) x) (on_datagram c.args.address c.args.datagram.now c.args.reading x)
    (ap (λ b. on_part (part b) x) c.as_slice.ensures
    ∙ a_part c.args.address c.in-Part.from c.in-Part.to c.in-Part.boot c.in-Part.number c.in-Part.index c.in-Part.count c.args.reading c.in-Part.bytes x near
    ∙ ap (λ d. on_datagram c.args.address d c.args.reading x) (sym c.in-Part.is))
    (k x s (is_another x.replica c.in-Part.from c.in-Part.to near))) c.on_part.ensures

pub returns-in-Request : goal.returns-in-Request
returns-in-Request c =
    IfOk-weaker c.on_request.result _ _ (λ _ k x s.
    fitted_as c.on_request.new.state x (on_request c.args.address c.in-Request.command c.args.reading x)
    (on_datagram c.args.address c.args.datagram.now c.args.reading x)
    (a_request c.args.address c.args.reading c.in-Request.command x ∙ ap (λ d. on_datagram c.args.address d c.args.reading x) (sym c.in-Request.is))
    (k x s)) c.on_request.ensures

pub returns-in-Reply : goal.returns-in-Reply
returns-in-Reply c = λ x s.
    left c.args.state.now x (on_datagram c.args.address c.args.datagram.now c.args.reading x)
    (a_reply c.args.address c.in-Reply.client c.in-Reply.number c.args.reading c.in-Reply.outcome x
    ∙ ap (λ d. on_datagram c.args.address d c.args.reading x) (sym c.in-Reply.is)) s

pub returns-in-Operate : goal.returns-in-Operate
returns-in-Operate c =
    IfOk-weaker c.on_suspect.result _ _ (λ _ k x s.
    fitted_as c.on_suspect.new.state x (on_suspect c.in-Operate.members x)
    (on_datagram c.args.address c.args.datagram.now c.args.reading x)
    (a_wish c.args.address c.args.reading c.in-Operate.members x ∙ ap (λ d. on_datagram c.args.address d c.args.reading x) (sym c.in-Operate.is))
    (k x s)) c.on_suspect.ensures
