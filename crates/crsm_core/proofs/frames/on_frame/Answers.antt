use Rattle.std.proofs.Common.{◌≡◌, ◌∙◌, sym, arith, true, false}
use Rattle.std.specs.Prelude.{◌≢◌}
use Rattle.std.proofs.lemmas.Result.{IfOk-weaker}
use Rattle.crsm_spec.specs.Replica.{next_from}
use Rattle.crsm_spec.specs.Draft.{send_decision, send_retrieve}
use Rattle.crsm_spec.specs.Frames.{on_frame, ack, take_frame, is_odd_frame}
use Rattle.crsm_core.proofs.Fitting.{left, kept}
use Rattle.crsm_core.proofs.StepLemmas.{fitted_as}
use Rattle.crsm_core.proofs.FrameLemmas.{with_member, earlier_epoch, later_epoch, not_together, out_of_turn, odd_one, next_one, later}
use Rattle.crsm_core.proofs.frames.on_frame.Goals as goal

pub returns-then-epoch-known : goal.returns-then-epoch-known
returns-then-epoch-known c =
    IfOk-weaker c.send_decision.result _ _ (λ _ made x s n.
    let known = c.known-known.ensures x s in
    kept c.send_decision.new.self x (on_frame c.args.k c.args.epoch c.args.seq c.args.payload.now x) (send_decision c.args.k x) c.states_are_sound.ensures
    (earlier_epoch c.args.k c.args.epoch c.args.seq c.args.payload.now x (omega (arith, known))) (made x s)) c.send_decision.ensures

pub returns-then-known-epoch : goal.returns-then-known-epoch
returns-then-known-epoch c =
    IfOk-weaker c.send_retrieve.result _ _ (λ _ made x s n.
    let known = c.known-known.ensures x s in
    kept c.send_retrieve.new.self x (on_frame c.args.k c.args.epoch c.args.seq c.args.payload.now x) (send_retrieve c.args.k x) c.states_are_sound.ensures
    (later_epoch c.args.k c.args.epoch c.args.seq c.args.payload.now x (omega (arith, known))) (made x s)) c.send_retrieve.ensures

pub returns-then-not-takes_part_with : goal.returns-then-not-takes_part_with
returns-then-not-takes_part_with c = λ x s n.
    let known = c.known-known.ensures x s in
    let m : with_member c.args.k x.replica ≡ false = sym (c.takes_part_with.ensures x s) ∙ c.if-not-takes_part_with.true in
    left c.args.state.now x (on_frame c.args.k c.args.epoch c.args.seq c.args.payload.now x)
    (not_together c.args.k c.args.epoch c.args.seq c.args.payload.now x (omega (arith, known)) m) s

pub returns-then-seq-next_from : goal.returns-then-seq-next_from
returns-then-seq-next_from c =
    IfOk-weaker c.ack.result _ _ (λ _ made x s n.
    let known = c.known-known.ensures x s in
    let m : with_member c.args.k x.replica ≡ true = sym (c.takes_part_with.ensures x s) ∙ c.if-not-takes_part_with.false in
    let q : c.args.seq ≢ next_from x.replica c.args.k = λ h. c.if-seq-next_from.true (h ∙ sym (c.next_from.ensures x s)) in
    kept c.ack.new.self x (on_frame c.args.k c.args.epoch c.args.seq c.args.payload.now x) (ack c.args.k x) c.states_are_sound.ensures
    (out_of_turn c.args.k c.args.epoch c.args.seq c.args.payload.now x (omega (arith, known)) m q) (made x s)) c.ack.ensures

pub returns-then-is_odd : goal.returns-then-is_odd
returns-then-is_odd c = λ x s n.
    let known = c.known-known.ensures x s in
    let m : with_member c.args.k x.replica ≡ true = sym (c.takes_part_with.ensures x s) ∙ c.if-not-takes_part_with.false in
    let q : c.args.seq ≡ next_from x.replica c.args.k = c.if-seq-next_from.false ∙ c.next_from.ensures x s in
    let o : is_odd_frame x.replica c.args.k c.args.payload.now ≡ true = sym (c.is_odd.ensures x s n) ∙ c.if-is_odd.true in
    left c.args.state.now x (on_frame c.args.k c.args.epoch c.args.seq c.args.payload.now x)
    (odd_one c.args.k c.args.epoch c.args.seq c.args.payload.now x (omega (arith, known)) m q o) s

pub returns : goal.returns
returns c =
    IfOk-weaker c.take_frame.result _ _ (λ _ made x s n.
    let known = c.known-known.ensures x s in
    let m : with_member c.args.k x.replica ≡ true = sym (c.takes_part_with.ensures x s) ∙ c.if-not-takes_part_with.false in
    let q : c.args.seq ≡ next_from x.replica c.args.k = c.if-seq-next_from.false ∙ c.next_from.ensures x s in
    let o : is_odd_frame x.replica c.args.k c.args.payload.now ≡ false = sym (c.is_odd.ensures x s n) ∙ c.if-is_odd.false in
    fitted_as c.take_frame.new.state x (take_frame c.args.k c.args.payload.now x) (on_frame c.args.k c.args.epoch c.args.seq c.args.payload.now x)
    (next_one c.args.k c.args.epoch c.args.seq c.args.payload.now x (omega (arith, known)) m q o)
    (made x s n (later x.replica c.args.k c.args.payload.now o))) c.take_frame.ensures
