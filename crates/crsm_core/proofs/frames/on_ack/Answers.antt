use Rattle.std.proofs.Common.{◌≡◌, ◌∙◌, ◌<◌, ◌≤◌, sym, arith, length, true, false}
use Rattle.std.specs.Prelude.{◌≢◌}
use Rattle.std.proofs.lemmas.Result.{IfOk-weaker}
use Rattle.crsm_spec.specs.Log.{known}
use Rattle.crsm_spec.specs.Replica.{frames_to}
use Rattle.crsm_spec.specs.Frames.{on_ack}
use Rattle.crsm_core.proofs.Fitting.{left, kept}
use Rattle.crsm_core.proofs.FrameLemmas.{with_member, other_epoch, no_member, too_many, is_acked, acked_to}
use Rattle.crsm_core.proofs.frames.on_ack.Goals as goal

pub returns-then-epoch-known : goal.returns-then-epoch-known
returns-then-epoch-known c = λ x s.
    let e : c.args.epoch ≢ known x.replica.log = λ h. c.if-epoch-known.true (h ∙ sym (c.known.ensures x s)) in
    left c.args.state.now x (on_ack c.args.k c.args.epoch c.args.next x) (other_epoch c.args.k c.args.epoch c.args.next x e) s

pub returns-then-not-takes_part_with : goal.returns-then-not-takes_part_with
returns-then-not-takes_part_with c = λ x s.
    let e : c.args.epoch ≡ known x.replica.log = c.if-epoch-known.false ∙ c.known.ensures x s in
    let m : with_member c.args.k x.replica ≡ false = sym (c.takes_part_with.ensures x s) ∙ c.if-not-takes_part_with.true in
    left c.args.state.now x (on_ack c.args.k c.args.epoch c.args.next x) (no_member c.args.k c.args.epoch c.args.next x e m) s

pub returns-then-next-pushed_to : goal.returns-then-next-pushed_to
returns-then-next-pushed_to c = λ x s.
    let e : c.args.epoch ≡ known x.replica.log = c.if-epoch-known.false ∙ c.known.ensures x s in
    let m : with_member c.args.k x.replica ≡ true = sym (c.takes_part_with.ensures x s) ∙ c.if-not-takes_part_with.false in
    let pushed = c.pushed_to.ensures x s in
    let n : length (frames_to x.replica c.args.k) < c.args.next = omega (arith, pushed) in
    left c.args.state.now x (on_ack c.args.k c.args.epoch c.args.next x) (too_many c.args.k c.args.epoch c.args.next x e m n) s

pub returns : goal.returns
returns c =
    IfOk-weaker c.acked.result _ _ (λ _ made x s.
    let e : c.args.epoch ≡ known x.replica.log = c.if-epoch-known.false ∙ c.known.ensures x s in
    let m : with_member c.args.k x.replica ≡ true = sym (c.takes_part_with.ensures x s) ∙ c.if-not-takes_part_with.false in
    let pushed = c.pushed_to.ensures x s in
    let n : c.args.next ≤ length (frames_to x.replica c.args.k) = omega (arith, pushed) in
    kept c.acked.new.self x (on_ack c.args.k c.args.epoch c.args.next x) (acked_to c.args.k c.args.next x) c.states_are_sound.ensures
    (is_acked c.args.k c.args.epoch c.args.next x e m n) (made x s n)) c.acked.ensures
