use Rattle.std.proofs.Common.{◌∙◌, ℕ, Ok, Err, Some, None, subst}
use Rattle.crsm_client.specs.Turns.{BringsReply, due}
use Rattle.crsm_client.proofs.Asked.{answered, begins, fails, goes_unanswered, never_began_so, not_sent, passed_on, sent}
use Rattle.crsm_client.proofs.asking.ask_in.Goals as goal

pub returns-in_err-request : goal.returns-in_err-request
returns-in_err-request g c = never_began_so c.args.cluster c.args.to c.args.command.now c.args.resend c.args.turns _ c.from_residual.result c.from_residual.ensures.1

pub returns-in_err-inbox : goal.returns-in_err-inbox
returns-in_err-inbox g c =
    never_began_so c.args.cluster c.args.to c.args.command.now c.args.resend c.args.turns _ c.from_residual-in_err-inbox.result c.from_residual-in_err-inbox.ensures.1

pub loop-turn-init : goal.loop-turn-init
loop-turn-init g c = record { so_far = begins c.args.cluster c.args.to c.args.command.now c.args.resend _; cluster = c.in_ok-inbox.ensures }

pub returns-in_err-send_due : goal.returns-in_err-send_due
returns-in_err-send_due g c =
    passed_on c.args.cluster c.args.to c.args.command.now c.args.resend c.args.turns _ _ c.in_err-send_due.field-0.0 c.from_residual-in_err-send_due.result c.from_residual-in_err-send_due.ensures.1
    (not_sent c.args.cluster c.args.to c.args.command.now c.args.resend (Unit {0}) c.loop-turn.turn _ _ _ c.loop-turn.invariant.so_far (due c.args.resend c.loop-turn.turn) c.args.turns c.in_err-send_due.field-0.0 c.loop-turn-test.true
    (c.in_err-send_due.ensures c.args.cluster _ (c.as_slice.ensures ∙ c.in_ok-request.ensures)))

pub returns-in_err-outcome : goal.returns-in_err-outcome
returns-in_err-outcome g c =
    let went = sent c.args.cluster c.args.to c.args.command.now c.args.resend (Unit {0}) c.loop-turn.turn _ _ _ c.loop-turn.invariant.so_far tt c.requires.resend
    (c.in_ok-send_due.ensures c.args.cluster _ (c.as_slice.ensures ∙ c.in_ok-request.ensures)) in
    passed_on c.args.cluster c.args.to c.args.command.now c.args.resend c.args.turns _ _ c.in_err-outcome.field-0.0 c.from_residual-in_err-outcome.result c.from_residual-in_err-outcome.ensures.1
    (fails c.args.cluster c.args.to c.args.command.now c.args.resend c.loop-turn.turn _ _ _ went c.args.turns c.in_err-outcome.field-0.0 c.loop-turn-test.true
    (subst (λ (k : ℕ). BringsReply k c.args.to c.args.command.now (g.P.Port.meaning c.send_due.new.port) (g.P.Port.meaning c.receive_reply.new.port) (Err c.in_err-outcome.field-0.0))
    c.loop-turn.invariant.cluster c.in_err-outcome.ensures.brings))

pub returns-in-Some : goal.returns-in-Some
returns-in-Some g c =
    let went = sent c.args.cluster c.args.to c.args.command.now c.args.resend (Unit {0}) c.loop-turn.turn _ _ _ c.loop-turn.invariant.so_far tt c.requires.resend
    (c.in_ok-send_due.ensures c.args.cluster _ (c.as_slice.ensures ∙ c.in_ok-request.ensures)) in
    answered c.args.cluster c.args.to c.args.command.now c.args.resend c.loop-turn.turn _ _ _ went c.args.turns c.in-Some.outcome c.loop-turn-test.true
    (subst (λ (k : ℕ). BringsReply k c.args.to c.args.command.now (g.P.Port.meaning c.send_due.new.port) (g.P.Port.meaning c.receive_reply.new.port) (Ok (Some c.in-Some.outcome)))
    c.loop-turn.invariant.cluster (rw c.in-Some.is at c.in_ok-outcome.ensures.brings))

pub loop-turn-preserved : goal.loop-turn-preserved
loop-turn-preserved g c =
    let went = sent c.args.cluster c.args.to c.args.command.now c.args.resend (Unit {0}) c.loop-turn.turn _ _ _ c.loop-turn.invariant.so_far tt c.requires.resend
    (c.in_ok-send_due.ensures c.args.cluster _ (c.as_slice.ensures ∙ c.in_ok-request.ensures)) in
    record {
      so_far = goes_unanswered c.args.cluster c.args.to c.args.command.now c.args.resend c.loop-turn.turn _ _ _ went
          (subst (λ (k : ℕ). BringsReply k c.args.to c.args.command.now (g.P.Port.meaning c.send_due.new.port) (g.P.Port.meaning c.receive_reply.new.port) (Ok None))
          c.loop-turn.invariant.cluster (rw c.in_default.is at c.in_ok-outcome.ensures.brings));
      cluster = c.in_ok-outcome.ensures.same ∙ c.loop-turn.invariant.cluster;
    }
