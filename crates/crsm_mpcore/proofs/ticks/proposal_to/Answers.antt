use Rattle.std.proofs.Common.{◌≡◌, ◌∙◌, sym, ap, subst}
use Rattle.std.specs.Prelude.{Some, None}
use Rattle.std.specs.Option.{option_copied}
use Rattle.crsm_mpspec.specs.declared.message.MpMessage.{MpMessage}
use Rattle.crsm_mpspec.specs.Types.{Value}
use Rattle.crsm_mpspec.specs.Log.{accepted_at}
use Rattle.crsm_mpreplica.specs.declared.note.Note.{Note}
use Rattle.crsm_mpreplica.specs.Notes.{NoteStands}
use Rattle.crsm_mpcore.proofs.TickLemmas.{no-proposal-to-itself, no-proposal, voted, not-accepted, proposed-to}
use Rattle.crsm_mpcore.proofs.ticks.proposal_to.Goals as goal

pub returns-then-to-me : goal.returns-then-to-me
returns-then-to-me c x s is_open = no-proposal-to-itself c.args.slot x.replica x.replica.note c.args.to (c.if-to-me.true ∙ c.me.ensures.is x s)

pub returns-in_default : goal.returns-in_default
returns-in_default c x s is_open = no-proposal c.note.result.now c.args.slot x.replica x.replica.note c.args.to (c.note.ensures x s) c.in_default.not-Leading

pub returns-then-has_voted : goal.returns-then-has_voted
returns-then-has_voted c x s is_open =
    let stands = subst (λ (n : Note). NoteStands n x.replica.me x.replica.log x.replica.note) c.in-Leading.is (c.note.ensures x s) in
    voted c.in-Leading.leading c.args.slot x.replica x.replica.note c.args.to stands is_open (sym c.has_voted.ensures ∙ c.if-has_voted.true)

pub returns : goal.returns
returns c x s is_open =
    let stands = subst (λ (n : Note). NoteStands n x.replica.me x.replica.log x.replica.note) c.in-Leading.is (c.note.ensures x s) in
    let at : accepted_at c.args.slot x.replica.log ≡ Some c.in-Some.field-0.now = sym (c.accepted.ensures x.replica.log (c.ledger.ensures x s)) ∙ ap option_copied c.in-Some.is in
    ap (λ (v : Value). Some (MpMessage.Acc c.in-Leading.leading.ballot c.args.slot v)) c.in_ok-share.ensures
    ∙ proposed-to c.in-Leading.leading c.args.slot x.replica x.replica.note c.args.to c.in-Some.field-0.now stands is_open (λ e. c.if-to-me.false (e ∙ sym (c.me.ensures.is x s)))
    (sym c.has_voted.ensures ∙ c.if-has_voted.false) at

pub returns-in_default-accepted : goal.returns-in_default-accepted
returns-in_default-accepted c x s is_open =
    let stands = subst (λ (n : Note). NoteStands n x.replica.me x.replica.log x.replica.note) c.in-Leading.is (c.note.ensures x s) in
    let at : accepted_at c.args.slot x.replica.log ≡ None = sym (c.accepted.ensures x.replica.log (c.ledger.ensures x s)) ∙ ap option_copied c.in_default-accepted.is in
    not-accepted c.in-Leading.leading c.args.slot x.replica x.replica.note c.args.to stands at
