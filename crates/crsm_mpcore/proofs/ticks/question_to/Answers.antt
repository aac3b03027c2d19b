use Rattle.std.proofs.Common.{◌∙◌, sym, subst}
use Rattle.crsm_mpreplica.specs.declared.note.Note.{Note}
use Rattle.crsm_mpreplica.specs.Notes.{NoteStands}
use Rattle.crsm_mpcore.proofs.TickLemmas.{no-question-to-itself, no-question, answered, unanswered}
use Rattle.crsm_mpcore.proofs.ticks.question_to.Goals as goal

pub returns-then-to-me : goal.returns-then-to-me
returns-then-to-me c x s = no-question-to-itself x.replica.me x.replica.note c.args.to (c.if-to-me.true ∙ c.me.ensures.is x s)

pub returns-in_default : goal.returns-in_default
returns-in_default c x s = no-question c.note.result.now x.replica.me x.replica.log x.replica.note c.args.to (c.note.ensures x s) c.in_default.not-Asking

pub returns-then-contains_key : goal.returns-then-contains_key
returns-then-contains_key c x s =
    let stands = subst (λ (n : Note). NoteStands n x.replica.me x.replica.log x.replica.note) c.in-Asking.is (c.note.ensures x s) in
    answered c.in-Asking.asking x.replica.me x.replica.log x.replica.note c.args.to stands (sym c.contains_key.ensures ∙ c.if-contains_key.true)

pub returns : goal.returns
returns c x s =
    let stands = subst (λ (n : Note). NoteStands n x.replica.me x.replica.log x.replica.note) c.in-Asking.is (c.note.ensures x s) in
    unanswered c.in-Asking.asking x.replica.me x.replica.log x.replica.note c.args.to stands (λ e. c.if-to-me.false (e ∙ sym (c.me.ensures.is x s))) (sym c.contains_key.ensures ∙ c.if-contains_key.false)
