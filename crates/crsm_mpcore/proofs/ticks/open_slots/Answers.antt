use Rattle.std.proofs.Common.{◌∙◌, sym, subst}
use Rattle.crsm_mpreplica.specs.declared.note.Note.{Note}
use Rattle.crsm_mpreplica.specs.Notes.{NoteStands}
use Rattle.crsm_mpcore.proofs.TickLemmas.{leading-slots, idle-slots}
use Rattle.crsm_mpcore.proofs.ticks.open_slots.Goals as goal

pub returns-in_ok-first_slots-in-Leading : goal.returns-in_ok-first_slots-in-Leading
returns-in_ok-first_slots-in-Leading c x s =
    let l = c.in-Leading.leading in
    let stands = subst (λ (n : Note). NoteStands n x.replica.me x.replica.log x.replica.note) c.in-Leading.is (c.note.ensures x s) in
    c.in_ok-first_slots-in-Leading.ensures ∙ leading-slots l x.replica x.replica.note stands

pub returns-in_default : goal.returns-in_default
returns-in_default c x s =
    c.new.ensures.items ∙ sym (idle-slots c.note.result.now x.replica x.replica.note (c.note.ensures x s) c.in_default.not-Leading)
