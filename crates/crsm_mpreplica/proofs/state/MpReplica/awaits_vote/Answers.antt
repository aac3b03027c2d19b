use Rattle.std.proofs.Common.{Bool, ◌∙◌, ap, sym, subst}
use Rattle.std.specs.Prelude.{◌&&◌, not}
use Rattle.crsm_base.specs.Order.{ballot_eq}
use Rattle.crsm_spec.specs.Lists.{has}
use Rattle.crsm_mpreplica.specs.Notes.{NoteStands}
use Rattle.crsm_mpreplica.proofs.VoteLemmas.{vote-closed, vote-is, vote-none}
use Rattle.crsm_mpreplica.proofs.state.MpReplica.awaits_vote.Goals as goal

pub returns-in_default : goal.returns-in_default
returns-in_default c x s = vote-none c.args.self.now.note c.args.ballot c.args.slot c.args.from x.replica x.replica.note c.in_default.not-Leading s.note

pub returns-in-None : goal.returns-in-None
returns-in-None c x s =
    let stands = subst (λ note. NoteStands note x.replica.me x.replica.log x.replica.note) c.in-Leading.is s.note in
    vote-closed c.in-Leading.leading c.args.ballot c.args.slot c.args.from x.replica x.replica.note stands (sym c.in-None.ensures.value)

pub returns-then-eq : goal.returns-then-eq
unfolding ballot_eq has
returns-then-eq c x s =
    let stands = subst (λ note. NoteStands note x.replica.me x.replica.log x.replica.note) c.in-Leading.is s.note in
    ap not (c.contains.ensures.value ∙ ap (λ ks. has ks c.args.from) c.deref.ensures.value)
    ∙ ap (λ (t : Bool). t && not (has c.in-Some.voters.now.items c.args.from)) (sym c.if-eq.true ∙ c.eq.ensures)
    ∙ vote-is c.in-Leading.leading c.in-Some.voters.now c.args.ballot c.args.slot c.args.from x.replica x.replica.note stands (sym c.in-Some.ensures.value)

pub returns-else-eq : goal.returns-else-eq
unfolding ballot_eq
returns-else-eq c x s =
    let stands = subst (λ note. NoteStands note x.replica.me x.replica.log x.replica.note) c.in-Leading.is s.note in
    c.if-eq.false
    ∙ ap (λ (t : Bool). t && not (has c.in-Some.voters.now.items c.args.from)) (sym c.if-eq.false ∙ c.eq.ensures)
    ∙ vote-is c.in-Leading.leading c.in-Some.voters.now c.args.ballot c.args.slot c.args.from x.replica x.replica.note stands (sym c.in-Some.ensures.value)
