use Rattle.std.proofs.Common.{◌∙◌, ◌++◌, ◌∷◌, [], ap, sym, subst}
use Rattle.crsm_mpspec.specs.Draft.{count_vote, noting}
use Rattle.crsm_mpreplica.specs.Notes.{NoteStands}
use Rattle.crsm_mpreplica.proofs.VoteLemmas.{opened, opened-idle, opened-known}
use Rattle.crsm_mpreplica.proofs.state.MpReplica.open_slot.Goals as goal

pub returns-then-is_chosen : goal.returns-then-is_chosen
unfolding count_vote noting
returns-then-is_chosen c x s = record {
  me = s.me;
  n = s.n;
  ledger = s.ledger;
  note = opened-known c.args.self.now.note c.args.slot x.replica.me x.replica.log x.replica.note (sym (c.is_chosen.ensures x.replica.log s.ledger) ∙ c.if-is_chosen.true) s.note;
  waiting = s.waiting;
  made = s.made;
}

pub returns-in_ok-push_slot : goal.returns-in_ok-push_slot
unfolding count_vote noting
returns-in_ok-push_slot c x s =
    let log = x.replica.log in
    let stands = subst (λ note. NoteStands note x.replica.me log x.replica.note) c.in-Leading.is s.note in
    let own = c.in_ok-push.ensures.items ∙ ap (λ ks. ks ++ c.args.self.now.me ∷ []) c.in_ok-voters.ensures.items ∙ ap (λ k. k ∷ []) s.me in
    record {
      me = s.me;
      n = s.n;
      ledger = s.ledger;
      note = opened c.in-Leading.leading c.push_slot.new.map c.push.new.self c.args.slot x.replica.me log x.replica.note
          (sym (c.is_chosen.ensures log s.ledger) ∙ c.if-is_chosen.false) c.in_ok-push_slot.ensures.entries c.in_ok-push_slot.ensures.behind own stands;
      waiting = s.waiting;
      made = s.made;
    }

pub returns-in_default : goal.returns-in_default
unfolding count_vote noting
returns-in_default c x s = record {
  me = s.me;
  n = s.n;
  ledger = s.ledger;
  note = opened-idle c.args.self.now.note c.args.slot x.replica.me x.replica.me x.replica.log x.replica.note c.in_default.not-Leading s.note;
  waiting = s.waiting;
  made = s.made;
}
