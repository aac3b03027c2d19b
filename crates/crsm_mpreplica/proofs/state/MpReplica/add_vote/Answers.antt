use Rattle.std.proofs.Common.{sym, subst}
use Rattle.crsm_mpspec.specs.Draft.{count_vote, noting}
use Rattle.crsm_mpspec.specs.Replica.{votes_of}
use Rattle.crsm_mpreplica.specs.Notes.{NoteStands}
use Rattle.crsm_mpreplica.proofs.VoteLemmas.{added, not-closed, uncounted, votes-none}
use Rattle.crsm_mpreplica.proofs.state.MpReplica.add_vote.Goals as goal

pub returns-in_ok-push : goal.returns-in_ok-push
unfolding count_vote noting
returns-in_ok-push c x s counts =
    let stands = subst (λ note. NoteStands note x.replica.me x.replica.log x.replica.note) c.in-Leading.is s.note in
    record {
      me = s.me;
      n = s.n;
      ledger = s.ledger;
      note = added c.in-Leading.leading (c.get_mut.follows.lender c.push.new.self) c.in-Some.voters.now c.push.new.self c.args.slot c.args.from x.replica x.replica.note stands counts
          c.in-Some.ensures.ordered (sym c.in-Some.ensures.value) c.in_ok-push.ensures.items (c.get_mut.follows.holds c.push.new.self).0;
      waiting = s.waiting;
      made = s.made;
    }

pub returns-in_default : goal.returns-in_default
returns-in_default c x s counts =
    absurd (uncounted c.args.slot c.args.from x.replica (votes_of x.replica.note) (votes-none c.args.self.now.note x.replica.me x.replica.log x.replica.note c.in_default.not-Leading s.note) counts)

pub returns-in_default-get_mut : goal.returns-in_default-get_mut
returns-in_default-get_mut c x s counts =
    let stands = subst (λ note. NoteStands note x.replica.me x.replica.log x.replica.note) c.in-Leading.is s.note in
    absurd (not-closed c.in-Leading.leading c.args.slot c.args.from x.replica x.replica.note stands counts (sym c.in_default-get_mut.ensures.value))
