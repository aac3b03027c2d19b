use Rattle.std.proofs.Common.{◌≡◌, ◌∙◌, ◌+◌, ◌/◌, ap, sym, subst, rules, vec_len}
use Rattle.std.specs.Prelude.{nat_le, length}
use Rattle.crsm_mpspec.specs.Deciding.{is_voted}
use Rattle.crsm_mpspec.specs.Replica.{votes_of}
use Rattle.crsm_mpreplica.specs.Notes.{NoteStands}
use Rattle.crsm_mpreplica.proofs.VoteLemmas.{none-voted, unvoted-is, voted-is, votes-none}
use Rattle.crsm_mpreplica.proofs.state.MpReplica.is_voted.Goals as goal

pub returns-in_default : goal.returns-in_default
unfolding is_voted
returns-in_default c x s =
    none-voted c.args.slot x.replica.n x.replica.log (votes_of x.replica.note) (votes-none c.args.self.now.note x.replica.me x.replica.log x.replica.note c.in_default.not-Leading s.note)

pub returns-in-None : goal.returns-in-None
unfolding is_voted
returns-in-None c x s =
    let stands = subst (λ note. NoteStands note x.replica.me x.replica.log x.replica.note) c.in-Leading.is s.note in
    unvoted-is c.in-Leading.leading c.args.slot x.replica.n x.replica.me x.replica.log x.replica.note stands (sym c.in-None.ensures.value)

pub returns-in-Some : goal.returns-in-Some
unfolding is_voted
returns-in-Some c x s =
    let stands = subst (λ note. NoteStands note x.replica.me x.replica.log x.replica.note) c.in-Leading.is s.note in
    let len : length c.in-Some.voters.now.items ≡ vec_len c.in-Some.voters.now = search rules in
    ap (λ m. nat_le m c.len.result) (c.majority.ensures ∙ ap (λ n. n / 2 + 1) s.n)
    ∙ ap (λ k. nat_le (x.replica.n / 2 + 1) k) (c.len.ensures ∙ sym len)
    ∙ voted-is c.in-Leading.leading c.in-Some.voters.now c.args.slot x.replica.n x.replica.me x.replica.log x.replica.note stands (sym c.in-Some.ensures.value)
