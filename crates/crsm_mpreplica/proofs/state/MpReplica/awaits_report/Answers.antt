use Rattle.std.proofs.Common.{Bool, ◌∙◌, ap, sym, subst}
use Rattle.std.specs.Prelude.{◌&&◌, not, is_some}
use Rattle.std.specs.Map.{lookup}
use Rattle.std.specs.BTreeMap.{is_at}
use Rattle.std.specs.Ordering.{nat_cmp}
use Rattle.crsm_base.specs.Order.{ballot_eq}
use Rattle.crsm_mpreplica.specs.Notes.{NoteStands}
use Rattle.crsm_mpreplica.proofs.ReportLemmas.{awaits-is, awaits-none}
use Rattle.crsm_mpreplica.proofs.state.MpReplica.awaits_report.Goals as goal

pub returns-in_default : goal.returns-in_default
returns-in_default c x s = awaits-none c.args.self.now.note c.args.ballot c.args.from x.replica.me x.replica.log x.replica.note c.in_default.not-Asking s.note

pub returns-then-eq : goal.returns-then-eq
unfolding ballot_eq
returns-then-eq c x s =
    let a = c.in-Asking.asking in
    let k = c.args.from in
    let stands = subst (λ note. NoteStands note x.replica.me x.replica.log x.replica.note) c.in-Asking.is s.note in
    ap not c.contains_key.ensures
    ∙ ap (λ (t : Bool). t && not (is_some (lookup (is_at (nat_cmp k)) a.reports.entries))) (sym c.if-eq.true ∙ c.eq.ensures)
    ∙ awaits-is a c.args.ballot k x.replica.me x.replica.log x.replica.note stands

pub returns-else-eq : goal.returns-else-eq
unfolding ballot_eq
returns-else-eq c x s =
    let a = c.in-Asking.asking in
    let k = c.args.from in
    let stands = subst (λ note. NoteStands note x.replica.me x.replica.log x.replica.note) c.in-Asking.is s.note in
    c.if-eq.false
    ∙ ap (λ (t : Bool). t && not (is_some (lookup (is_at (nat_cmp k)) a.reports.entries))) (sym c.if-eq.false ∙ c.eq.ensures)
    ∙ awaits-is a c.args.ballot k x.replica.me x.replica.log x.replica.note stands
