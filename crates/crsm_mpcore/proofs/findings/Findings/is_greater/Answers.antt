use Rattle.std.proofs.Common.{◌≡◌, ◌∙◌, sym, ap, subst, refl}
use Rattle.std.specs.Prelude.{Some, if◌then◌else◌}
use Rattle.std.specs.BTreeMap.{get}
use Rattle.std.specs.Option.{option_copied}
use Rattle.std.specs.Ordering.{nat_cmp}
use Rattle.crsm_spec.specs.Paxos.{Held}
use Rattle.crsm_mpspec.specs.Types.{Ballot, Value}
use Rattle.crsm_mpspec.specs.Electing.{greater_held}
use Rattle.crsm_mpcore.proofs.FoundLemmas.{greater-by}
use Rattle.crsm_mpcore.proofs.findings.Findings.is_greater.Goals as goal

pub returns-in-Some : goal.returns-in-Some
returns-in-Some c =
    let a = c.args.accepted.now in
    let t = c.ballot_precedes.result in
    let p : Ballot × Value = c.in-Some.field-0.now in
    let found : Some p ≡ get nat_cmp c.args.self.now.best a.slot = ap option_copied (sym c.in-Some.is) ∙ c.get.ensures.value in
    subst (λ (h : Held Value). greater_held h (a.ballot, a.value) ≡ (if t then Some (a.ballot, a.value) else h)) found (greater-by p (a.ballot, a.value) t c.ballot_precedes.ensures)

pub returns-in-None : goal.returns-in-None
unfolding greater_held
returns-in-None c =
    let a = c.args.accepted.now in
    subst (λ (h : Held Value). greater_held h (a.ballot, a.value) ≡ Some (a.ballot, a.value)) (ap option_copied (sym c.in-None.is) ∙ c.get.ensures.value) refl
