use Rattle.std.proofs.Common.{◌≡◌, ◌∙◌, ap, subst, arith}
use Rattle.std.specs.Prelude.{Some, cond, if◌then◌else◌, Bool}
use Rattle.std.specs.BTreeMap.{get, is_at}
use Rattle.std.specs.Ordering.{nat_cmp}
use Rattle.crsm_mpspec.specs.Types.{Value}
use Rattle.crsm_mpspec.specs.Electing.{greater_held}
use Rattle.crsm_mpcore.proofs.FoundLemmas.{next-accepted, best-greater, best-stays}
use Rattle.crsm_mpcore.proofs.findings.Findings.add_accepted.Goals as goal

pub returns-then-not-is_greater : goal.returns-then-not-is_greater
returns-then-not-is_greater c found s fits =
    let a = c.args.accepted.now in
    let best = c.args.self.now.best in
    let next = next-accepted found a in
    record {
      next = omega (arith, next, s.next, fits.0, c.saturating_add.ensures, c.max-self.ensures);
      chosen = s.chosen;
      best = λ slot. best-stays slot found.accepted a (get nat_cmp best slot) (get nat_cmp best a.slot) (s.best a.slot)
          (subst (λ (t : Bool). greater_held (get nat_cmp best a.slot) (a.ballot, a.value) ≡ (if t then Some (a.ballot, a.value) else get nat_cmp best a.slot)) c.if-not-is_greater.true c.is_greater.ensures) (s.best slot);
    }

pub returns : goal.returns
returns c found s fits =
    let a = c.args.accepted.now in
    let best = c.args.self.now.best in
    let next = next-accepted found a in
    record {
      next = omega (arith, next, s.next, fits.0, c.saturating_add.ensures, c.max-self.ensures);
      chosen = s.chosen;
      best = λ slot. c.in_ok-insert.ensures.updates.0 slot
          ∙ ap (λ (v : Value). cond (is_at (nat_cmp a.slot) slot) (Some (a.ballot, v)) (get nat_cmp best slot)) c.in_ok-value.ensures
          ∙ best-greater slot found.accepted a (get nat_cmp best slot) (get nat_cmp best a.slot) (s.best a.slot)
          (subst (λ (t : Bool). greater_held (get nat_cmp best a.slot) (a.ballot, a.value) ≡ (if t then Some (a.ballot, a.value) else get nat_cmp best a.slot)) c.if-not-is_greater.false c.is_greater.ensures) (s.best slot);
    }
