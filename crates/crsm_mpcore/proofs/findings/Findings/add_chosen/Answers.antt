use Rattle.std.proofs.Common.{◌≡◌, ◌∙◌, sym, subst, arith}
use Rattle.std.specs.Prelude.{◌++◌, ◌∷◌, []}
use Rattle.std.specs.BTreeMap.{insert_entry}
use Rattle.std.specs.Ordering.{nat_cmp}
use Rattle.crsm_mpspec.specs.Types.{Value}
use Rattle.crsm_mpcore.specs.Findings.{by_slots}
use Rattle.crsm_mpcore.proofs.FoundLemmas.{next-chosen, chosen-known, chosen-new}
use Rattle.crsm_mpcore.proofs.findings.Findings.add_chosen.Goals as goal

pub returns-then-contains_key : goal.returns-then-contains_key
returns-then-contains_key c found s fits =
    let a = c.args.chosen.now in
    let next = next-chosen found a in
    record {
      next = omega (arith, next, s.next, fits.0, c.saturating_add.ensures, c.max-self.ensures);
      chosen = chosen-known found.chosen a c.args.self.now.chosen.entries s.chosen (sym c.contains_key.ensures ∙ c.if-contains_key.true);
      best = s.best;
    }

pub returns : goal.returns
returns c found s fits =
    let a = c.args.chosen.now in
    let es = c.args.self.now.chosen.entries in
    let next = next-chosen found a in
    let new = chosen-new found.chosen a es s.chosen (sym c.contains_key.ensures ∙ c.if-contains_key.false) in
    record {
      next = omega (arith, next, s.next, fits.0, c.saturating_add.ensures, c.max-self.ensures);
      chosen = c.in_ok-insert.ensures.entries ∙ subst (λ (v : Value). insert_entry nat_cmp es a.slot v ≡ by_slots (found.chosen ++ a ∷ [])) (sym c.in_ok-value.ensures) new;
      best = s.best;
    }
