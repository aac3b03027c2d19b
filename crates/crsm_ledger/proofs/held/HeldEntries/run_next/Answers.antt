use Rattle.std.proofs.Common.{◌≡◌, ◌∙◌, [], ◌∷◌, ◌++◌, List, ap, arith, drop, length, subst, sym}
use Rattle.std.specs.Prelude.{Option}
use Rattle.std.proofs.Math.Logic.{∥∥₁_map}
use Rattle.std.proofs.lemmas.List.{length-drop}
use Rattle.crsm_spec.specs.Types.{Entry, Stamp}
use Rattle.crsm_spec.specs.Lists.{first_of}
use Rattle.crsm_spec.specs.Log.{above}
use Rattle.crsm_ledger.specs.declared.kept.LoggedItem.{LoggedItem}
use Rattle.crsm_ledger.specs.Held.{HasEntries}
use Rattle.crsm_ledger.specs.Sorted.{AreKeptFor, items_above}
use Rattle.crsm_ledger.proofs.HeldLemmas.{held-grows, held-next, placed-at}
use Rattle.crsm_ledger.proofs.LoggedLemmas.{first_of-drop, kept-at, marked-next}
use Rattle.crsm_ledger.proofs.held.HeldEntries.run_next.Goals as goal

pub at-requires : goal.at-requires
at-requires c =
    let old = c.args.self.now in
    let index = c.first_above-index.result in
    let rest : drop index old.logged ≡ items_above old.history.last_stamp old.logged =
    c.first_above-index.ensures.items ∙ ap (λ (o : Option Stamp). items_above o old.logged) c.last_stamp.ensures.is in
    omega (arith, c.requires, ap length rest, length-drop index old.logged)

pub run_kept-requires-clause-placed : goal.run_kept-requires-clause-placed
run_kept-requires-clause-placed c =
    let old = c.args.self.now in
    placed-at old.history.spelt old.history.epoch old.logged c.first_above-index.result c.at.result.now old.held c.at.ensures.value

pub invariant_of-self : goal.invariant_of-self
invariant_of-self c = let old = c.args.self.now in record { held = ∥∥₁_map old.held (held-grows old.history c.run_kept.new.self old.logged c.run_kept.ensures.grows) }

pub mark_executed-requires : goal.mark_executed-requires
mark_executed-requires c =
    let old = c.args.self.now in
    let index = c.first_above-index.result in
    let rest : drop index old.logged ≡ items_above old.history.last_stamp old.logged =
    c.first_above-index.ensures.items ∙ ap (λ (o : Option Stamp). items_above o old.logged) c.last_stamp.ensures.is in
    omega (arith, c.requires, ap length rest, length-drop index old.logged)

pub invariant_of-self-2 : goal.invariant_of-self-2
invariant_of-self-2 c =
    let old = c.args.self.now in
    let new = c.run_kept.new.self in
    let item = c.at.result.now in
    let marked = ∥∥₁_map old.held (held-next old.history new old.logged c.first_above-index.result c.len-place.result item c.run_kept.ensures.grows.epoch c.at.ensures.value c.len-place.ensures.count c.in_ok-line.ensures.spelt) in
    record { held = subst (λ (is : List LoggedItem). ∥ HasEntries new.spelt new.epoch is ∥₁) (sym (c.mark_executed.ensures item c.at.ensures.value)) marked }

pub returns : goal.returns
returns c = λ x done es h.
    let old = c.args.self.now in
    let index = c.first_above-index.result in
    let item = c.at.result.now in
    let r = kept-at done old.logged es index item h.kept c.at.ensures.value in
    let step = c.in_ok-line.ensures.executed x done r.0 h.executed r.2.kept in
    record {
      entry = r.0;
      next = ap (λ (last : Option Stamp). first_of (above last es)) (sym (c.last_stamp.ensures.value x done h.executed))
          ∙ ap (λ (rest : List Entry). first_of rest) (sym (c.first_above-index.ensures.value done es h.kept))
          ∙ first_of-drop es index ∙ r.1;
      line_is = step.1;
      holds = record {
        executed = step.0;
        kept = subst (λ (is : List LoggedItem). AreKeptFor (done ++ r.0 ∷ []) is es) (sym (c.mark_executed.ensures item c.at.ensures.value))
            (marked-next done es old.logged index c.len-place.result item r.0 h.kept c.at.ensures.value r.1 (c.len-place.ensures.value x done h.executed));
      };
    }
