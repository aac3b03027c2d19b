use Rattle.std.proofs.Common.{◌≡◌, ℕ, ap, sym, subst}
use Rattle.std.specs.Prelude.{Some, slice_get}
use Rattle.std.proofs.lemmas.Option.{get_or_from_slice_get}
use Rattle.crsm_audit.specs.Judging.{IsNamed}
use Rattle.crsm_audit.specs.Lists.{places_of}
use Rattle.crsm_audit.specs.declared.place.Dropped.{Dropped}
use Rattle.crsm_audit.proofs.Searching.{all_below, below_more, some_at}
use Rattle.crsm_audit.proofs.judging.first_named.Goals as goal

pub returns-then-branch : goal.returns-then-branch
returns-then-branch c = λ es fit is ascend. record {
  k = c.loop-name.name-index;
  name = (some_at c.as_slice-name-items.result.now c.loop-name.name-index c.loop-name-test.true).0;
  there = (let k = c.loop-name.name-index in
      let slice = c.as_slice-name-items.result.now in
      let x = some_at slice k c.loop-name-test.true in
      subst (λ l. slice_get l k ≡ Some x.0) c.as_slice-name-items.ensures.value x.1);
  line_is = (let k = c.loop-name.name-index in
      let slice = c.as_slice-name-items.result.now in
      let x = some_at slice k c.loop-name-test.true in
      ap (λ (d : Dropped). d.line) (get_or_from_slice_get slice k x.0 _ x.1));
  named = (let k = c.loop-name.name-index in
      let slice = c.as_slice-name-items.result.now in
      let x = some_at slice k c.loop-name-test.true in
      subst (IsNamed (places_of es)) (get_or_from_slice_get slice k x.0 _ x.1) (c.in_ok-is_named.ensures.yes es fit is c.if-branch.true));
  before = c.loop-name.invariant es fit is ascend;
}

pub loop-name-preserved : goal.loop-name-preserved
loop-name-preserved c = λ es fit is ascend q d less h.
    let k = c.loop-name.name-index in
    let slice = c.as_slice-name-items.result.now in
    let value = c.as_slice-name-items.ensures.value in
    let x = some_at slice k c.loop-name-test.true in
    below_more slice (λ (q : ℕ) (d : Dropped). IsNamed (places_of es) d → ⊥) k x.0 c.loop-name-test.true (sym (get_or_from_slice_get slice k x.0 x.0 x.1))
    (subst (λ (d : Dropped). IsNamed (places_of es) d → ⊥) (get_or_from_slice_get slice k x.0 _ x.1) (c.in_ok-is_named.ensures.no es fit is ascend c.if-branch.false))
    (λ p e before g. c.loop-name.invariant es fit is ascend p e before (subst (λ l. slice_get l p ≡ Some e) value g)) q d less (subst (λ l. slice_get l q ≡ Some d) (sym value) h)

pub returns : goal.returns
returns c = λ es fit is ascend q d h.
    let slice = c.as_slice-name-items.result.now in
    let value = c.as_slice-name-items.ensures.value in
    all_below slice (λ (q : ℕ) (d : Dropped). IsNamed (places_of es) d → ⊥) c.loop-name.name-index c.loop-name-test.false
    (λ p e before g. c.loop-name.invariant es fit is ascend p e before (subst (λ l. slice_get l p ≡ Some e) value g)) q d (subst (λ l. slice_get l q ≡ Some d) (sym value) h)
