use Rattle.std.proofs.Common.{◌≡◌, ℕ, List, sym, ◌∙◌, subst, inl, inr, arith}
use Rattle.std.specs.Prelude.{Some, slice_get}
use Rattle.std.proofs.lemmas.Bool.{cases_lt}
use Rattle.std.proofs.lemmas.Option.{same_Some}
use Rattle.crsm_audit.specs.Judging.{HasNever}
use Rattle.crsm_audit.specs.Lists.{places_of}
use Rattle.crsm_audit.specs.declared.place.ExecutedEntry.{ExecutedEntry}
use Rattle.crsm_audit.proofs.Searching.{inside}
use Rattle.crsm_audit.proofs.judging.stranger.Goals as goal

pub returns-then-is_strange : goal.returns-then-is_strange
returns-then-is_strange c = λ es fit is. record {
  strange = record {
    place = c.in_ok-place.place;
    named = c.in_ok-place.ensures es fit is;
    never = record { bytes = c.list_at.result.now; there = c.list_at.ensures.value; never = c.is_strange.ensures.yes c.loop-index.invariant.0 c.if-is_strange.true };
  };
  before = c.loop-index.invariant.1 es fit is;
}

pub loop-index-preserved : goal.loop-index-preserved
loop-index-preserved c =
    let accounts = c.args.accounts.now in
    let index = c.loop-index.index in
    let place = c.in_ok-place.place in (
      c.is_strange.ensures.stays c.loop-index.invariant.0,
      λ es fit is q less s. elim (cases_lt q index) [
        | inl before ↦ c.loop-index.invariant.1 es fit is q before s
        | inr ge ↦ (let here : q ≡ index = omega (arith, less, ge) in
            let same : s.place ≡ place = same_Some s.place place (sym (subst (λ (k : ℕ). slice_get (places_of es) k ≡ Some s.place) here s.named) ∙ c.in_ok-place.ensures es fit is) in
            let text : s.never.bytes ≡ c.list_at.result.now =
            same_Some s.never.bytes c.list_at.result.now (sym (subst (λ (k : ℕ). slice_get c.args.one.now.list k ≡ Some s.never.bytes) here s.never.there) ∙ c.list_at.ensures.value) in
            c.is_strange.ensures.no c.loop-index.invariant.0 c.if-is_strange.false
            (subst (λ (bytes : List ℕ). HasNever accounts place.stamp.origin bytes) text
            (subst (λ (p : ExecutedEntry). HasNever accounts p.stamp.origin s.never.bytes) same s.never.never)))
      ],
    )

pub returns : goal.returns
returns c = λ es fit is p s.
    let lt = inside c.args.one.now.list p s.never.bytes s.never.there in
    let le = c.loop-index-test.false in
    let size = c.list_len-index-end.ensures in
    c.loop-index.invariant.1 es fit is p (omega (arith, lt, le, size)) s
