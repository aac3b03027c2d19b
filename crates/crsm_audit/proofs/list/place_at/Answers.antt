use Rattle.std.proofs.Common.{◌≡◌, ap, sym, ◌∙◌, subst}
use Rattle.std.specs.Prelude.{Some, slice_get}
use Rattle.crsm_base.specs.Spelling.{FitsEntry, entry_bytes}
use Rattle.crsm_audit.specs.Lists.{place_of}
use Rattle.crsm_audit.proofs.Searching.{all_got, mapped, unmapped}
use Rattle.crsm_audit.proofs.list.place_at.Goals as goal

pub returns : goal.returns
returns c = λ es fit is.
    let bytes = c.list_at.result.now in
    let e = unmapped entry_bytes es c.args.index bytes (subst (λ l. slice_get l c.args.index ≡ Some bytes) is c.list_at.ensures.value) in
    mapped place_of es c.args.index e.0 e.1 ∙ ap (λ z. Some z) (sym (c.in_ok-place.ensures e.0 (all_got FitsEntry es c.args.index e.0 fit e.1) (sym e.2)))
