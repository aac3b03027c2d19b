use Rattle.std.proofs.Common.{◌≡◌, codes, sym, ◌∙◌}
use Rattle.std.proofs.lemmas.Slice.Eq.{bytes_eq-Decides}
use Rattle.crsm_text.proofs.Texts.{option_text_is_none}
use Rattle.crsm_text.proofs.value.option_of.Goals as goal

pub returns-then-eq-clause-only : goal.returns-then-eq-clause-only
returns-then-eq-clause-only c = λ val fits bytes e.
    let is : c.args.word.now ≡ codes "none" = (bytes_eq-Decides c.args.word.now c.as_slice.result.now).0 (sym c.eq.ensures ∙ c.if-eq.true) ∙ c.as_slice.ensures in
    sym (option_text_is_none val (sym is ∙ e))
