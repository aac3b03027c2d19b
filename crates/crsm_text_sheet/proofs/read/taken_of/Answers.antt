use Rattle.std.proofs.Common.{◌≡◌, codes, sym, ◌∙◌}
use Rattle.std.proofs.lemmas.Slice.Eq.{bytes_eq-Decides}
use Rattle.crsm_text.proofs.Texts.{value_text_is_empty}
use Rattle.crsm_text_sheet.proofs.read.taken_of.Goals as goal

pub returns-then-eq-clause-only : goal.returns-then-eq-clause-only
returns-then-eq-clause-only c = λ bytes are few e.
    let is : c.args.word.now ≡ codes "empty" = (bytes_eq-Decides c.args.word.now c.as_slice.result.now).0 (sym c.eq.ensures ∙ c.if-eq.true) ∙ c.as_slice.ensures in
    c.new.ensures ∙ sym (value_text_is_empty bytes (sym is ∙ e))
