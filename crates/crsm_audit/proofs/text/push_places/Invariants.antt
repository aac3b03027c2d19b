use Rattle.std.proofs.Common.{◌≡◌, ◌++◌, drop}
use Rattle.crsm_audit.specs.Lists.{WhereNamed}
use Rattle.crsm_audit.specs.Texts.{places_text}
use Rattle.crsm_audit.proofs.text.push_places.Given as goal

-- with the text of the entries to come it is the whole text
abbrev pub invariant-loop-index : goal.invariant-loop-index
invariant-loop-index l = WhereNamed l.one.list (λ places. l.out ++ places_text l.index (drop l.index places) ≡ l.initial.out ++ places_text 0 places)
