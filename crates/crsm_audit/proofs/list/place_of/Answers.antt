use Rattle.std.proofs.Common.{◌≡◌, ℕ, [], sym, ◌∙◌, ap}
use Rattle.std.specs.Prelude.{Option, Some}
use Rattle.std.proofs.Math.Logic.{∥∥₁_elim}
use Rattle.std.proofs.Props.{props}
use Rattle.std.proofs.lemmas.List.{append-nil}
use Rattle.std.proofs.lemmas.Option.{none-some, same_Some}
use Rattle.crsm_spec.specs.Types.{Entry}
use Rattle.crsm_audit.specs.Lists.{place_of as name_of}
use Rattle.crsm_audit.proofs.list.place_of.Goals as goal

-- what was read is the entry
one_entry : (o : Option (Entry × ℕ)) (a b : Entry) (m n : ℕ) → o ≡ Some (a, m) → o ≡ Some (b, n) → a ≡ b
one_entry o a b m n p q = ap (λ (z : Entry × ℕ). z.0) (same_Some (a, m) (b, n) (sym p ∙ q))

-- the bytes are those of an entry, so one was read
pub unreachable-requires : goal.unreachable-requires
unreachable-requires c =
    ∥∥₁_elim c.requires (hlevel props) (λ s. none-some _ (sym c.in_default.is ∙ c.in_ok-entry.ensures.again s.entry [] s.fits (s.is ∙ sym (append-nil _))))

pub returns : goal.returns
returns c = λ e fits is.
    c.name_of-place.ensures ∙ ap name_of (one_entry c.in_ok-entry.field-0 c.in-Some.entry e c.in-Some.field-0-1 _ c.in-Some.is (c.in_ok-entry.ensures.again e [] fits (is ∙ sym (append-nil _))))
