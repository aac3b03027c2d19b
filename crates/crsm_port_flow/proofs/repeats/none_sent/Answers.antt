use Rattle.std.proofs.Common.{◌≡◌, List, [], ◌∷◌, ap, inl, inr}
use Rattle.std.proofs.lemmas.List.Elements.{All-cons, All-nil}
use Rattle.std.specs.List.{AllByRecursion}
use Rattle.std.specs.Prelude.{All}
use Rattle.crsm_port_flow.specs.declared.repeats.SentFrame.{SentFrame}
use Rattle.crsm_port_flow.proofs.repeats.none_sent.Goals as goal

all_zero : (P : SentFrame → Type 0) → ((y : SentFrame) → P y → y.at ≡ 0) → (ys : List SentFrame) → AllByRecursion P ys → All (λ (f : SentFrame). f.at ≡ 0) ys
all_zero P zeroed [] all = All-nil (λ (f : SentFrame). f.at ≡ 0)
all_zero P zeroed (y ∷ ys) (one, rest) = All-cons (λ (f : SentFrame). f.at ≡ 0) y ys (zeroed y one) (all_zero P zeroed ys rest)

pub returns : goal.returns
returns c = all_zero _ (λ y one. elim one [ inl same ↦ ap (λ (f : SentFrame). f.at) same | inr same ↦ ap (λ (f : SentFrame). f.at) same ]) c.in_ok-from_elem.field-0.items c.in_ok-from_elem.ensures.items
