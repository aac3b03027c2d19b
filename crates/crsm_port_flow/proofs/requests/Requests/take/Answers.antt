use Rattle.std.proofs.Common.{◌∙◌, List, ◌∷◌, ap, inl, inr, refl, sym}
use Rattle.crsm_port_flow.specs.declared.requests.Waiting.{Waiting}
use Rattle.crsm_port_flow.proofs.requests.Requests.take.Goals as goal

pub returns-clause-first : goal.returns-clause-first
returns-clause-first c =
    let r = c.in_ok-command.field-0 in
    (r, sym c.forget_old.ensures.items ∙ c.in_ok-command.ensures.items ∙ ap (λ (rs : List Waiting). r ∷ rs) (sym c.note_opened.ensures.waiting), refl)

pub returns-clause-counts : goal.returns-clause-counts
returns-clause-counts c =
    let r = c.in_ok-command.field-0 in (
      r,
      sym c.forget_old.ensures.items ∙ c.in_ok-command.ensures.items ∙ ap (λ (rs : List Waiting). r ∷ rs) (sym c.note_opened.ensures.waiting),
      λ command at got. elim (c.note_opened.ensures.counts command at got) [
        | inl before ↦ inl (c.forget_old.ensures.leaves command at before)
        | inr now ↦ inr now
      ],
    )
