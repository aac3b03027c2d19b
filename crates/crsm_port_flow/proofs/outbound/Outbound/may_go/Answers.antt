use Rattle.std.proofs.Common.{inl, inr, refl}
use Rattle.crsm_port_flow.proofs.outbound.Outbound.may_go.Goals as goal

pub returns-in-Some-clause-later : goal.returns-in-Some-clause-later
returns-in-Some-clause-later c = λ no. let f = c.in-Some.frame in (inr (inl (f.from, f.to, f.epoch, f.number, c.in-Some.ensures.head, c.may_go.ensures.held no)), (c.may_go.ensures.not no, refl))

pub returns-in-Some-clause-noted : goal.returns-in-Some-clause-noted
returns-in-Some-clause-noted c =
    let f = c.in-Some.frame in record {
      frames = λ g has. elim (c.may_go.ensures.noted g has) [
        | inl before ↦ inl before
        | inr now ↦ inr (f.from, f.to, f.epoch, f.number, c.in-Some.ensures.head, now.0, now.1)
      ];
      parts = λ p has. inl has;
    }

pub returns-in-Some-part_in-clause-noted : goal.returns-in-Some-part_in-clause-noted
returns-in-Some-part_in-clause-noted c =
    record {
      frames = λ g has. inl has;
      parts = λ p has. elim (c.may_go-in-Some-part_in.ensures.noted p has) [
        | inl before ↦ inl before
        | inr now ↦ inr (c.in-Some-part_in.part.now, c.in-Some-part_in.ensures, now.0, now.1)
      ];
    }

pub returns-in-Some-head_in-clause-still : goal.returns-in-Some-head_in-clause-still
returns-in-Some-head_in-clause-still c =
    let h = c.in-Some-head_in.field-0 in
    inr ((h.from, h.to, h.epoch, h.number, c.in-Some-head_in.ensures.head), c.hold.ensures.stay)

pub returns-in-Some-clause-window : goal.returns-in-Some-clause-window
returns-in-Some-clause-window c = let f = c.in-Some.frame in inl (f.from, f.to, f.epoch, f.number, c.in-Some.ensures.head, c.note_sent.ensures)
