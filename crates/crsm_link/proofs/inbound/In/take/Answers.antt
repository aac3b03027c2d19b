use Rattle.std.proofs.Common.{◌≡◌, ◌∙◌, refl, sym, ap, arith, length, length-append, [], ◌∷◌, ◌++◌}
use Rattle.crsm_spec.specs.Link.{taken}
use Rattle.crsm_link.proofs.Taking.{taken_next, taken_other, same_is_not_more}
use Rattle.crsm_link.proofs.inbound.In.take.Goals as goal

pub returns-then-seq-self-clause-arrived : goal.returns-then-seq-self-clause-arrived
returns-then-seq-self-clause-arrived c arrived payload s =
    s ∙ ap length (sym (taken_other arrived c.args.seq payload (λ e. absurd (omega arith))))

pub returns-then-seq-self-clause-given : goal.returns-then-seq-self-clause-given
returns-then-seq-self-clause-given c arrived payload s =
    ((λ e. absurd (cc)), (λ e. absurd (same_is_not_more arrived c.args.seq payload (λ d. absurd (omega arith)) e)))

pub returns-then-seq-self-2-clause-arrived : goal.returns-then-seq-self-2-clause-arrived
returns-then-seq-self-2-clause-arrived c arrived payload s =
    s ∙ ap length (sym (taken_other arrived c.args.seq payload (λ e. absurd (omega arith))))

pub returns-then-seq-self-2-clause-given : goal.returns-then-seq-self-2-clause-given
returns-then-seq-self-2-clause-given c arrived payload s =
    ((λ e. absurd (cc)), (λ e. absurd (same_is_not_more arrived c.args.seq payload (λ d. absurd (omega arith)) e)))

pub returns-clause-arrived : goal.returns-clause-arrived
returns-clause-arrived c arrived payload s =
    let e : taken (arrived ++ (c.args.seq, payload) ∷ []) ≡ taken arrived ++ payload ∷ [] = taken_next arrived c.args.seq payload (omega arith) in
    rw e (omega (arith, length-append (taken arrived) (payload ∷ [])))

pub returns-clause-given : goal.returns-clause-given
returns-clause-given c arrived payload s = ((λ e. taken_next arrived c.args.seq payload (omega arith)), (λ e. refl))
