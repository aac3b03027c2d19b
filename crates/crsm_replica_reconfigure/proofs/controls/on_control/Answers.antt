use Rattle.std.proofs.Common.{◌∙◌, ap, sym, subst}
use Rattle.std.proofs.lemmas.Result.{IfOk-weaker}
use Rattle.crsm_base.specs.Messages.{FitsControl}
use Rattle.crsm_spec.specs.Controls.{on_control}
use Rattle.crsm_replica_reconfigure.specs.Rules.{on_page_in}
use Rattle.crsm_replica_reconfigure.proofs.DraftLemmas.{instead, is_whole}
use Rattle.crsm_replica_reconfigure.proofs.ControlLemmas.{a_suspend, a_question, a_promise, a_refusal, a_proposal, a_vote, a_decision, a_retrieve, a_page, asked_fitting}
use Rattle.crsm_replica_reconfigure.proofs.controls.on_control.Goals as goal

pub on_suspend-requires-clause-after : goal.on_suspend-requires-clause-after
on_suspend-requires-clause-after c = (subst FitsControl c.in-Suspend.is c.requires.spelt).1

pub returns-in-Suspend : goal.returns-in-Suspend
returns-in-Suspend c =
    IfOk-weaker c.on_suspend.result _ _ (λ _ k x s n.
    instead c.on_suspend.new.state x _ _ (a_suspend c.args.k c.in-Suspend.epoch c.in-Suspend.after x ∙ ap (λ m. on_control c.args.k m x) (sym c.in-Suspend.is))
    (k x s)) c.on_suspend.ensures

pub on_p1a-requires-clause-ballot : goal.on_p1a-requires-clause-ballot
on_p1a-requires-clause-ballot c = (subst FitsControl c.in-P1a.is c.requires.spelt).1

pub returns-in-P1a : goal.returns-in-P1a
returns-in-P1a c =
    IfOk-weaker c.on_p1a.result _ _ (λ _ k x s n.
    instead c.on_p1a.new.state x _ _ (a_question c.args.k c.in-P1a.instance c.in-P1a.ballot x ∙ ap (λ m. on_control c.args.k m x) (sym c.in-P1a.is))
    (k x s)) c.on_p1a.ensures

pub on_p1b-requires-clause-spelt : goal.on_p1b-requires-clause-spelt
on_p1b-requires-clause-spelt c = (subst FitsControl c.in-P1b.is c.requires.spelt).2

pub returns-in-P1b : goal.returns-in-P1b
returns-in-P1b c =
    IfOk-weaker c.on_p1b.result _ _ (λ _ k x s n.
    instead c.on_p1b.new.state x _ _ (a_promise c.args.k c.in-P1b.instance c.in-P1b.ballot c.in-P1b.accepted x ∙ ap (λ m. on_control c.args.k m x) (sym c.in-P1b.is))
    (k x s)) c.on_p1b.ensures

pub on_p1no-requires : goal.on_p1no-requires
on_p1no-requires c = (subst FitsControl c.in-P1no.is c.requires.spelt).2

pub returns-in-P1no : goal.returns-in-P1no
returns-in-P1no c =
    IfOk-weaker c.on_p1no.result _ _ (λ _ k x s n.
    instead c.on_p1no.new.state x _ _ (a_refusal c.args.k c.in-P1no.instance c.in-P1no.ballot c.in-P1no.promised x ∙ ap (λ m. on_control c.args.k m x) (sym c.in-P1no.is))
    (k x s)) c.on_p1no.ensures

pub on_p2a-requires-clause-ballot : goal.on_p2a-requires-clause-ballot
on_p2a-requires-clause-ballot c = (subst FitsControl c.in-P2a.is c.requires.spelt).1

pub on_p2a-requires-clause-decision : goal.on_p2a-requires-clause-decision
on_p2a-requires-clause-decision c = (subst FitsControl c.in-P2a.is c.requires.spelt).2

pub returns-in-P2a : goal.returns-in-P2a
returns-in-P2a c =
    IfOk-weaker c.on_p2a.result _ _ (λ _ k x s n.
    instead c.on_p2a.new.state x _ _ (a_proposal c.args.k c.in-P2a.instance c.in-P2a.ballot c.in-P2a.decision x ∙ ap (λ m. on_control c.args.k m x) (sym c.in-P2a.is))
    (k x s)) c.on_p2a.ensures

pub returns-in-P2b : goal.returns-in-P2b
returns-in-P2b c =
    IfOk-weaker c.on_p2b.result _ _ (λ _ k x s n.
    instead c.on_p2b.new.state x _ _ (a_vote c.args.k c.in-P2b.instance c.in-P2b.ballot x ∙ ap (λ m. on_control c.args.k m x) (sym c.in-P2b.is))
    (k x s)) c.on_p2b.ensures

pub on_decide-requires-clause-spelt : goal.on_decide-requires-clause-spelt
on_decide-requires-clause-spelt c = subst FitsControl c.in-Decide.is c.requires.spelt

pub returns-in-Decide : goal.returns-in-Decide
returns-in-Decide c =
    IfOk-weaker c.on_decide.result _ _ (λ _ k x s n.
    instead c.on_decide.new.state x _ _ (a_decision c.args.k c.in-Decide.decision x ∙ ap (λ m. on_control c.args.k m x) (sym c.in-Decide.is))
    (k x s)) c.on_decide.ensures

pub returns-in-Retrieve : goal.returns-in-Retrieve
returns-in-Retrieve c =
    IfOk-weaker c.on_retrieve.result _ _ (λ _ k x s n.
    let fitting = asked_fitting c.args.k c.in-Retrieve.known c.in-Retrieve.from x ∙ (c.states_are_sound.ensures c.args.state.now x s).fitting in
    instead c.on_retrieve.new.state x _ _ (a_retrieve c.args.k c.in-Retrieve.known c.in-Retrieve.from x ∙ ap (λ m. on_control c.args.k m x) (sym c.in-Retrieve.is))
    (is_whole c.on_retrieve.new.state x _ fitting (k x s))) c.on_retrieve.ensures

pub returns-in-Page : goal.returns-in-Page
returns-in-Page c =
    IfOk-weaker c.on_page.result _ _ (λ _ k x s n.
    instead c.on_page.new.state x _ _
    (ap (λ m. on_page_in c.args.k m x) c.in-Page.is ∙ a_page c.args.k c.in-Page.known c.in-Page.from c.in-Page.entries x
    ∙ ap (λ m. on_control c.args.k m x) (sym c.in-Page.is))
    (k x s)) c.on_page.ensures
