-- Control messages, each by the rule of its kind.
use Rattle.std.proofs.Common.{◌≡◌, ◌∙◌, ℕ, refl, List}
use Rattle.std.specs.Prelude.{Option, nat_lt, length}
use Rattle.crsm_spec.specs.Types.{Stamp, Ballot, Entry, Decision, Control}
use Rattle.crsm_spec.specs.Choice.{when◌then◌otherwise◌}
use Rattle.crsm_spec.specs.Log.{executed}
use Rattle.crsm_spec.specs.Draft.{Draft, send_control}
use Rattle.crsm_spec.specs.Controls.{on_control, on_suspend, on_p1a, on_p2a, on_decide, on_retrieve, page_from}
use Rattle.crsm_replica_reconfigure.specs.Rules.{receives_answer, receives_no, receives_vote, on_page_in}
use Rattle.crsm_replica_reconfigure.proofs.DraftLemmas.{when_same, send_fitting, decision_fitting, retrieve_fitting}

pub a_suspend : (k e : ℕ) (after : Option Stamp) (x : Draft) → on_suspend k e after x ≡ on_control k (Control.Suspend e after) x
unfolding on_control
a_suspend k e after x = refl

pub a_question : (k i : ℕ) (b : Ballot) (x : Draft) → on_p1a k i b x ≡ on_control k (Control.P1a i b) x
unfolding on_control
a_question k i b x = refl

pub a_promise : (k i : ℕ) (b : Ballot) (v : Option (Ballot × Decision)) (x : Draft) → receives_answer k i b v x ≡ on_control k (Control.P1b i b v) x
unfolding on_control receives_answer
a_promise k i b v x = refl

pub a_refusal : (k i : ℕ) (b top : Ballot) (x : Draft) → receives_no k i b top x ≡ on_control k (Control.P1no i b top) x
unfolding on_control receives_no
a_refusal k i b top x = refl

pub a_proposal : (k i : ℕ) (b : Ballot) (d : Decision) (x : Draft) → on_p2a k i b d x ≡ on_control k (Control.P2a i b d) x
unfolding on_control
a_proposal k i b d x = refl

pub a_vote : (k i : ℕ) (b : Ballot) (x : Draft) → receives_vote k i b x ≡ on_control k (Control.P2b i b) x
unfolding on_control receives_vote
a_vote k i b x = refl

pub a_decision : (k : ℕ) (d : Decision) (x : Draft) → on_decide k d x ≡ on_control k (Control.Decide d) x
unfolding on_control
a_decision k d x = refl

pub a_retrieve : (k e from : ℕ) (x : Draft) → on_retrieve k e from x ≡ on_control k (Control.Retrieve e from) x
unfolding on_control
a_retrieve k e from x = refl

pub a_page : (k e from : ℕ) (es : List Entry) (x : Draft) → on_page_in k (Control.Page e from es) x ≡ on_control k (Control.Page e from es) x
unfolding on_control
a_page k e from es x = refl

-- a question for executed entries keeps nothing
pub asked_fitting : (k e from : ℕ) (x : Draft) → (on_retrieve k e from x).fitting ≡ x.fitting
unfolding on_retrieve
asked_fitting k e from x =
    let y : Draft = when nat_lt from (length (executed x.replica.log)) then send_control (page_from x.replica.log from) x k otherwise x in
    let sent : y.fitting ≡ x.fitting = when_same (λ z. z.fitting) _ _ _ x.fitting (send_fitting _ x k) refl in
    when_same (λ z. z.fitting) _ _ _ x.fitting (decision_fitting k x)
    (when_same (λ z. z.fitting) _ _ _ x.fitting (retrieve_fitting k y ∙ sent) sent)
