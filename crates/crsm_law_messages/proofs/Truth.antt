-- A message sent is true of an earlier log of its sender.
use Rattle.std.proofs.Common.{◌≡◌, ℕ, sym, ap, subst, false}
use Rattle.std.specs.Prelude.{IsTrue, Option, Some, None}
use Rattle.std.specs.Option.{option_map_or}
use Rattle.std.proofs.lemmas.Bool.{false≢true}
use Rattle.crsm_base.specs.Order.{ballot_eq}
use Rattle.crsm_spec.specs.Types.{Ballot, Decision, Control}
use Rattle.crsm_spec.specs.Log.{accepted}
use Rattle.crsm_spec.specs.Draft.{Draft}
use Rattle.crsm_spec.specs.Coordinate.{instance, has_accepted}
use Rattle.crsm_spec.specs.World.{World, Moment, log_at}
use Rattle.crsm_fact_step.specs.Messages.{IsSent}
use Rattle.crsm_fact_log.specs.Logs.{Extends, same}
use Rattle.crsm_law_steps.specs.Laws.{LogsGoOn}
use Rattle.crsm_law_steps.specs.Happenings.{Happens}
use Rattle.crsm_fact_log.proofs.Logged.{extends_trans}
use Rattle.crsm_fact_step.proofs.Logs.{changes_grow}
use Rattle.crsm_law_steps.proofs.Moments.{moment_goes_on}
use Rattle.crsm_fact_log.proofs.Tests.{same_ballot}
use Rattle.crsm_law_messages.specs.SentMessages.{GoesOn, here, on, Past}
use Rattle.crsm_law_messages.specs.Laws.{Says, SentIsTrue}

-- what holds of a world and is kept by each moment
pub carried : (P : World → Type 0) → ((u : World) (m : Moment) → Happens u m → P u → P m.after) → (v w : World) → GoesOn v w → P v → P w
carried P keeps v w here p = p
carried P keeps v w (on {u = u} {m = m} g h) p = keeps u m h (carried P keeps v u g p)

pub logs_carried : (v w : World) → GoesOn v w → LogsGoOn v w
logs_carried v w g k = carried (λ u. Extends (log_at v k) (log_at u k)) (λ u m h e. extends_trans e (moment_goes_on u m h k)) v w g same

-- a replica's log goes on from that of each of its drafts
pub past_extends : (n : ℕ) (w : World) (k : ℕ) (p : Past n w k) → Extends p.draft.replica.log (log_at w k)
past_extends n w k p =
    extends_trans (subst (Extends p.draft.replica.log) (sym p.kept) (changes_grow p.after)) (logs_carried p.moment.after w p.since k)

pub voted : (b : Ballot) (o : Option (Ballot × Decision)) → IsTrue (option_map_or (λ a. ballot_eq a.0 b) o false) → (d : Decision) × (o ≡ Some (b, d))
voted b None h = absurd (false≢true h)
voted b (Some a) h = (a.1, ap (λ c. Some (c, a.1)) (same_ballot a.0 b h))

says_so : (x : Draft) (c : Control) → IsSent x c → Says x.replica.log c
unfolding instance has_accepted
says_so x (Control.Suspend e after) h = h.0
says_so x (Control.SuspendOk e done last after whole es) h = h
says_so x (Control.P1a i b) h = h.0
says_so x (Control.P1b i b v) h = h
says_so x (Control.P1no i b top) h = h
says_so x (Control.P2a i b d) h = h.0
says_so x (Control.P2b i b) h = let v = voted b (accepted x.replica.log) h.1 in (h.0, v.0, v.1)
says_so x (Control.Decide d) h = h
says_so x (Control.Retrieve e from) h = h
says_so x (Control.Page e from es) h = h

pub sent_is_true : SentIsTrue
sent_is_true n w s t = (t.past.draft.replica.log, past_extends n w s.from t.past, says_so t.past.draft s.message t.sent.is)
