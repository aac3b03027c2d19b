-- The effect of the rules that end an epoch on a replica's state, and the records that they would make.
use Rattle.std.specs.Prelude.{◌≡◌, ◌≢◌, ℕ, ◌+◌, ◌-◌, Bool, true, false, ◌&&◌, nat_lt, nat_le, List, [], length, drop, slice_get, if◌then◌else◌, Option, None, Result, IfOk}
use Rattle.std.specs.Option.{option_map_or}
use Rattle.crsm_base.specs.Spelling.{FitsBallot}
use Rattle.crsm_base.specs.declared.NoMemory.{NoMemory}
use Rattle.crsm_spec.specs.Types.{Ballot, Entry, Decision, Rec, Control}
use Rattle.crsm_spec.specs.Choice.{when◌then◌otherwise◌}
use Rattle.crsm_spec.specs.Fits.{booted, goes_on}
use Rattle.crsm_spec.specs.Draft.{Draft, keep, send_control, send_retrieve}
use Rattle.crsm_spec.specs.Log.{known, decision, active, executed, promised, accepted}
use Rattle.crsm_spec.specs.Paxos.{Held}
use Rattle.crsm_spec.specs.Controls.{if_next, if_spec, on_page, page_from, on_p1b, on_p1no, on_p2b}
use Rattle.crsm_spec.specs.Coordinate.{advance}
use Rattle.crsm_spec.specs.Step.{if_fitting}
use Rattle.crsm_replica.specs.declared.state.ReplicaState.{ReplicaState}
use Rattle.crsm_replica.specs.Replica.{ReplicaStands}
use Rattle.crsm_replica_coordinator.specs.Coordinator.{IsOwn}

-- Whatever the old state stood for, the new one stands for the effect of the rule on it, and for the same if its
-- records would not fit; or memory ran out.
abbrev pub Follows : (Draft → Draft) → ReplicaState → Result (Unit {0}) NoMemory → ReplicaState → Type 0
Follows rule old result new = IfOk result (λ _. (x : Draft) → ReplicaStands old x → ReplicaStands new (if_fitting x (rule x)))

-- the same under a premise on the draft
abbrev pub FollowsWhere : (Draft → Type 0) → (Draft → Draft) → ReplicaState → Result (Unit {0}) NoMemory → ReplicaState → Type 0
FollowsWhere P rule old result new = IfOk result (λ _. (x : Draft) → ReplicaStands old x → P x → ReplicaStands new (if_fitting x (rule x)))

-- a rule that fits whenever the draft before it does
abbrev pub MakesWhere : (Draft → Type 0) → (Draft → Draft) → ReplicaState → Result (Unit {0}) NoMemory → ReplicaState → Type 0
MakesWhere P rule old result new = IfOk result (λ _. (x : Draft) → ReplicaStands old x → P x → ReplicaStands new (rule x))

-- The rest of a decision's tail follows these executed entries, if its base is executed and the tail is not.
unfoldable pub tail_goes_on : Decision → List Entry → Bool
tail_goes_on d done =
    when nat_le d.base_len (length done) && nat_lt (length done) (d.base_len + length d.tail)
    then goes_on done (drop (length done - d.base_len) d.tail) otherwise true

-- the same of a known decision, if there is one
unfoldable pub rest_goes_on : Option Decision → List Entry → Bool
rest_goes_on decision done = option_map_or (λ d. tail_goes_on d done) decision true

-- the first entry of the tail that is not among the executed ones, if the base is executed
unfoldable pub first_left : Decision → ℕ → Option Entry
first_left d done = if nat_lt done d.base_len then None else slice_get d.tail (done - d.base_len)

-- a page of executed entries is taken
abbrev pub on_page_in : ℕ → Control → Draft → Draft
on_page_in k (Control.Page known from es) x = on_page k known from es x
on_page_in k _ x = x

-- the replica does not take part in its epoch, and these entries are of epochs that it knows, one or more
pub record CanAdopt (x : Draft) (es : List Entry) : Type 0 where
  pub apart : active x.replica.log ≡ false
  pub some : es ≢ []

-- An instance of k that is not the next one is answered; for the next one nothing is done yet.
pub record IsNextOr (k i : ℕ) (x : Draft) (next : Bool) (new : ReplicaState) : Type 0 where
  pub here : next ≡ true → (i ≡ known x.replica.log + 1) × ReplicaStands new x
  pub other : next ≡ false → (i ≢ known x.replica.log + 1) × ((y : Draft) → ReplicaStands new (if_next k i x y))

-- sends k the first page of the executed entries from a place on, if there is one
unfoldable pub send_executed : ℕ → ℕ → Draft → Draft
send_executed k from x = when nat_lt from (length (executed x.replica.log)) then send_control (page_from x.replica.log from) x k otherwise x

-- executes entries that follow the executed ones, and asks k for more
unfoldable pub take_executed : ℕ → List Entry → Draft → Draft
take_executed k es x = send_retrieve k (advance (keep (Rec.Adopt (length (executed x.replica.log)) es) x))

-- a refusal of k is received, and a vote, where k is counted
unfoldable pub receives_no : ℕ → ℕ → Ballot → Ballot → Draft → Draft
receives_no k i b top x = if_spec k x (on_p1no i b top x.replica.coordinator x)

unfoldable pub receives_vote : ℕ → ℕ → Ballot → Draft → Draft
receives_vote k i b x = if_spec k x (on_p2b k i b x.replica.coordinator x)

-- a promise of k is received, with what it had accepted, where k is counted
unfoldable pub receives_answer : ℕ → ℕ → Ballot → Held Decision → Draft → Draft
receives_answer k i b accepted x =
    if_spec k x (on_p1b i b (record { replica = k; accepted = accepted }) x.replica.coordinator x)

-- the decision is one of the replica's own for the next epoch, and the ballot that was seen has an encoding
abbrev pub CanPropose : Decision → Ballot → Draft → Type 0
CanPropose own seen x = IsOwn x.replica.me x.replica.n (decision x.replica.log) own × FitsBallot seen

-- y is like x in all on which the records of a begun proposal depend, and its own records fit
pub record BeginsAlike (x y : Draft) : Type 0 where
  pub me : y.replica.me ≡ x.replica.me
  pub n : y.replica.n ≡ x.replica.n
  pub knows : decision y.replica.log ≡ decision x.replica.log
  pub promises : promised y.replica.log ≡ promised x.replica.log
  pub accepts : accepted y.replica.log ≡ accepted x.replica.log
  pub executes : executed y.replica.log ≡ executed x.replica.log
  pub on_record : booted y.replica.log ≡ true
  pub fitting : y.fitting ≡ true
