-- A sequence of Paxos instances over an arbitrary network, as replicas run them.
use Rattle.std.specs.Prelude.{ℕ, ◌+◌, Bool, true, false, ◌==◌, ◌||◌, ◌&&◌, not, nat_lt, nat_le, if◌then◌else◌, List, [], ◌∷◌, ◌++◌, length, Option, Some, None, slice_get}
use Rattle.crsm_base.specs.declared.stamp.Ballot.{Ballot}
use Rattle.crsm_base.specs.Order.{ballot_lt, ballot_eq}
use Rattle.crsm_spec.specs.Paxos.{Held, Acceptance, fresh_acceptance, after_promise, after_accept, majority}
use Rattle.crsm_spec.specs.Proposing.{Proposing, start_proposing, value_proposed, is_received, counts_answer, counts_vote, after_answer, after_p1b, after_p2b, makes_majority}

-- a replica knows the decisions up to an epoch, and takes part in the instance after it
pub record Replica (D : Type 0) : Type 0 where
  pub known : ℕ
  pub held : Acceptance D
  pub coordinator : Option (Proposing D)

pub data Message (D : Type 0) : Type 0 where
  Ask : (i : ℕ) (b : Ballot) → Message D
  Promise : (i : ℕ) (b : Ballot) (from : ℕ) (h : Held D) → Message D
  Offer : (i : ℕ) (b : Ballot) (d : D) → Message D
  Voted : (i : ℕ) (b : Ballot) (from : ℕ) → Message D
  Decide : (i : ℕ) (d : D) → Message D

-- the replicas, and every message ever sent
pub record World (D : Type 0) : Type 0 where
  pub replica : ℕ → Replica D
  pub sent : List (Message D)

-- a replica begins a proposal, receives a message (any that was sent, late or again), or loses what it had in memory
pub data Event (D : Type 0) : Type 0 where
  Begin : (r : ℕ) (own : D) → Event D
  Comes : (r which : ℕ) → Event D
  Crash : (r : ℕ) → Event D

abbrev pub start_world : {D : Type 0} → World D
start_world = record { replica = λ _. record { known = 0; held = fresh_acceptance; coordinator = None }; sent = [] }

abbrev pub with_replica : {D : Type 0} → World D → ℕ → Replica D → List (Message D) → World D
with_replica w r x ms = record { replica = λ q. if q == r then x else w.replica q; sent = w.sent ++ ms }

abbrev pub next_ballot : {D : Type 0} → ℕ → Replica D → Ballot
next_ballot r x = record { round = x.held.promised.round + 1; by = r }

abbrev pub begins : {D : Type 0} → List ℕ → World D → ℕ → D → World D
begins {D} spec w r own =
    let x : Replica D = w.replica r in
    let b : Ballot = next_ballot r x in
    with_replica w r (record { known = x.known; held = after_promise x.held b; coordinator = Some (start_proposing b own (length spec)) })
    (Ask (x.known + 1) b ∷ Promise (x.known + 1) b r x.held.accepted ∷ [])

abbrev pub with_coordinator : {D : Type 0} → World D → ℕ → Option (Proposing D) → List (Message D) → World D
with_coordinator w r coordinator ms = with_replica w r (record { known = (w.replica r).known; held = (w.replica r).held; coordinator = coordinator }) ms

abbrev pub asked : {D : Type 0} → World D → ℕ → ℕ → Ballot → World D
asked w r i b =
    if not (i == (w.replica r).known + 1) || ballot_lt b (w.replica r).held.promised then w
    else (if ballot_lt (w.replica r).held.promised b
    then with_replica w r (record { known = (w.replica r).known; held = after_promise (w.replica r).held b; coordinator = (w.replica r).coordinator }) (Promise i b r (w.replica r).held.accepted ∷ [])
    else with_coordinator w r (w.replica r).coordinator (Promise i b r (w.replica r).held.accepted ∷ []))

abbrev pub is_held_below : {D : Type 0} → Held D → Ballot → Bool
is_held_below None b = true
is_held_below (Some h) b = ballot_lt h.0 b

abbrev pub is_held_in : {D : Type 0} → Held D → Ballot → Bool
is_held_in None b = false
is_held_in (Some h) b = ballot_eq h.0 b

abbrev pub offered : {D : Type 0} → World D → ℕ → ℕ → Ballot → D → World D
offered w r i b d =
    if not (i == (w.replica r).known + 1) || ballot_lt b (w.replica r).held.promised then w
    else (if is_held_below (w.replica r).held.accepted b
    then with_replica w r (record { known = (w.replica r).known; held = after_accept (w.replica r).held b d; coordinator = (w.replica r).coordinator }) (Voted i b r ∷ [])
    else (if is_held_in (w.replica r).held.accepted b then with_coordinator w r (w.replica r).coordinator (Voted i b r ∷ []) else w))

abbrev pub sent_coordinator : {D : Type 0} → World D → ℕ → Option (Proposing D) → ℕ → Ballot → ℕ → Held D → World D
sent_coordinator w r None i b from h = w
sent_coordinator w r (Some p) i b from h =
    with_coordinator w r (Some (after_p1b p from b h))
    (if counts_answer p from b && nat_le (majority p.size) (length p.received + 1) then Offer i p.ballot (value_proposed (after_answer p from h)) ∷ [] else [])

abbrev pub voted_coordinator : {D : Type 0} → World D → ℕ → Option (Proposing D) → ℕ → Ballot → ℕ → World D
voted_coordinator w r None i b from = w
voted_coordinator w r (Some p) i b from =
    with_coordinator w r (Some (after_p2b p from b)) (if counts_vote p from b && makes_majority p then Decide i (value_proposed p) ∷ [] else [])

abbrev pub decided : {D : Type 0} → World D → ℕ → ℕ → World D
decided w r i = if nat_lt (w.replica r).known i then with_replica w r (record { known = i; held = fresh_acceptance; coordinator = None }) [] else w

-- the message is of the instance that the replica takes part in, and from a replica of its Spec
abbrev pub is_counted : {D : Type 0} → (ℕ → List ℕ) → World D → ℕ → ℕ → ℕ → Bool
is_counted spec_of w r i from = i == (w.replica r).known + 1 && is_received (spec_of i) from

abbrev pub comes : {D : Type 0} → (ℕ → List ℕ) → World D → ℕ → Option (Message D) → World D
comes spec_of w r None = w
comes spec_of w r (Some (Ask i b)) = asked w r i b
comes spec_of w r (Some (Promise i b from h)) = if is_counted spec_of w r i from then sent_coordinator w r (w.replica r).coordinator i b from h else w
comes spec_of w r (Some (Offer i b d)) = offered w r i b d
comes spec_of w r (Some (Voted i b from)) = if is_counted spec_of w r i from then voted_coordinator w r (w.replica r).coordinator i b from else w
comes spec_of w r (Some (Decide i d)) = decided w r i

abbrev pub happens : {D : Type 0} → (ℕ → List ℕ) → World D → Event D → World D
happens spec_of w (Begin r own) = begins (spec_of ((w.replica r).known + 1)) w r own
happens spec_of w (Comes r which) = comes spec_of w r (slice_get w.sent which)
happens spec_of w (Crash r) = with_coordinator w r None []

abbrev pub world_after : {D : Type 0} → (ℕ → List ℕ) → World D → List (Event D) → World D
world_after spec_of w [] = w
world_after spec_of w (e ∷ es) = world_after spec_of (happens spec_of w e) es
