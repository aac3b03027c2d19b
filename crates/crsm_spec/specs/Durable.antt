-- Durability: no answered command is lost.
use Rattle.std.specs.Prelude.{◌≡◌, ℕ, ◌+◌, ◌<◌, ◌≤◌, List, Contains, Some, slice_get}
use Rattle.std.specs.List.{AllByRecursion}
use Rattle.crsm_spec.specs.Types.{Entry, Decision, Answer, Rec, Line}
use Rattle.crsm_spec.specs.Paxos.{IsMajority}
use Rattle.crsm_spec.specs.World.{World, Moment, log_at}
use Rattle.crsm_spec.specs.Acts.{Act}
use Rattle.crsm_spec.specs.Run.{moments_of_run, last_world, the_list}
use Rattle.crsm_spec.specs.Decided.{decisions_in, spec_at, start_of}

-- the record holds the entry
abbrev pub HoldsEntry : Entry → Rec → Type 0
HoldsEntry e (Rec.Prepare f) = f ≡ e
HoldsEntry e (Rec.Adopt place es) = Contains es e
HoldsEntry e (Rec.Accept i b d) = Contains d.tail e
HoldsEntry e (Rec.Decide d) = Contains d.tail e
HoldsEntry e _ = ⊥

-- replica k keeps the entry in some record
abbrev pub KeepsEntry : World → Entry → ℕ → Type 0
KeepsEntry w e k = (rec : Rec) × Contains (log_at w k) rec × HoldsEntry e rec

-- a majority of these replicas keeps the entry
abbrev pub IsKeptBy : World → List ℕ → Entry → Type 0
IsKeptBy w spec e = (ks : List ℕ) × IsMajority spec ks × AllByRecursion (KeepsEntry w e) ks

-- Decision d's epoch begins with the entry at its place, and a majority of the Spec that decided d holds it.
pub record GoesOnIn (n : ℕ) (acts : List Act) (w : World) (e : Entry) (place : ℕ) (d : Decision) : Type 0 where
  pub start : slice_get (start_of n acts d) place ≡ Some e
  pub kept : (x : ℕ) → x + 1 ≡ d.epoch → IsKeptBy w (spec_at (last_world n acts) x) e

-- In this world the entry at this place is held by a majority of the Spec of its epoch, and by every later decision.
pub record IsDurable (n : ℕ) (acts : List Act) (w : World) (e : Entry) (place : ℕ) : Type 0 where
  pub kept : IsKeptBy w (spec_at (last_world n acts) e.epoch) e
  pub later : AllByRecursion (λ d. e.epoch < d.epoch → GoesOnIn n acts w e place d) (decisions_in w)

-- From the moment of an answer on, the answered entry is durable.
abbrev pub KeepsAnswered : ℕ → List Act → Type 0
KeepsAnswered n acts =
    (i j k client number place : ℕ) (a : Answer) (answered later : Moment) (e : Entry) → i ≤ j →
    slice_get (moments_of_run n acts) i ≡ Some answered → Contains answered.lines (Line.ReplyOk k client number place a) →
    slice_get (moments_of_run n acts) j ≡ Some later → slice_get (the_list n acts) place ≡ Some e →
    IsDurable n acts later.after e place
