-- Lists of the pending events of a plan.
use Rattle.std.specs.Prelude.{◌≡◌, ◌⊎◌, ℕ, ◌+◌, ◌<◌, List, [], ◌∷◌, ◌++◌, length, map}
use Rattle.std.specs.List.{AllByRecursion}
use Rattle.crsm_spec.specs.Lists.{Among}
use Rattle.crsm_spec.specs.Acts.{Single}
use Rattle.crsm_spec_plan.specs.declared.Plan.{Plan}
use Rattle.crsm_spec_plan.specs.Plans.{delay_of, reading}
use Rattle.crsm_spec_plan.specs.Timelines.{Timed, Sent, sent, IsDue, InOrder, Precedes}
use Rattle.crsm_law_pending.specs.Posts.{Post, posts_from}

-- ---- an event is put into a list in order

-- the event happens before all of a list in order
abbrev pub IsAhead : Timed → List Timed → Type 0
IsAhead f [] = Unit {0}
IsAhead f (g ∷ gs) = Precedes f g

-- The event is inserted after those that it does not precede, before the first that it precedes.
pub record IsPut (f : Timed) (old new : List Timed) : Type 0 where
  pub before : List Timed
  pub after : List Timed
  pub old_is : old ≡ before ++ after
  pub new_is : new ≡ before ++ f ∷ after
  pub behind : AllByRecursion (λ g. Precedes f g → ⊥) before
  pub ahead : IsAhead f after

-- ---- pending events

-- the events of a plan, numbered: the command, the ticks by replica, the deliveries
unfoldable pub number_of : Single → ℕ
number_of (Single.Tick k t) = 1 + k
number_of (Single.Go i t) = 16 + i
number_of _ = 0

-- These are the pending events, in order, with numbers below this one; the events that have happened have such numbers
-- too.
pub record IsPending (plan : Plan) (es : List Timed) (known : ℕ) (pending : List Timed) : Type 0 where
  pub ordered : InOrder pending
  pub due : (f : Timed) → Among pending f → IsDue plan es f
  pub not_yet : (f : Timed) → Among pending f → Among es f → ⊥
  pub all : (f : Timed) → IsDue plan es f → number_of f.does < known → Among es f ⊎ Among pending f
  pub below : (f : Timed) → Among es f ⊎ Among pending f → number_of f.does < known

-- all pending events, after those that have happened
abbrev pub IsAgenda : Plan → List Timed → List Timed → Type 0
IsAgenda plan es pending = IsPending plan es (16 + length (sent plan es)) pending

-- the delivery of a datagram that was sent at a moment
unfoldable pub delivery_of : Plan → ℕ → Post → Timed
delivery_of plan sent_at p =
    let moment = sent_at + delay_of plan p.from p.to in record { moment = moment; does = Single.Go p.number (reading plan p.to moment) }

-- all pending events, except the deliveries of these datagrams, which were sent at this moment
pub record LacksPosts (plan : Plan) (es pending : List Timed) (posts : List Post) (moment : ℕ) : Type 0 where
  pub prefix : List Sent
  pub rest : List Sent
  pub sent_is : sent plan es ≡ prefix ++ rest
  pub pends : IsPending plan es (16 + length prefix) pending
  pub then : AllByRecursion (λ s. s.moment ≡ moment) rest
  pub posts_are : posts ≡ posts_from (length prefix) (map (λ s. s.packet) rest)
