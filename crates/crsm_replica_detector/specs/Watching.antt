-- The readings that a node remembers of its turns, in microseconds.
use Rattle.std.specs.Prelude.{ℕ, ◌==◌, if◌then◌else◌, Option, Some, None}
use Rattle.crsm_spec.specs.Node.{Turn}
use Rattle.crsm_shell.specs.Taking.{heard_in}

-- the newest reading, and when each replica was heard last, when a tick was taken, and when a suspicion was chosen
pub record Times : Type 0 where
  pub newest : ℕ
  pub heard : ℕ → ℕ
  pub ticked : ℕ
  pub suspected : ℕ

-- the times of a node, once it has a reading
abbrev pub Watch : Type 0
Watch = Option Times

-- before the first reading
abbrev pub unwatched : Watch
unwatched = None

-- all times are the first reading
abbrev pub begun : ℕ → Times
begun reading = record { newest = reading; heard = λ _. reading; ticked = reading; suspected = reading }

-- when each replica was heard last, where this one is heard at a reading
abbrev pub with_heard : Option ℕ → ℕ → (ℕ → ℕ) → ℕ → ℕ
with_heard None reading heard k = heard k
with_heard (Some j) reading heard k = if k == j then reading else heard k

-- the times at a further reading, at which a replica is heard or none
abbrev pub further : Option ℕ → ℕ → Times → Times
further from reading t = record t { newest = reading; heard = with_heard from reading t.heard }

-- the same of a node, which may have had no reading
abbrev pub heard_at : Option ℕ → ℕ → Watch → Watch
heard_at from reading None = Some (begun reading)
heard_at from reading (Some t) = Some (further from reading t)

-- a tick was taken at the newest reading
abbrev pub with_tick : Watch → Watch
with_tick None = None
with_tick (Some t) = Some (record t { ticked = t.newest })

-- a suspicion is chosen at the newest reading
abbrev pub with_suspicion : Watch → Watch
with_suspicion None = None
with_suspicion (Some t) = Some (record t { suspected = t.newest })

-- after a turn of this kind at its reading; a suspicion was chosen at the reading before
abbrev pub watched_at : Watch → Turn → ℕ → Watch
watched_at w (Turn.In address bytes) reading = heard_at (heard_in (Turn.In address bytes)) reading w
watched_at w Turn.Tick reading = with_tick (heard_at None reading w)
watched_at w (Turn.Suspect ms) reading = heard_at None reading (with_suspicion w)

-- after a turn
abbrev pub watched : Watch → Turn × ℕ → Watch
watched w t = watched_at w t.0 t.1
