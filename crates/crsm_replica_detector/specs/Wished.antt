-- Turns that were each wanted.
use Rattle.std.specs.Prelude.{◌≡◌, ◌≤◌, ℕ, ◌+◌, List, [], ◌∷◌}
use Rattle.crsm_port_faults.specs.Counts.{Rose}
use Rattle.crsm_spec.specs.Replica.{Replica}
use Rattle.crsm_spec.specs.Node.{Turn, turn}
use Rattle.crsm_replica_io.specs.declared.input.WantedInput.{WantedInput}
use Rattle.crsm_replica_io.specs.declared.input.WantedInput.TheVariants as what
use Rattle.crsm_replica_detector.specs.Watching.{Watch, watched, with_suspicion, with_tick}
use Rattle.crsm_replica_detector.specs.Wishing.{wish}

-- the next input of a node with this replica
abbrev pub wish_of : Watch → Replica → WantedInput
wish_of w r = wish r.me r.n w r.log

-- the node's times once this input is chosen
abbrev pub chosen : WantedInput → Watch → Watch
chosen what.Receive w = w
chosen what.Tick w = w
chosen (what.Suspect ms) w = with_suspicion w

-- the node's times where this turn was made at the newest reading
abbrev pub with_turn : Turn → Watch → Watch
with_turn Turn.Tick w = with_tick w
with_turn (Turn.In address bytes) w = w
with_turn (Turn.Suspect ms) w = w

-- The turn takes the wanted input: for a receive a datagram, or a tick if none has arrived.
abbrev pub Fulfils : WantedInput → Turn → Type 0
Fulfils what.Receive (Turn.In address bytes) = Unit {0}
Fulfils what.Receive Turn.Tick = Unit {0}
Fulfils what.Receive (Turn.Suspect ms) = ⊥
Fulfils what.Tick (Turn.In address bytes) = ⊥
Fulfils what.Tick Turn.Tick = Unit {0}
Fulfils what.Tick (Turn.Suspect ms) = ⊥
Fulfils (what.Suspect wanted) (Turn.In address bytes) = ⊥
Fulfils (what.Suspect wanted) Turn.Tick = ⊥
Fulfils (what.Suspect wanted) (Turn.Suspect ms) = ms ≡ wanted

-- one for a tick in place of a datagram
abbrev pub empty_receive : WantedInput → Turn → ℕ
empty_receive what.Receive Turn.Tick = 1
empty_receive what.Receive _ = 0
empty_receive what.Tick _ = 0
empty_receive (what.Suspect ms) _ = 0

-- Between two values of a count of empty receives: it does not fall, and rises where the turn is one.
pub record CountsWished (what : WantedInput) (t : Turn) (old new : ℕ) : Type 0 where
  pub later : old ≤ new
  pub rose : empty_receive what t ≡ 1 → Rose old new

-- the node's times after turns
unfoldable pub watch_after : Watch → List (Turn × ℕ) → Watch
watch_after w [] = w
watch_after w (t ∷ ts) = watch_after (watched w t) ts

-- each turn is one of what the node wants then
unfoldable pub AreWished : Watch → Replica → List (Turn × ℕ) → Type 0
AreWished w r [] = Unit {0}
AreWished w r (t ∷ ts) = Fulfils (wish_of w r) t.0 × AreWished (watched w t) (turn r t).replica ts

-- how many of them are ticks in place of datagrams
unfoldable pub empty_receives : Watch → Replica → List (Turn × ℕ) → ℕ
empty_receives w r [] = 0
empty_receives w r (t ∷ ts) = empty_receive (wish_of w r) t.0 + empty_receives (watched w t) (turn r t).replica ts
