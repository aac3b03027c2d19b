-- Turns that take the wanted input.
use Rattle.std.proofs.Common.{◌≡◌, ℕ, List, Ok, refl, ap, arith}
use Rattle.crsm_port.specs.Meaning.{Meaning}
use Rattle.crsm_spec.specs.Node.{Turn}
use Rattle.crsm_replica_io.specs.Input.{TakesInput}
use Rattle.crsm_replica_io.specs.declared.input.WantedInput.{WantedInput}
use Rattle.crsm_replica_io.specs.declared.input.WantedInput.TheVariants as what
use Rattle.crsm_replica_io.specs.declared.input.ReceivedInput.{ReceivedInput}
use Rattle.crsm_replica_io.specs.declared.input.ReceivedInput.TheVariants as taken
use Rattle.crsm_shell.specs.Taking.{heard_in, turn_of}
use Rattle.crsm_replica_detector.specs.Watching.{Watch, heard_at, watched}
use Rattle.crsm_replica_detector.specs.Wished.{CountsWished, Fulfils, chosen, empty_receive, with_turn}

-- what is noted of a turn that fulfils a wish is the times after it
pub noted : (w : Watch) (wanted : WantedInput) (t : Turn) (reading : ℕ) → Fulfils wanted t
    → with_turn t (heard_at (heard_in t) reading (chosen wanted w)) ≡ watched w (t, reading)
unfolding heard_in
noted w what.Receive (Turn.In address bytes) reading f = refl
noted w what.Receive Turn.Tick reading f = refl
noted w what.Receive (Turn.Suspect ms) reading f = absurd f
noted w what.Tick (Turn.In address bytes) reading f = absurd f
noted w what.Tick Turn.Tick reading f = refl
noted w what.Tick (Turn.Suspect ms) reading f = absurd f
noted w (what.Suspect ks) (Turn.In address bytes) reading f = absurd f
noted w (what.Suspect ks) Turn.Tick reading f = absurd f
noted w (what.Suspect ks) (Turn.Suspect ms) reading f = refl

-- what is taken as it is wanted fulfils the wish
pub fulfilled : (wanted : WantedInput) (size : ℕ) (buffer : List ℕ) (old new : Meaning) (t : ReceivedInput)
    → TakesInput wanted size buffer old new (Ok t) → Fulfils wanted (turn_of buffer t)
unfolding turn_of
fulfilled what.Receive size buffer old new (taken.Datagram from len) h = tt
fulfilled what.Receive size buffer old new taken.Tick h = tt
fulfilled what.Receive size buffer old new (taken.Suspect ms) h = absurd h.counted
fulfilled what.Tick size buffer old new (taken.Datagram from len) h = let e = h.1 in cc
fulfilled what.Tick size buffer old new taken.Tick h = tt
fulfilled what.Tick size buffer old new (taken.Suspect ms) h = let e = h.1 in cc
fulfilled (what.Suspect ks) size buffer old new (taken.Datagram from len) h = let e = h.1 in cc
fulfilled (what.Suspect ks) size buffer old new taken.Tick h = let e = h.1 in cc
fulfilled (what.Suspect ks) size buffer old new (taken.Suspect ms) h = let e = h.1 in cc

-- nothing is received, and nothing is counted
same : (wanted : WantedInput) (t : Turn) (old new : ℕ) → new ≡ old → (empty_receive wanted t ≡ 1 → ⊥) → CountsWished wanted t old new
same wanted t old new e none = record { later = omega arith; rose = λ one. absurd (none one) }

-- the port has counted a tick in place of a datagram
pub counted : (wanted : WantedInput) (size : ℕ) (buffer : List ℕ) (old new : Meaning) (t : ReceivedInput)
    → TakesInput wanted size buffer old new (Ok t) → CountsWished wanted (turn_of buffer t) old.empties new.empties
unfolding turn_of
counted what.Receive size buffer old new (taken.Datagram from len) h = same what.Receive _ old.empties new.empties h.counted (λ e. cc)
counted what.Receive size buffer old new taken.Tick h = record { later = h.counted.1; rose = λ _. h.counted.0 }
counted what.Receive size buffer old new (taken.Suspect ms) h = absurd h.counted
counted what.Tick size buffer old new t h = same what.Tick _ old.empties new.empties (ap (λ (m : Meaning). m.empties) h.0) (λ e. cc)
counted (what.Suspect ks) size buffer old new t h = same (what.Suspect ks) _ old.empties new.empties (ap (λ (m : Meaning). m.empties) h.0) (λ e. cc)
