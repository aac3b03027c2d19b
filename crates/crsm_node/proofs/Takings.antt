-- The input that a turn takes from a port, as a node's.
use Rattle.std.proofs.Common.{◌≡◌, inr, ℕ, ◌≤◌, ◌↔◌, List, [], ◌∷◌, ◌++◌, take, refl, sym, ◌∙◌, ap, subst, arith}
use Rattle.std.proofs.lemmas.List.{append-nil}
use Rattle.std.specs.Prelude.{Option, Some, None, IsSome, Result, Ok, Err, ◌<◌, ◌^◌, zero, suc}
use Rattle.std.specs.List.{AllByRecursion}
use Rattle.crsm_clock.specs.Readings.{Gives, Readings}
use Rattle.crsm_disk.specs.Meaning.{Meaning as DiskMeaning}
use Rattle.crsm_port.specs.Meaning.{Framing, Meaning as PortMeaning, Packet, Traffic}
use Rattle.crsm_spec.specs.Draft.{Draft}
use Rattle.crsm_spec.specs.Log.{Log}
use Rattle.crsm_spec.specs.Node.{Turn}
use Rattle.crsm_spec.specs.Replica.{Replica}
use Rattle.crsm_base.specs.Members.{IsMembers}
use Rattle.crsm_spec_process.specs.Turns.{IsTurn}
use Rattle.crsm_replica_io.specs.Input.{CountsTick, IsFirst, TakesInput}
use Rattle.crsm_replica_io.specs.Outgoing.{raised_by}
use Rattle.crsm_replica_io.specs.declared.input.ReceivedInput.{ReceivedInput}
use Rattle.crsm_replica_io.specs.declared.input.ReceivedInput.TheVariants as taken
use Rattle.crsm_replica_io.specs.declared.input.TakeError.{TakeError}
use Rattle.crsm_replica_io.specs.declared.input.TakeError.TheVariants as take_error
use Rattle.crsm_replica_io.specs.declared.input.WantedInput.{WantedInput}
use Rattle.crsm_replica_io.specs.declared.input.WantedInput.TheVariants as what
use Rattle.crsm_replica_detector.specs.Detector.{DetectorStands}
use Rattle.crsm_replica_detector.specs.Watching.{Watch}
use Rattle.crsm_replica_detector.specs.Wished.{Fulfils, chosen, empty_receive, wish_of}
use Rattle.crsm_replica_detector.specs.declared.detector.Detector.{Detector}
use Rattle.crsm_shell.specs.Shell.{ShellStands}
use Rattle.crsm_shell.specs.Taking.{AreBytes, IsTyped, Reads, Takes, most_received, turn_of}
use Rattle.crsm_shell.specs.declared.errors.TurnError.{TurnError}
use Rattle.crsm_shell.specs.declared.errors.TurnError.TheVariants as errors
use Rattle.crsm_shell.specs.declared.shell.Shell.{Shell}
use Rattle.crsm_node.specs.Errors.{turn_failure}
use Rattle.crsm_node.specs.Received.{BothTell, Passes, datagram_in}
use Rattle.crsm_node.specs.Steps.{FailsToReceive, FailsToTake, HasMembers, TakesOff, Took}
use Rattle.crsm_node.proofs.Ports.{both_same, passes_none, raised_none}

-- ---- the traffic

abbrev none_of : (A : Type 0) → Option A
none_of A = None

none_some : (A : Type 0) → IsSome (none_of A) → ⊥
none_some A is = cc

told_both : (R : Traffic → Traffic → Type 0) (a b : Option Traffic) → (IsSome a ↔ IsSome b) → ((t u : Traffic) → a ≡ Some t → b ≡ Some u → R t u) → BothTell R a b
told_both R None None told each = tt
told_both R None (Some u) told each = absurd (none_some Traffic (told.1 refl))
told_both R (Some t) None told each = absurd (none_some Traffic (told.0 refl))
told_both R (Some t) (Some u) told each = each t u refl refl

-- the first datagram that waits is taken, or none waits
first_passes : (buffer : List ℕ) (framing : Framing) (t u : Traffic) (it : ReceivedInput) → IsFirst most_received buffer framing t u it → Passes framing (datagram_in (turn_of buffer it)) [] t u
unfolding turn_of
first_passes buffer framing t u taken.Tick h = subst (λ (x : Traffic). Passes framing [] [] t x) (sym h.1) (passes_none framing t)
first_passes buffer framing t u (taken.Datagram from len) h =
    let d = h.0 in
    let address : from ≡ (framing.unwrap d).address = h.3 in
    let bytes : take len buffer ≡ take most_received (framing.unwrap d).bytes = h.4 in
    let after : Traffic = record t { waiting = h.1; taken = t.taken ++ d ∷ [] } in
    subst (λ (x : Traffic). Passes framing ((record { address = from; bytes = take len buffer }) ∷ []) [] t x) (sym h.5) (record {
      came = d ∷ [];
      waited = h.2;
      told = refl;
      are = ap (λ (a : ℕ). (record { address = a; bytes = take len buffer }) ∷ []) address
          ∙ ap (λ (bs : List ℕ). (record { address = (framing.unwrap d).address; bytes = bs }) ∷ []) bytes;
      out = sym (append-nil t.sent);
    })
first_passes buffer framing t u (taken.Suspect members) h = absurd h

-- ---- what is taken

abbrev taking : ReceivedInput → Result ReceivedInput TakeError
taking t = Ok t

no_fault : (t : ReceivedInput) → taking t ≡ Err take_error.PortFault → ⊥
no_fault t is = cc

counts : (old new : ℕ) (buffer : List ℕ) (t : ReceivedInput) → CountsTick old new t → raised_by (empty_receive what.Receive (turn_of buffer t)) old ≤ new
unfolding turn_of
counts old new buffer taken.Tick h = omega (arith, h.0)
counts old new buffer (taken.Datagram from len) h = omega (arith, h)
counts old new buffer (taken.Suspect members) h = absurd h

-- nothing is taken off the port
stays_off : (wanted : WantedInput) (t : Turn) (m : PortMeaning) → datagram_in t ≡ [] → empty_receive wanted t ≡ 0 → TakesOff wanted t m m
stays_off wanted t m none uncounted = record {
  traffic = subst (λ (ps : List Packet). BothTell (Passes m.framing ps []) m.traffic m.traffic) (sym none) (both_same (Passes m.framing [] []) m.traffic (passes_none m.framing));
  empties = subst (λ (k : ℕ). raised_by k m.empties ≤ m.empties) (sym uncounted) (raised_none m.empties m.empties (omega arith));
  losses = refl;
  too_long = refl;
  faults = refl;
  framing = refl;
  borrowed_as = refl;
}

same_input : (t u : ReceivedInput) → taking t ≡ taking u → t ≡ u
same_input t u is = cc

-- the input that was taken as it is wanted
pub takes_off : (wanted : WantedInput) (buffer : List ℕ) (old new : PortMeaning) (t : ReceivedInput) → TakesInput wanted most_received buffer old new (Ok t) → TakesOff wanted (turn_of buffer t) old new
unfolding turn_of
takes_off what.Receive buffer old new t h = record {
  traffic = told_both (Passes old.framing (datagram_in (turn_of buffer t)) []) old.traffic new.traffic h.told (λ a b is other. first_passes buffer old.framing a b t (h.first a b is other));
  empties = counts old.empties new.empties buffer t h.counted;
  losses = h.losses;
  too_long = h.too_long;
  faults = h.no_fault (no_fault t);
  framing = h.framing;
  borrowed_as = h.borrowed_as;
}
takes_off what.Tick buffer old new t h =
    subst (λ (m : PortMeaning). TakesOff what.Tick (turn_of buffer t) old m) (sym h.0)
    (subst (λ (x : ReceivedInput). TakesOff what.Tick (turn_of buffer x) old old) (sym (same_input t taken.Tick h.1)) (stays_off what.Tick Turn.Tick old refl refl))
takes_off (what.Suspect members) buffer old new t h =
    subst (λ (m : PortMeaning). TakesOff (what.Suspect members) (turn_of buffer t) old m) (sym h.0)
    (subst (λ (x : ReceivedInput). TakesOff (what.Suspect members) (turn_of buffer x) old old) (sym (same_input t (taken.Suspect members) h.1))
    (stays_off (what.Suspect members) (Turn.Suspect members) old refl refl))

-- the law of the detector: what is taken as it is wanted is such a turn
abbrev pub FulfilsWishes : Type 0
FulfilsWishes = (wanted : WantedInput) (size : ℕ) (buffer : List ℕ) (old new : PortMeaning) (t : ReceivedInput) → TakesInput wanted size buffer old new (Ok t) → Fulfils wanted (turn_of buffer t)

take_all : (P : ℕ → Type 0) (n : ℕ) (xs : List ℕ) → AllByRecursion P xs → AllByRecursion P (take n xs)
take_all P zero xs all = tt
take_all P (suc n) [] all = tt
take_all P (suc n) (x ∷ xs) all = (all.0, take_all P n xs all.1)

is_turn : (buffer : List ℕ) (wanted : WantedInput) (t : ReceivedInput) → AreBytes buffer → HasMembers wanted → Fulfils wanted (turn_of buffer t) → IsTurn (turn_of buffer t)
unfolding turn_of
is_turn buffer wanted taken.Tick bytes has fulfils = tt
is_turn buffer wanted (taken.Datagram from len) bytes has fulfils = take_all (λ b. b < 256) len buffer bytes
is_turn buffer what.Receive (taken.Suspect ms) bytes has fulfils = absurd fulfils
is_turn buffer what.Tick (taken.Suspect ms) bytes has fulfils = absurd fulfils
is_turn buffer (what.Suspect wanted) (taken.Suspect ms) bytes has fulfils = subst (λ (ks : List ℕ). IsMembers ks) (sym fulfils) (has wanted refl)

pub took_as_wished : FulfilsWishes → (r : Replica) (w : Watch) (wanted : WantedInput) → wanted ≡ wish_of w r → (buffer : List ℕ) (ahead later : Option Readings) (old between new : PortMeaning) → between ≡ old → (t : ReceivedInput) (reading : ℕ) →
    AreBytes buffer → HasMembers wanted → reading < 2 ^ 64 →
    TakesInput wanted most_received buffer between new (Ok t) → Gives ahead later reading → Took r w (turn_of buffer t, reading) ahead later old new
took_as_wished law r w wanted is buffer ahead later old between new same t reading bytes has few h gives =
    let k : TakesInput wanted most_received buffer old new (Ok t) = subst (λ (m : PortMeaning). TakesInput wanted most_received buffer m new (Ok t)) same h in
    let fulfils = law wanted most_received buffer old new t k in
    record {
      fulfils = subst (λ (x : WantedInput). Fulfils x (turn_of buffer t)) is fulfils;
      can_be = (few, is_turn buffer wanted t bytes has fulfils);
      gives = gives;
      off = subst (λ (x : WantedInput). TakesOff x (turn_of buffer t) old new) is (takes_off wanted buffer old new t k);
    }

-- ---- nothing is taken

abbrev taking_fails : Result ReceivedInput TakeError
taking_fails = Err take_error.PortFault

is_no_fault : (t : ReceivedInput) → taking_fails ≡ taking t → ⊥
is_no_fault t is = cc

module _ {D : Type 0} {g : _} (shell : Shell D g) (m : DiskMeaning) (detector : Detector) (ahead later : Option Readings) (lines : List ℕ) (kept : Log) (r : Replica) (steps : List Draft) (w : Watch) (buffer : List ℕ) (law : FulfilsWishes) where
  receive_fails : (wanted : WantedInput) (old new : PortMeaning) → TakesInput wanted most_received buffer old new (Err take_error.PortFault) → later ≡ ahead → ShellStands shell m kept r steps →
      DetectorStands detector r.me (chosen wanted w) → FailsToReceive shell m detector ahead later old new lines lines kept r steps w
  receive_fails what.Receive old new h unread stands watches = record {
    fault = h.fault refl;
    idle = record { traffic = h.none_taken refl; empties = h.not_empty refl; losses = h.losses; too_long = h.too_long; later = h.later; framing = h.framing; borrowed_as = h.borrowed_as };
    unread = unread;
    stands = stands;
    watches = watches;
    unprinted = refl;
  }
  receive_fails what.Tick old new h unread stands watches = absurd (is_no_fault taken.Tick h.1)
  receive_fails (what.Suspect members) old new h unread stands watches = absurd (is_no_fault (taken.Suspect members) h.1)

  -- why a take failed
  pub take_fails : (wanted : WantedInput) → wanted ≡ wish_of w r → (old between new : PortMeaning) → between ≡ old → (why : TurnError) → Takes wanted buffer between new (Err why) → Reads ahead later (Err why) →
      IsTyped buffer ahead later (Err why) → HasMembers wanted → (why ≡ errors.Failed → ⊥) → (why ≡ errors.PortFault → ShellStands shell m kept r steps) → DetectorStands detector r.me (chosen wanted w) →
      FailsToTake shell m detector ahead later old new lines lines kept r steps w (turn_failure why)
  take_fails wanted is old between new same errors.PortFault takes reads typed has other stands watches =
      receive_fails wanted old new (subst (λ (x : PortMeaning). TakesInput wanted most_received buffer x new (Err take_error.PortFault)) same takes) reads (stands refl) watches
  take_fails wanted is old between new same errors.NoMemory takes reads typed has other stands watches =
      inr ((turn_of buffer takes.0, typed.0), took_as_wished law r w wanted is buffer ahead later old between new same takes.0 typed.0 typed.3 has typed.2 takes.1 typed.1)
  take_fails wanted is old between new same errors.Failed takes reads typed has other stands watches = absurd (other refl)
  take_fails wanted is old between new same errors.DiskFault takes reads typed has other stands watches = absurd takes
  take_fails wanted is old between new same errors.LogFull takes reads typed has other stands watches = absurd takes
