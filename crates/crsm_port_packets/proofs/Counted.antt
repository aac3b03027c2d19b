-- What a send that waits, goes or fails counts.
use Rattle.std.proofs.Common.{◌≤◌, ℕ, List, [], ◌∷◌, Ok, Err, refl, ap, subst, arith, inl, inr}
use Rattle.std.specs.Prelude.{IsOk, OnErr, OnOk, Result}
use Rattle.crsm_base.specs.declared.memory.Failed.{Failed}
use Rattle.crsm_port.specs.Meaning.{Meaning, Packet, SendsAll}
use Rattle.crsm_port_faults.specs.Counts.{Rose}
use Rattle.crsm_port_packets.specs.Given.{MayLetGo}

pub on_ok : (r : Result (Unit {0}) Failed) (P : Type 0) → (IsOk r → P) → OnOk r P
on_ok (Ok u) P f = f refl
on_ok (Err e) P f = tt

pub on_err : (r : Result (Unit {0}) Failed) (P Q : Type 0) → (P → Q) → OnErr r P → OnErr r Q
on_err (Ok u) P Q f is = tt
on_err (Err e) P Q f is = f is

losses_all : (ps : List Packet) (old new : Meaning) → SendsAll ps old new → old.losses ≤ new.losses
losses_all [] old new same = omega (arith, ap (λ (m : Meaning). m.losses) same)
losses_all (p ∷ ps) old new (between, result, one, rest) = omega (arith, one.later, losses_all ps between new rest)

-- the losses of the port below only rise
pub rose_behind : (addresses : List ℕ) (waiting left : List Packet) (old between new : Meaning) → MayLetGo addresses waiting left old between → Rose between.losses new.losses → Rose old.losses new.losses
rose_behind addresses waiting left old between new may rose = elim may [
  | inl stays ↦ subst (λ (m : Meaning). Rose m.losses new.losses) stays.1 rose
  | inr goes ↦ omega (arith, losses_all goes.1.sent old between goes.1.given, rose)
]
