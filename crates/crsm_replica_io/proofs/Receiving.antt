-- A receive of a port, as the input of a step.
use Rattle.std.proofs.Common.{◌≡◌, ◌≤◌, ℕ, zero, suc, min, List, [], ◌∷◌, ◌++◌, length, take, drop, Option, Some, None, Ok, Err, refl, sym, ◌∙◌, ap, IsErrOf, arith}
use Rattle.crsm_base.specs.declared.memory.Failed.{Failed}
use Rattle.crsm_port.specs.Meaning.{Meaning, Traffic, Receives as PortReceives, Takes}
use Rattle.crsm_port.specs.declared.port.Recv.TheVariants as got
use Rattle.crsm_port_faults.specs.Plan.{Plan, Spends}
use Rattle.crsm_replica_io.specs.Input.{Receives, IsFirst}
use Rattle.crsm_replica_io.specs.declared.input.TakeError.{TakeError}
use Rattle.crsm_replica_io.specs.declared.input.TakeError.TheVariants as error
use Rattle.crsm_replica_io.specs.declared.input.ReceivedInput.TheVariants as taken

-- the prefix that was copied is the prefix of the datagram
prefix : (n : ℕ) (d x : List ℕ) → n ≤ length d → take n (take n d ++ x) ≡ take n d
prefix zero d x h = refl
prefix (suc n) [] x h = absurd (omega arith)
prefix (suc n) (y ∷ d) x h = ap (λ r. y ∷ r) (prefix n d x (omega arith))

-- a prefix up to the end of the list or of this length
cut : (n most : ℕ) (d : List ℕ) → n ≡ min most (length d) → take n d ≡ take most d
cut zero zero d h = refl
cut zero (suc most) [] h = refl
cut zero (suc most) (y ∷ d) h = absurd (omega arith)
cut (suc n) zero d h = absurd (omega arith)
cut (suc n) (suc most) [] h = absurd (omega arith)
cut (suc n) (suc most) (y ∷ d) h = ap (λ r. y ∷ r) (cut n most d (omega arith))

-- what a call took of the room, whatever it gave
goes_so : {A B : Type 0} {a : A} {b : B} (old new : Option Plan) → Spends 0 0 old new (Ok a) → Spends {T = B} 0 0 old new (Ok b)
goes_so old new s = record { untold = s.untold; told = s.told; exact = s.exact; spends = s.spends }

fails_so : {A B : Type 0} (old new : Option Plan) (d e : Failed) → Spends {T = A} 0 0 old new (Err d) → Spends {T = B} 0 0 old new (Err e)
fails_so old new d e s = record { untold = s.untold; told = s.told; exact = s.exact; spends = s.spends }

pub fails : (old new : Meaning) (before after : List ℕ) (e : Failed) → PortReceives old new before after (Err e) → Receives (length before) after old new (Err error.PortFault)
fails old new before after e r = record {
  losses = r.losses;
  later = r.later;
  counted = tt;
  fault = λ _. r.failed;
  no_fault = λ k. absurd (k refl);
  first = λ t u a b. tt;
  not_empty = λ _. r.not_empty;
  none_taken = λ _. r.untaken;
  too_long = r.too_long;
  told = r.told;
  framing = r.framing;
  borrowed_as = r.borrowed_as;
  plan = fails_so old.plan new.plan e (record {}) r.plan;
  well = λ p a good is. none_is_some (sym good ∙ (r.plan.exact p a (omega arith) (omega arith)).0 refl);
}
  where
    none_is_some : {n : ℕ} → None ≡ Some n → ⊥
    none_is_some h = cc

pub nothing : (old new : Meaning) (before after : List ℕ) → PortReceives old new before after (Ok got.Nothing) → Receives (length before) after old new (Ok taken.Tick)
nothing old new before after r = record {
  losses = r.losses;
  later = r.later;
  counted = r.empties;
  fault = λ is. absurd (ok is);
  no_fault = λ _. r.no_fault;
  first = λ t u a b. ((r.taken t u a b).0, (r.taken t u a b).1);
  not_empty = λ is. absurd (ok is);
  none_taken = λ is. absurd (ok is);
  too_long = r.too_long;
  told = r.told;
  framing = r.framing;
  borrowed_as = r.borrowed_as;
  plan = goes_so old.plan new.plan r.plan;
  well = λ p a good is. ok is;
}
  where
    ok : IsErrOf {E = TakeError} (Ok taken.Tick) error.PortFault → ⊥
    ok h = cc

pub datagram : (old new : Meaning) (before after : List ℕ) (from len : ℕ) → PortReceives old new before after (Ok (got.Datagram from len))
    → Receives (length before) after old new (Ok (taken.Datagram from len))
datagram old new before after from len r = record {
  losses = r.losses;
  later = r.later;
  counted = r.empties;
  fault = λ is. absurd (ok is);
  no_fault = λ _. r.no_fault;
  first = λ t u a b. as_first t u (r.taken t u a b);
  not_empty = λ is. absurd (ok is);
  none_taken = λ is. absurd (ok is);
  too_long = r.too_long;
  told = r.told;
  framing = r.framing;
  borrowed_as = r.borrowed_as;
  plan = goes_so old.plan new.plan r.plan;
  well = λ p a good is. ok is;
}
  where
    ok : IsErrOf {E = TakeError} (Ok (taken.Datagram from len)) error.PortFault → ⊥
    ok h = cc

    as_first : (t u : Traffic) → Takes old.framing t u before after (got.Datagram from len) → IsFirst (length before) after old.framing t u (taken.Datagram from len)
    as_first t u (d, rest, waits, address, size, copied, gone) =
        let bytes = (old.framing.unwrap d).bytes in
        (d, rest, waits, address, ap (take len) copied ∙ prefix len bytes (drop len before) (omega (arith, size)) ∙ cut len (length before) bytes size, gone)
