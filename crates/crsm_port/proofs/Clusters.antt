-- A datagram received from the wire is returned without its mark.
use Rattle.std.proofs.Common.{◌≡◌, ◌≢◌, ◌≤◌, ◌+◌, ◌-◌, ◌^◌, ℕ, zero, suc, min, List, [], ◌∷◌, ◌++◌, length, take, drop, Some, None, Result, Ok, refl, ◌∙◌, ap, arith}
use Rattle.crsm_base.specs.declared.memory.Failed.{Failed}
use Rattle.crsm_port_faults.specs.Plan.{Plan, Spends}
use Rattle.crsm_port.specs.Cluster.{clustered, over, unwrapped, most_on_the_wire}
use Rattle.crsm_port.specs.Meaning.{Meaning, Receives, Takes, Traffic}
use Rattle.crsm_port.specs.declared.port.Recv.TheVariants.{Datagram}

-- the prefix that was copied is the prefix of the datagram
prefix : (n : ℕ) (d x : List ℕ) → n ≤ length d → take n (take n d ++ x) ≡ take n d
prefix zero d x h = refl
prefix (suc n) [] x h = absurd (omega arith)
prefix (suc n) (y ∷ d) x h = ap (λ r. y ∷ r) (prefix n d x (omega arith))

-- a prefix up to the end of the list or so many
cut : (n most : ℕ) (d : List ℕ) → n ≡ min most (length d) → take n d ≡ take most d
cut zero zero d h = refl
cut zero (suc most) [] h = refl
cut zero (suc most) (y ∷ d) h = absurd (omega arith)
cut (suc n) zero d h = absurd (omega arith)
cut (suc n) (suc most) [] h = absurd (omega arith)
cut (suc n) (suc most) (y ∷ d) h = ap (λ r. y ∷ r) (cut n most d (omega arith))

-- a port without a plan tells none
no_plan : {T : Type 0} (calls bytes : ℕ) (result : Result T Failed) → Spends calls bytes None None result
no_plan calls bytes result = record { untold = λ _. refl; told = λ p is. absurd (none_is_some is); exact = λ p is. absurd (none_is_some is); spends = λ p is. absurd (none_is_some is) }
  where
    none_is_some : {p : Plan} → None ≡ Some p → ⊥
    none_is_some h = cc

pub came : (c too_long : ℕ) (old new : Meaning) (room wire before after own : List ℕ) (from len own_len : ℕ) → c ≢ 0 → length room ≡ 8201 → Receives old new room wire (Ok (Datagram from len))
    → own ≡ unwrapped c (take len wire) → own_len ≡ min (length before) (length own) → after ≡ take own_len own ++ drop own_len before
    → Receives (clustered c too_long old) (clustered c too_long new) before after (Ok (Datagram from own_len))
came zero too_long old new room wire before after own from len own_len some sized r is size copied = absurd (some refl)
came (suc c) too_long old new room wire before after own from len own_len some sized r is size copied = record {
  within = omega (arith, size);
  losses = ap (λ n. min (n + too_long) (2 ^ 64 - 1)) r.losses;
  later = r.later;
  failed = tt;
  no_fault = r.no_fault;
  empties = r.empties;
  not_empty = tt;
  taken = λ t u a b. takes t u (r.taken t u a b);
  untaken = tt;
  too_long = refl;
  told = r.told;
  framing = ap (over (suc c)) r.framing;
  borrowed_as = r.borrowed_as;
  plan = no_plan 0 0 (Ok (Datagram from own_len));
}
  where
    takes : (t u : Traffic) → Takes old.framing t u room wire (Datagram from len) → Takes (over (suc c) old.framing) t u before after (Datagram from own_len)
    takes t u (d, rest, waits, address, whole, wired, gone) =
        let bytes = (old.framing.unwrap d).bytes in
        let first : take len wire ≡ take most_on_the_wire bytes =
        ap (take len) wired ∙ prefix len bytes (drop len room) (omega (arith, whole)) ∙ cut len most_on_the_wire bytes (omega (arith, whole, sized)) in
        let mine : own ≡ unwrapped (suc c) (take most_on_the_wire bytes) = is ∙ ap (unwrapped (suc c)) first in
        (d, rest, waits, address, size ∙ ap (λ (b : List ℕ). min (length before) (length b)) mine, copied ∙ ap (λ (b : List ℕ). take own_len b ++ drop own_len before) mine, gone)
